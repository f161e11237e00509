-- The five lines, one behind the other.
use Prim.Native.Nat.{ℕ, ◌+◌, ◌≤◌}
use mathlib.Core.Path.{◌≡◌, sym, ap, ◌∙◌}
use mathlib.Core.List.{List}
use native.Mathlib.Omega.{arith}
use lib.ListN.{length, take, drop, length-append}
use lib.Seq.{sets, take-append_seam}
use Rattle.meaning.specs.Calls.{over}
use Rattle.meaning.specs.Text.{line_of}
use Rattle.meaning.specs.Program.{Five, refused_key, line_key, hits_key, loads_key, swaps_key, five_lines}
use Rattle.text_lines.proofs.Writing.{Put, put_step, line_length, decimal_short, sets_front}

-- A line takes at most eleven bytes besides its key.
pub line_short : (key : List ℕ) (v : ℕ) → v ≤ 4294967295 → length (line_of key v) ≤ length key + 11
line_short key v h = omega (arith, line_length key v, decimal_short v h)

-- The length of the five lines.
five_length : (r : Five) → length (five_lines r) ≡ length (line_of refused_key r.refused) + (length (line_of line_key r.line)
    + (length (line_of hits_key r.counts.hits) + (length (line_of loads_key r.counts.loads) + length (line_of swaps_key r.counts.swaps))))
unfolding five_lines
five_length r = simp length-append

-- Five lines written one behind the other are the front of the buffer.
pub five_put : (l : List ℕ) (r : Five) {l₁ l₂ l₃ l₄ l₅ : List ℕ} {r₁ r₂ r₃ r₄ r₅ : ℕ}
    → Put l 0 (line_of refused_key r.refused) l₁ r₁ → Put l₁ r₁ (line_of line_key r.line) l₂ r₂ → Put l₂ r₂ (line_of hits_key r.counts.hits) l₃ r₃
    → Put l₃ r₃ (line_of loads_key r.counts.loads) l₄ r₄ → Put l₄ r₄ (line_of swaps_key r.counts.swaps) l₅ r₅ → r₅ ≤ length l → take r₅ l₅ ≡ five_lines r
unfolding five_lines over
five_put l r {l₁} {l₂} {l₃} {l₄} {l₅} {r₁} {r₂} {r₃} {r₄} {r₅} e₁ e₂ e₃ e₄ e₅ h =
    let all : l₅ ≡ sets l 0 (five_lines r) =
    e₅.0
    ∙ sym (put_step l 0 (line_of refused_key r.refused) _ e₁
    ∙ put_step l₁ r₁ (line_of line_key r.line) _ e₂
    ∙ put_step l₂ r₂ (line_of hits_key r.counts.hits) _ e₃
    ∙ put_step l₃ r₃ (line_of loads_key r.counts.loads) (line_of swaps_key r.counts.swaps) e₄) in
    let long : r₅ ≡ length (five_lines r) = omega (arith, e₁.1, e₂.1, e₃.1, e₄.1, e₅.1, five_length r) in
    ap (λ (k : ℕ). take k l₅) long ∙ ap (take (length (five_lines r))) (all ∙ sets_front l (five_lines r) (omega (arith, long, h))) ∙ take-append_seam (five_lines r) (drop (length (five_lines r)) l)
