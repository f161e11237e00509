-- Requests in turn: what one more request does to the counts and to what is left of a trace.
use Prim.Native.Nat.{ℕ, suc, ◌+◌, ◌≤◌, ◌<◌}
use mathlib.Core.Path.{◌≡◌, refl, sym, ap, ◌∙◌}
use mathlib.Core.Bool.{true, false}
use mathlib.Core.List.{List, [], map}
use native.Mathlib.Numerals.{add-one}
use lib.ListN.{length, drop, get_or, drop_of_length-le}
use lib.Seq.{drop-cons}
use borrow.Author.Tests.{lt-ltb, le-ltb}
use Rattle.meaning.specs.Neighbours.{NONE, has}
use Rattle.meaning.specs.Room.{Reply}
use Rattle.meaning.specs.Rules.{sound}
use Rattle.meaning.specs.Calls.{plain, gave, Outcome, refuse, answered, requested, ask, happens, Ran, run, Counts, none, counted, counted_by, counting, in_turn, ran, replayed}
use Rattle.std.specs.Prelude.{Result, Ok, Err}
use Rattle.meaning.specs.Answers.{counts_of, replay_says}
use Rattle.meaning.specs.declared.Counts.{Counts as Counted}
use Rattle.meaning.specs.declared.Refusal.{Refusal}
use Rattle.meaning.specs.declared.Refusal.TheVariants.{Unsound, TooLong, PageIsNone}
use Rattle.replay.specs.Replays.{RanAs, ReplayedAs}

-- What is left of a trace, from these counts and words on.
abbrev pub onward : Counts → List ℕ → List ℕ → Ran Counts (List ℕ)
onward c ws t = run happens counting c ws (map ask t)

-- One more request, of what is left of a trace.
pub next_page : (t : List ℕ) (i : ℕ) (c c' : Counts) (ws ws' : List ℕ) (a : Reply) → i < length t → requested ws (get_or t i 0) ≡ answered ws (get_or t i 0)
    → gave a ≡ (answered ws (get_or t i 0)).said → ws' ≡ (answered ws (get_or t i 0)).left → c' ≡ counted c a.kind → onward c' ws' (drop (i + 1) t) ≡ onward c ws (drop i t)
unfolding run happens counting
next_page t i c c' ws ws' a l q e f g =
    let p = get_or t i 0 in
    rw (drop-cons t i 0 l, add-one i)
    ((λ j. onward ((g ∙ ap (counted_by c) e) j) (f j) (drop (suc i) t))
    ∙ ap (λ (o : Outcome Reply (List ℕ)). onward (counted_by c o.said) o.left (drop (suc i) t)) (sym q))

-- The whole trace is done.
pub all_asked : (t : List ℕ) (i : ℕ) (c : Counts) (ws ws₀ : List ℕ) → length t ≤ i → onward c ws (drop i t) ≡ onward none ws₀ t → RanAs ws₀ t c ws
unfolding run in_turn
all_asked t i c ws ws₀ l e =
    let k : onward c ws [] ≡ onward none ws₀ t = ap (onward c ws) (sym (drop_of_length-le t {i = i} l)) ∙ e in
    record { counts = ap (λ (r : Ran Counts (List ℕ)). r.gathered) k; memory = ap (λ (r : Ran Counts (List ℕ)). r.left) k }

module _ (ws t : List ℕ) where
  settled : (o : Outcome Counts (List ℕ)) (r : Result Counted Refusal) (ws' : List ℕ) → replayed ws t ≡ o → replay_says r ≡ o.said → ws' ≡ o.left → ReplayedAs ws t r ws'
  settled o r ws' e a b = record { answer = a ∙ sym (ap (λ (x : Outcome Counts (List ℕ)). x.said) e); memory = b ∙ sym (ap (λ (x : Outcome Counts (List ℕ)). x.left) e) }

  -- 5: the words are not sound.
  pub unsound : sound ws ≡ false → ReplayedAs ws t (Err Unsound) ws
  unfolding replayed refuse
  unsound s = settled (refuse (plain 5) ws) (Err Unsound) ws (simp s) refl refl

  -- 7: the trace is too long.
  pub too_long : sound ws ≡ true → 65535 < length t → ReplayedAs ws t (Err TooLong) ws
  unfolding replayed refuse
  too_long s l = settled (refuse (plain 7) ws) (Err TooLong) ws (simp (s, lt-ltb 65535 (length t) l)) refl refl

  -- 6: a page is NONE.
  pub unpaged : sound ws ≡ true → length t ≤ 65535 → has t NONE ≡ true → ReplayedAs ws t (Err PageIsNone) ws
  unfolding replayed refuse
  unpaged s l h = settled (refuse (plain 6) ws) (Err PageIsNone) ws (simp (s, le-ltb 65535 (length t) l, h)) refl refl

  -- The counts of the requests in turn.
  pub counts : {c : Counted} {ws' : List ℕ} → sound ws ≡ true → length t ≤ 65535 → has t NONE ≡ false → RanAs ws t (counts_of c) ws' → ReplayedAs ws t (Ok c) ws'
  unfolding replayed ran
  counts {c} {ws'} snd len h r = settled (ran (in_turn ws t)) (Ok c) ws' (simp (snd, le-ltb 65535 (length t) len, h)) (ap gave r.counts) r.memory
