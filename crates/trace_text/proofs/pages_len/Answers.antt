use Prim.Native.Nat.{◌+◌}
use mathlib.Core.Path.{◌≡◌, sym, ◌∙◌}
use native.Mathlib.Omega.{arith}
use lib.ListN.{length}
use Rattle.std.specs.Prelude.{sum_by}
use Rattle.std.proofs.lemmas.Grind.{common_steps}
use Rattle.meaning.specs.Text.{decimal}
use Rattle.trace_text.proofs.Writing.{pages_length, pages_bound}
use Rattle.trace_text.proofs.pages_len.Goals as goal

pub returns : goal.returns
returns c =
    let t = c.args.trace.now in
    let s : c.sum.result ≡ sum_by (λ p. 6 + length (decimal p)) t = grind (arith, common_steps) in
    (s ∙ sym (pages_length t), omega (arith, pages_length t, pages_bound t (λ i. omega (arith, c.type_inv.trace i))))
