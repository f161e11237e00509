use mathlib.Core.Path.{ap, ◌∙◌}
use Prim.Native.Nat.{ℕ, ◌^◌}
use native.Mathlib.Omega.{arith}
use Rattle.meaning.specs.Layout.{length_for}
use Rattle.settings.proofs.length_for.Goals as goal

pub returns : goal.returns
unfolding length_for
returns c = (omega (arith, c.buckets_of.ensures.0 ∙ ap (λ (k : ℕ). 2 ^ k) c.bits_of.ensures.0), omega arith)
