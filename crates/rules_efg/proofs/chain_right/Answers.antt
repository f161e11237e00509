use mathlib.Core.Path.{◌≡◌, sym, ◌∙◌}
use Prim.Native.Nat.{◌+◌, ◌-◌}
use native.Mathlib.Omega.{arith}
use Rattle.meaning.specs.Mem.{E}
use Rattle.meaning.specs.Rules.{chain_right}
use Rattle.invariants.proofs.Tests.{fails, clash}
use Rattle.invariants.proofs.Listed.{keeps_is, is_keeps, over_long, here, trail_more, trail_done}
use Rattle.rules_efg.proofs.chain_right.Goals as goal
use Rattle.rules_efg.proofs.chain_right.Goals.{then-n-e-via-then-n-e, then-n-e-via-else-n-e+then-not-of_bucket}

pub returns-then-e : goal.returns-then-e
unfolding chain_right
returns-then-e c = sym (is_keeps (trail_done c.loop.invariant c.if-e.true (omega arith)))

pub returns-then-n-e : goal.returns-then-n-e
unfolding chain_right
returns-then-n-e c =
    elim c.then-n-e.branch [
      | then-n-e-via-then-n-e w ↦ fails _ (λ h. omega (arith, (here c.loop.invariant c.if-e.false (omega arith) (keeps_is _ _ _ h)).0))
      | then-n-e-via-else-n-e+then-not-of_bucket w ↦ fails _ (λ h. clash (here c.loop.invariant c.if-e.false (omega arith) (keeps_is _ _ _ h)).1 (sym w.of_bucket.ensures ∙ w.if-not-of_bucket.true))
    ]

pub loop-preserved : goal.loop-preserved
loop-preserved c =
    let ws = c.args.d.now.words.now in
    let v = c.loop.counter in
    let k : E ws + 1 - (v + 1) ≡ E ws + 1 - v - 1 = omega arith in
    rw (c.cell-e.ensures, k) (trail_more c.loop.invariant c.if-e.false (omega arith) (omega arith) (sym c.of_bucket.ensures ∙ c.if-not-of_bucket.false))

pub returns-else-not-of_bucket : goal.returns-else-not-of_bucket
unfolding chain_right
returns-else-not-of_bucket c =
    fails _ (λ h. over_long (trail_more c.loop.invariant c.if-e.false (omega arith) (omega arith) (sym c.of_bucket.ensures ∙ c.if-not-of_bucket.false)) (omega arith) (keeps_is _ _ _ h))
