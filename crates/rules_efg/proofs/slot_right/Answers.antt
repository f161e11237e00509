use mathlib.Core.Path.{sym, ◌∙◌}
use mathlib.Core.Bool.{not}
use native.Mathlib.Omega.{arith}
use borrow.Author.Rules.{rules}
use borrow.Author.Tests.{tests, lt-ltb}
use lib.Dec.{eqb}
use Rattle.meaning.specs.Base.{◌⇒◌}
use Rattle.meaning.specs.Rules.{slot_in, holds, slot_right}
use Rattle.invariants.proofs.Tests.{joins}
use Rattle.readers.proofs.Ranges.{every_below}
use Rattle.rules_efg.proofs.slot_right.Goals as goal

pub returns-then-slot-held : goal.returns-then-slot-held
unfolding slot_right
returns-then-slot-held c =
    let ws = c.args.d.now.words.now in
    let i = c.args.i in
    simp (sym c.holds.ensures ∙ c.if-holds.true)
    (joins (lt-ltb (slot_in ws i) c.args.held (omega (arith, c.cell-slot.ensures)))
    (every_below (λ h. holds ws h ⇒ not (eqb (slot_in ws h) (slot_in ws i))) c.all.ensures.ran (λ x b q k. search (rules, tests)) i (cc)))
