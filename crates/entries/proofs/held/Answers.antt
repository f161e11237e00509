use Rattle.std.proofs.Common.{◌≡◌, refl, sym, ap, ◌∙◌, ℕ, arith}
use Rattle.meaning.specs.Base.{tally}
use Rattle.meaning.specs.Layout.{is_held}
use Rattle.meaning.specs.Rules.{holds}
use Rattle.invariants.proofs.Tests.{tally_yes, tally_no}
use Rattle.cells.proofs.Bounds.{entry_room, few_le}
use Rattle.entries.proofs.Scans.{held_all}
use Rattle.entries.proofs.held.Goals as goal
use Rattle.entries.proofs.held.Goals.{then-is_held, else-is_held}

pub loop-i-init : goal.loop-i-init
unfolding tally
loop-i-init c = (refl, omega arith)

pub cell-requires : goal.cell-requires
cell-requires c = (omega arith, entry_room c.requires c.word-n.ensures (omega arith))

pub loop-i-preserved : goal.loop-i-preserved
loop-i-preserved c =
    let at = c.loop-i in
    let t = holds c.args.words.now in
    let e = c.is_held.ensures ∙ ap is_held c.cell.ensures in
    elim c.if-is_held.branch [
      | then-is_held w ↦ (w.k-is ∙ tally_yes at.i at.k t at.invariant.0 (sym e ∙ w.if-is_held.true), omega arith)
      | else-is_held w ↦ (w.k-is ∙ tally_no at.i at.k t at.invariant.0 (sym e ∙ w.if-is_held.false), omega arith)
    ]

pub returns-clause-says : goal.returns-clause-says
returns-clause-says c =
    let at = c.loop-i in
    let t = holds c.args.words.now in
    let e : at.i ≡ c.word-n.result = omega arith in
    held_all c.word-n.ensures (at.invariant.0 ∙ ap (λ (m : ℕ). tally m t) e)

pub returns-clause-upper_bound : goal.returns-clause-upper_bound
returns-clause-upper_bound c = omega (arith, few_le)
