use Rattle.std.proofs.Common.{◌≡◌, refl, sym, ap, ◌∙◌, ℕ, arith}
use borrow.Author.Tests.{eq-eqb, ne_eqb}
use Rattle.meaning.specs.Base.{tally}
use Rattle.meaning.specs.Rules.{on}
use Rattle.invariants.proofs.Tests.{tally_yes, tally_no}
use Rattle.readers.proofs.Entries.count_on.Goals as goal
use Rattle.readers.proofs.Entries.count_on.Goals.{then-cell-j, else-cell-j}

pub loop-i-init : goal.loop-i-init
unfolding tally
loop-i-init c = (refl, omega arith)

pub loop-i-preserved : goal.loop-i-preserved
loop-i-preserved c =
    let at = c.loop-i in
    let t = on c.args.self.now.words.now c.args.j in
    elim c.if-cell-j.branch [
      | then-cell-j w ↦ (w.k-is ∙ tally_yes at.i at.k t at.invariant.0 (eq-eqb _ _ (sym c.cell.ensures ∙ w.if-cell-j.true)), omega arith)
      | else-cell-j w ↦ (w.k-is ∙ tally_no at.i at.k t at.invariant.0 (ne_eqb _ _ (λ q. w.if-cell-j.false (c.cell.ensures ∙ q))), omega arith)
    ]

pub returns : goal.returns
returns c =
    let at = c.loop-i in
    let t = on c.args.self.now.words.now c.args.j in
    let e : at.i ≡ c.len-i-end.result = omega arith in
    (at.invariant.0 ∙ ap (λ (m : ℕ). tally m t) (e ∙ c.len-i-end.ensures), omega arith)
