use Rattle.std.proofs.Common.{◌≡◌, sym, ap, ◌∙◌, get_or, ℕ, arith, add-one}
use lib.Dec.{eqb}
use borrow.Author.Tests.{eq-eqb, ne_eqb}
use Rattle.meaning.specs.Base.{every}
use Rattle.meaning.specs.Layout.{cell_at}
use Rattle.meaning.specs.Mem.{word}
use Rattle.meaning.specs.Rules.{free_words, is_free}
use Rattle.invariants.proofs.Tests.{both, fails, clash, every_at}
use Rattle.rules_abc.proofs.is_free.Goals as goal

pub loop-f-preserved : goal.loop-f-preserved
loop-f-preserved c = rw (add-one c.loop-f.f) (both c.loop-f.invariant (eq-eqb _ _ (sym c.cell.ensures ∙ c.if-cell-free.false)))

pub returns-then-cell-free : goal.returns-then-cell-free
unfolding is_free
returns-then-cell-free c =
    let t = λ (x : ℕ). eqb (word c.args.d.now.words.now (cell_at c.args.i x)) (get_or free_words x 0) in
    fails _ (λ h. clash (every_at 8 t h c.loop-f.f (omega arith)) (ne_eqb _ _ (λ q. c.if-cell-free.true (c.cell.ensures ∙ q))))

pub returns : goal.returns
unfolding is_free
returns c =
    let t = λ (x : ℕ). eqb (word c.args.d.now.words.now (cell_at c.args.i x)) (get_or free_words x 0) in
    let e : c.loop-f.f ≡ 8 = omega arith in
    sym (ap (λ (n : ℕ). every n t) (sym e) ∙ c.loop-f.invariant)
