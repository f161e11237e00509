use Rattle.std.proofs.Common.{sym, ap, ◌∙◌, ℕ, ◌+◌, ◌-◌}
use Rattle.std.proofs.Math.ListN.{set, length-set}
use Rattle.std.proofs.lemmas.List.Edits.{sets}
use Rattle.meaning.specs.Base.{series}
use Rattle.meaning.specs.Rules.{page_in}
use Rattle.form_look_report.proofs.Reported.{sets_next, sets_last, sets_over}
use Rattle.form_look_report.proofs.reporting.write_first.Goals as goal

pub loop-i-preserved : goal.loop-i-preserved
loop-i-preserved c =
    let a = c.args in (
      ap (λ (v : ℕ). sets (set c.loop-i.res c.loop-i.i v) (c.loop-i.i + 1) (series (page_in a.words.now) (a.n - (c.loop-i.i + 1)) (c.loop-i.i + 1))) c.cell.ensures
          ∙ sym (sets_next (page_in a.words.now) c.loop-i.res c.loop-i.i a.n c.loop-i-test.true)
          ∙ c.loop-i.invariant.0,
      simp length-set c.loop-i.invariant.1,
    )

pub returns : goal.returns
returns c =
    let a = c.args in
    sym (sets_last (page_in a.words.now) c.loop-i.res c.loop-i.i a.n c.loop-i-test.false)
    ∙ c.loop-i.invariant.0
    ∙ sets_over (page_in a.words.now) a.res.now a.n c.requires.1
