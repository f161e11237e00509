-- The refusals in their order, and the pages of the list.
use Rattle.std.proofs.Common.{◌∙◌, sym, arith}
use Rattle.meaning.proofs.Exits.{passed_on}
use Rattle.sound.proofs.Entry.{ready}
use Rattle.invariants.proofs.Numbered.{list_fits}
use Rattle.form_look_report.proofs.Reported.{report_unsound, report_unlisted, report_short, report_gives}
use Rattle.form_look_report.proofs.reporting.report.Goals as goal

pub returns-in_err-checked : goal.returns-in_err-checked
returns-in_err-checked c =
    let r = c.in_err-checked.ensures.refused in
    rw (passed_on _ c.from_residual.ensures.1, r.0) (report_unsound c.args.words.now c.args.list c.args.res.now r.1)

pub word-requires : goal.word-requires
word-requires c = omega (arith, (ready _ c.in_ok-checked.ensures.ok).repr.holds.size)

pub returns-then-not-is_list : goal.returns-then-not-is_list
returns-then-not-is_list c = report_unlisted c.args.words.now c.args.list c.args.res.now c.in_ok-checked.ensures.ok c.word.ensures c.is_list.ensures c.if-not-is_list.true

pub count_on-n-requires-clause-le_list : goal.count_on-n-requires-clause-le_list
count_on-n-requires-clause-le_list c = list_fits c.word.result c.args.list (sym c.is_list.ensures ∙ c.if-not-is_list.false)

pub returns-then-res-n : goal.returns-then-res-n
returns-then-res-n c =
    report_short c.args.words.now c.args.list c.args.res.now c.in_ok-checked.ensures.ok c.word.ensures c.is_list.ensures c.if-not-is_list.false c.count_on-n.ensures c.if-res-n.true

pub write_list-requires-clause-le_list : goal.write_list-requires-clause-le_list
write_list-requires-clause-le_list c = list_fits c.word.result c.args.list (sym c.is_list.ensures ∙ c.if-not-is_list.false)

pub returns : goal.returns
returns c =
    report_gives c.args.words.now c.args.list c.args.res.now c.in_ok-checked.ensures.ok c.word.ensures c.is_list.ensures c.if-not-is_list.false
    c.count_on-n.ensures c.if-res-n.false c.write_list.ensures
