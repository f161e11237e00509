-- The refusals in their order, and the fresh directory.
use Rattle.meaning.proofs.Exits.{passed_on}
use Rattle.form_look_report.proofs.Formed.{form_refuses, form_misfits, form_fits, form_done}
use Rattle.form_look_report.proofs.forming.form.Goals as goal

pub returns-in_err-entries : goal.returns-in_err-entries
returns-in_err-entries c = rw (passed_on _ c.from_residual.ensures.1) (form_refuses _ c.in_err-entries.ensures.counted c.args.words.now)

pub returns-then-words-length_for : goal.returns-then-words-length_for
returns-then-words-length_for c = form_misfits _ c.in_ok-entries.ensures.counted c.length_for.ensures.0 c.args.words.now c.if-words-length_for.true

pub form_fresh-requires : goal.form_fresh-requires
form_fresh-requires c = form_fits _ c.in_ok-entries.ensures.counted c.length_for.ensures.0 c.args.words.now c.if-words-length_for.false c.bits_of.ensures.0

pub returns : goal.returns
returns c = form_done _ c.in_ok-entries.ensures.counted c.length_for.ensures.0 c.args.words.now c.if-words-length_for.false c.form_fresh.ensures
