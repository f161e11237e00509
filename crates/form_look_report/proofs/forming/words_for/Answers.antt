-- The refusals in their order, and the length.
use Rattle.meaning.proofs.Exits.{passed_on}
use Rattle.form_look_report.proofs.Formed.{length_refuses, length_gives}
use Rattle.form_look_report.proofs.forming.words_for.Goals as goal

pub returns-in_err-entries_for : goal.returns-in_err-entries_for
returns-in_err-entries_for c = rw (passed_on _ c.from_residual.ensures.1) (length_refuses _ c.in_err-entries_for.ensures.counted)

pub returns : goal.returns
returns c = length_gives _ c.in_ok-entries_for.ensures.counted c.length_for.ensures.0
