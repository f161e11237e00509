use Rattle.meaning.proofs.Exits.{passed_on}
use Rattle.form_look_report.proofs.Formed.{counts_refused, counts_gave}
use Rattle.form_look_report.proofs.forming.entries_for.Goals as goal

pub returns-in_err-accepted : goal.returns-in_err-accepted
returns-in_err-accepted c = rw (passed_on _ c.from_residual.ensures.1) record { counted = counts_refused _ c.in_err-accepted.ensures; few = tt }

pub returns : goal.returns
returns c = let k = counts_gave _ c.in_ok-accepted.ensures c.entries_of.ensures in record { counted = k.0; few = k.1 }
