-- The refusals, and the step.
use Rattle.std.proofs.Common.{arith}
use Rattle.meaning.proofs.Exits.{passed_on}
use Rattle.sound.proofs.Entry.{page_allowed}
use Rattle.policies.proofs.Requesting.{not_asked, a_page}
use Rattle.policies.proofs.requests.request.Goals as goal

pub returns-in_err-askable : goal.returns-in_err-askable
returns-in_err-askable c = rw (passed_on _ c.from_residual.ensures.1) (not_asked c.args.words.now c.args.page c.in_err-askable.ensures)

pub step-requires : goal.step-requires
step-requires c = let t = page_allowed c.args.words.now c.args.page c.in_ok-askable.ensures in record { words_value = t.0; page_bound = omega arith }

pub returns : goal.returns
returns c = a_page c.args.words.now c.args.page c.in_ok-askable.ensures c.step.ensures
