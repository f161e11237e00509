use Rattle.std.proofs.Common.{refl, sym, ap}
use Rattle.meaning.specs.Calls.{gave}
use Rattle.meaning.specs.Answers.{reply_of}
use Rattle.meaning.specs.declared.Answer.{Answer}
use Rattle.meaning.proofs.Exits.{passed_on}
use Rattle.policies.proofs.Requesting.{slot_given}
use Rattle.policies.proofs.requests.slot_for.Goals as goal

pub returns-in_err-answer : goal.returns-in_err-answer
returns-in_err-answer c = rw (passed_on _ c.from_residual.ensures.1) (slot_given c.in_err-answer.ensures refl)

pub returns-in_default-answer : goal.returns-in_default-answer
returns-in_default-answer c = slot_given c.in_ok-answer.ensures (sym (ap (λ (x : Answer). gave (reply_of x).slot) c.in-Swapped.is))

pub returns-in_default : goal.returns-in_default
returns-in_default c = slot_given c.in_ok-answer.ensures (sym (ap (λ (x : Answer). gave (reply_of x).slot) c.in-Loaded.is))

pub returns : goal.returns
returns c = slot_given c.in_ok-answer.ensures (sym (ap (λ (x : Answer). gave (reply_of x).slot) c.in-Hit.is))
