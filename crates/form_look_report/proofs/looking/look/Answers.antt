-- The refusals in their order, and what is seen.
use Rattle.std.proofs.Common.{arith}
use Rattle.meaning.proofs.Exits.{passed_on}
use Rattle.sound.proofs.Entry.{page_allowed}
use Rattle.form_look_report.proofs.Looked.{look_refused, look_sees}
use Rattle.form_look_report.proofs.looking.look.Goals as goal

pub returns-in_err-askable : goal.returns-in_err-askable
returns-in_err-askable c = rw (passed_on _ c.from_residual.ensures.1) (look_refused c.args.words.now c.args.page c.in_err-askable.ensures)

pub seen-requires : goal.seen-requires
seen-requires c = let t = page_allowed _ c.args.page c.in_ok-askable.ensures in (t.0, omega arith)

pub returns : goal.returns
returns c = look_sees c.args.words.now c.args.page c.in_ok-askable.ensures c.seen.ensures
