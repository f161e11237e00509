use Rattle.cells.proofs.Single.{mark_turns}
use Rattle.cells.proofs.set_mark.Goals as goal

pub returns : goal.returns
returns c = mark_turns _ (cc)
