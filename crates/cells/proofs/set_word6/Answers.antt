use Rattle.cells.proofs.Single.{word6_turns}
use Rattle.cells.proofs.set_word6.Goals as goal

pub returns : goal.returns
returns c = word6_turns _ (cc)
