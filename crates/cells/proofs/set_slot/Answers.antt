use Rattle.cells.proofs.Single.{slot_turns}
use Rattle.cells.proofs.set_slot.Goals as goal

pub returns : goal.returns
returns c = slot_turns _ (cc)
