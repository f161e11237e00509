use Rattle.entries.proofs.Filling.{seat_turns}
use Rattle.entries.proofs.seat.Goals as goal

pub returns : goal.returns
returns c = seat_turns _ (cc)
