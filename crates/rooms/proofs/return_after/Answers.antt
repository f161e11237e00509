use Rattle.rooms.proofs.Rooming.{room_serves}
use Rattle.rooms.proofs.return_after.Goals as goal

pub returns : goal.returns
returns g c = room_serves _ c.make_room-f.ensures c.returns.ensures
