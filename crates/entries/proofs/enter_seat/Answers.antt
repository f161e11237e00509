use Rattle.entries.proofs.Filling.{room_ready, fresh_off, enter_seat_turns}
use Rattle.cells.proofs.Composed.{ready_then}
use borrow.Author.Rules.{rules}
use Rattle.entries.proofs.enter_seat.Goals as goal

pub seat-requires : goal.seat-requires
seat-requires c = ready_then c.occupy.ensures (λ m F o. o) (fresh_off _ _ _) (room_ready c.lowest_free-e.ensures c.requires.ready)

pub returns : goal.returns
returns c = search (enter_seat_turns, rules)
