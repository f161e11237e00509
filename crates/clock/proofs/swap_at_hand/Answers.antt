use Rattle.clock.proofs.OfClock.{hand_kept, hand_frees}
use Rattle.rooms.proofs.Rooming.{room_ready, room_serves}
use borrow.Author.Rules.{rules}
use Rattle.clock.proofs.swap_at_hand.Goals as goal

pub put_out-f-requires : goal.put_out-f-requires
put_out-f-requires c = search (hand_kept, rules)

pub swap_in-requires : goal.swap_in-requires
swap_in-requires c = room_ready (hand_frees c.word-h.ensures c.put_out-f.ensures) c.requires

pub returns : goal.returns
returns c = search (room_serves, hand_frees, rules)
