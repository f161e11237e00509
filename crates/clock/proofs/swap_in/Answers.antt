use Rattle.clock.proofs.OfClock.{seat_hand, seat_serves}
use borrow.Author.Rules.{rules}
use Rattle.clock.proofs.swap_in.Goals as goal

pub advance-requires : goal.advance-requires
advance-requires c = search (seat_hand, rules)

pub returns : goal.returns
returns c = search (seat_serves, rules)
