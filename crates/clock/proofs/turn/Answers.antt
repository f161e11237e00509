use Rattle.clock.proofs.OfClock.{turn_within, turn_hand, turn_turns}
use borrow.Author.Rules.{rules}
use Rattle.clock.proofs.turn.Goals as goal

pub set_mark-requires : goal.set_mark-requires
set_mark-requires c = search (turn_within, rules)

pub advance-requires : goal.advance-requires
advance-requires c = search (turn_hand, rules)

pub returns : goal.returns
returns c = search (turn_turns, rules)
