use Rattle.clock.proofs.OfClock.{swept_ready, swept_serves}
use borrow.Author.Rules.{rules}
use Rattle.clock.proofs.clock_full.Goals as goal

pub swap_at_hand-requires : goal.swap_at_hand-requires
swap_at_hand-requires c = search (swept_ready, rules)

pub returns : goal.returns
returns c = search (swept_serves, rules)
