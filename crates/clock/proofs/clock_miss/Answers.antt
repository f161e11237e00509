use Rattle.clock.proofs.OfClock.{miss_full, miss_swapped, miss_room, miss_loaded}
use borrow.Author.Rules.{rules}
use Rattle.clock.proofs.clock_miss.Goals as goal

pub clock_full-requires : goal.clock_full-requires
clock_full-requires c = search (miss_full, rules)

pub returns-then-full : goal.returns-then-full
returns-then-full c = search (miss_swapped, rules)

pub clock_load-requires-clause-ready : goal.clock_load-requires-clause-ready
clock_load-requires-clause-ready c = search (miss_room, rules)

pub returns : goal.returns
returns c = search (miss_loaded, rules)
