use Rattle.clock.proofs.OfClock.{clock_indexed, clock_within, clock_hit}
use Rattle.rooms.proofs.Spaces.{found_room, missing, missed}
use native.Mathlib.Omega.{arith}
use borrow.Author.Rules.{rules}
use Rattle.clock.proofs.clock_step.Goals as goal

pub clock_miss-requires : goal.clock_miss-requires
clock_miss-requires c = search (missing, clock_indexed, rules)

pub returns-in_default : goal.returns-in_default
returns-in_default c = search (missed, clock_indexed, rules)

pub cell-slot-requires : goal.cell-slot-requires
cell-slot-requires c = (omega arith, search (found_room, rules))

pub set_mark-requires : goal.set_mark-requires
set_mark-requires c = search (clock_within, rules)

pub returns : goal.returns
returns c = search (clock_hit, rules)
