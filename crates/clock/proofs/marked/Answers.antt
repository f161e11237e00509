use Rattle.clock.proofs.OfClock.{hand_room, hand_mark}
use native.Mathlib.Omega.{arith}
use borrow.Author.Rules.{rules}
use Rattle.clock.proofs.marked.Goals as goal

pub cell-v-requires : goal.cell-v-requires
cell-v-requires c = (omega arith, search (hand_room, rules))

pub returns : goal.returns
returns c = search (hand_mark, rules)
