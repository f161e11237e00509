use Rattle.two_q.proofs.OfTwoQ.{two_q_lined, two_q_missing, two_q_missed, two_q_am, two_q_ghost, two_q_back, two_q_a1in}
use Rattle.rooms.proofs.Spaces.{found_room, found_on}
use native.Mathlib.Omega.{arith}
use borrow.Author.Rules.{rules}
use Rattle.two_q.proofs.two_q_step.Goals as goal

pub enter_after-requires-clause-ready : goal.enter_after-requires-clause-ready
enter_after-requires-clause-ready c = search (two_q_missing, rules)

pub returns-in_default : goal.returns-in_default
returns-in_default c = search (two_q_missed, rules)

pub cell-j-requires : goal.cell-j-requires
cell-j-requires c = (omega arith, search (found_room, rules))

pub hit_front-requires-clause-ready : goal.hit_front-requires-clause-ready
hit_front-requires-clause-ready c = search (found_on, two_q_lined, rules)

pub returns-in-2 : goal.returns-in-2
returns-in-2 c = search (two_q_am, rules)

pub return_after-requires : goal.return_after-requires
return_after-requires c = search (two_q_ghost, rules)

pub returns-in-3 : goal.returns-in-3
returns-in-3 c = search (two_q_back, rules)

pub cell-slot-requires : goal.cell-slot-requires
cell-slot-requires c = (omega arith, search (found_room, rules))

pub returns-in_default-j : goal.returns-in_default-j
returns-in_default-j c = search (two_q_a1in, rules)
