use Rattle.arc.proofs.OfArc.{arc_indexed, arc_lined, arc_ghost, arc_b1_lem, arc_b2_lem, arc_hit}
use Rattle.rooms.proofs.Spaces.{found_room, found_on, missing, missed}
use native.Mathlib.Omega.{arith}
use borrow.Author.Rules.{rules}
use Rattle.arc.proofs.arc_step.Goals as goal

pub arc_new-requires : goal.arc_new-requires
arc_new-requires c = search (missing, arc_indexed, rules)

pub returns-in_default : goal.returns-in_default
returns-in_default c = search (missed, arc_indexed, rules)

pub cell-j-requires : goal.cell-j-requires
cell-j-requires c = (omega arith, search (found_room, rules))

pub arc_ghost-requires : goal.arc_ghost-requires
arc_ghost-requires c = search (arc_ghost, rules)

pub returns-in-3 : goal.returns-in-3
returns-in-3 c = search (arc_b1_lem, rules)

pub arc_ghost-requires-in-4 : goal.arc_ghost-requires-in-4
arc_ghost-requires-in-4 c = search (arc_ghost, rules)

pub returns-in-4 : goal.returns-in-4
returns-in-4 c = search (arc_b2_lem, rules)

pub hit_front-requires-clause-ready : goal.hit_front-requires-clause-ready
hit_front-requires-clause-ready c = search (found_on, arc_lined, rules)

pub returns-in_default-j : goal.returns-in_default-j
returns-in_default-j c = search (arc_hit, rules)
