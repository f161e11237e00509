use Rattle.segmented.proofs.OfSegmented.{segmented_lined, segmented_missing, segmented_missed, segmented_q, segmented_p_ready, segmented_p}
use Rattle.rooms.proofs.Spaces.{found_room, found_on}
use native.Mathlib.Omega.{arith}
use borrow.Author.Rules.{rules}
use Rattle.segmented.proofs.segmented_step.Goals as goal

pub enter_after-requires-clause-ready : goal.enter_after-requires-clause-ready
enter_after-requires-clause-ready c = search (segmented_missing, rules)

pub returns-in_default : goal.returns-in_default
returns-in_default c = search (segmented_missed, rules)

pub cell-j-requires : goal.cell-j-requires
cell-j-requires c = (omega arith, search (found_room, rules))

pub hit_front-requires-clause-ready : goal.hit_front-requires-clause-ready
hit_front-requires-clause-ready c = search (found_on, segmented_lined, rules)

pub returns-then-j-eq2 : goal.returns-then-j-eq2
returns-then-j-eq2 c = search (segmented_q, rules)

pub hit_spill-requires : goal.hit_spill-requires
hit_spill-requires c = search (segmented_p_ready, rules)

pub returns : goal.returns
returns c = search (segmented_p, rules)
