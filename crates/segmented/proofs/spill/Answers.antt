use native.Mathlib.Omega.{arith}
use Rattle.rooms.proofs.Spaces.{over_on}
use Rattle.segmented.proofs.OfSegmented.{spill_none, spill_front}
use borrow.Author.Rules.{rules}
use Rattle.segmented.proofs.spill.Goals as goal

pub returns-then-n-first : goal.returns-then-n-first
returns-then-n-first c = search (spill_none, rules)

pub to_front-requires-clause-ready : goal.to_front-requires-clause-ready
to_front-requires-clause-ready c = over_on c.size-n.ensures.says c.if-n-first.false c.back-e.ensures (omega arith) c.requires

pub returns : goal.returns
returns c = search (spill_front, rules)
