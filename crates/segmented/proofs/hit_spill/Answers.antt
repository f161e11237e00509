use Rattle.segmented.proofs.OfSegmented.{spill_ready, spill_serves}
use borrow.Author.Rules.{rules}
use Rattle.segmented.proofs.hit_spill.Goals as goal

pub spill-requires : goal.spill-requires
spill-requires c = search (spill_ready, rules)

pub returns : goal.returns
returns c = search (spill_serves, rules)
