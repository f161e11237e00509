use Rattle.clock.proofs.OfClock.{load_serves}
use borrow.Author.Rules.{rules}
use Rattle.clock.proofs.clock_load.Goals as goal

pub returns : goal.returns
returns c = search (load_serves, rules)
