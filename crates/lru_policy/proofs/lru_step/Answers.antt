use Rattle.lru_policy.proofs.OfLru.{lru_lined, lru_missing, lru_missed, lru_hit}
use Rattle.rooms.proofs.Spaces.{found_on}
use borrow.Author.Rules.{rules}
use Rattle.lru_policy.proofs.lru_step.Goals as goal

pub enter_after-requires-clause-ready : goal.enter_after-requires-clause-ready
enter_after-requires-clause-ready c = search (lru_missing, rules)

pub returns-in_default : goal.returns-in_default
returns-in_default c = search (lru_missed, rules)

pub hit_front-requires-clause-ready : goal.hit_front-requires-clause-ready
hit_front-requires-clause-ready c = search (found_on, lru_lined, rules)

pub returns : goal.returns
returns c = search (lru_hit, rules)
