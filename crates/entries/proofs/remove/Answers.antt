use Rattle.entries.proofs.Filling.{never_none, remove_ready, remove_turns}
use borrow.Author.Rules.{rules}
use Rattle.entries.proofs.remove.Goals as goal

pub clear-requires : goal.clear-requires
clear-requires c = search (remove_ready, rules)

pub returns-in-Some : goal.returns-in-Some
returns-in-Some c = search (remove_turns, rules)

pub returns-in_default : goal.returns-in_default
returns-in_default c = search (never_none, rules)
