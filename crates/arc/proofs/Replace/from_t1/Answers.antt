use Rattle.arc.proofs.OfArc.{first_none, first_over, first_tie, first_not}
use borrow.Author.Rules.{rules}
use Rattle.arc.proofs.Replace.from_t1.Goals as goal

pub returns-then-t1-eq0 : goal.returns-then-t1-eq0
returns-then-t1-eq0 c = search (first_none, rules)

pub returns-then-p-t1 : goal.returns-then-p-t1
returns-then-p-t1 c = search (first_over, rules)

pub returns-then-self : goal.returns-then-self
returns-then-self c = search (first_tie, rules)

pub returns-else-self : goal.returns-else-self
returns-else-self c = search (first_not, rules)
