use Rattle.two_q.proofs.OfTwoQ.{trim_none, trim_gone}
use borrow.Author.Rules.{rules}
use Rattle.two_q.proofs.trim.Goals as goal

pub returns-then-n-kout : goal.returns-then-n-kout
returns-then-n-kout c = search (trim_none, rules)

pub returns : goal.returns
returns c = search (trim_gone, rules)
