use Rattle.arc.proofs.OfArc.{new_row, new_rowed, new_under, new_undered}
use borrow.Author.Rules.{rules}
use Rattle.arc.proofs.arc_new.Goals as goal

pub enter_after-requires-clause-ready : goal.enter_after-requires-clause-ready
enter_after-requires-clause-ready c = new_row c.word-c.ensures c.size.ensures.says c.size-2.ensures.says c.if-n-c.true c.requires

pub returns-then-n-c : goal.returns-then-n-c
returns-then-n-c c = search (new_rowed, rules)

pub enter_after-requires-2-clause-ready : goal.enter_after-requires-2-clause-ready
enter_after-requires-2-clause-ready c = new_under c.word-c.ensures c.size.ensures.says c.size-2.ensures.says c.if-n-c.false c.requires

pub returns : goal.returns
returns c = search (new_undered, rules)
