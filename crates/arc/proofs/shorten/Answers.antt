use Rattle.arc.proofs.OfArc.{twice_fits, shorten_none, shorten_back, shorten_gone}
use native.Mathlib.Omega.{arith}
use borrow.Author.Rules.{rules}
use Rattle.arc.proofs.shorten.Goals as goal

pub overflow_mul-c : goal.overflow_mul-c
overflow_mul-c c = omega (arith, twice_fits c.word-c.ensures c.requires)

pub returns-then-t-b : goal.returns-then-t-b
returns-then-t-b c = search (shorten_none, rules)

pub remove_back-requires-clause-ready : goal.remove_back-requires-clause-ready
remove_back-requires-clause-ready c = shorten_back c.word-c.ensures c.size.ensures.says c.size-2.ensures.says c.size-3.ensures.says c.size-4.ensures.says c.if-t-b.false c.requires

pub returns : goal.returns
returns c = search (shorten_gone, rules)
