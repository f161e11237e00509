use Rattle.clock.proofs.OfClock.{swing_rest, swing_turn, swing_over}
use borrow.Author.Rules.{rules}
use Rattle.clock.proofs.sweep.Goals as goal

pub returns-then-not-marked : goal.returns-then-not-marked
returns-then-not-marked c = swing_rest c.word-c.ensures c.loop-n.invariant.0 c.marked.ensures c.if-not-marked.true

pub loop-n-preserved : goal.loop-n-preserved
loop-n-preserved c = (swing_turn c.word-c.ensures c.loop-n.invariant.0 c.loop-n-test.true c.marked.ensures c.if-not-marked.false c.turn.ensures, search rules)

pub returns : goal.returns
returns c = search (swing_over, rules)
