use Rattle.arc.proofs.OfArc.{step_one, step_more}
use Rattle.arc.proofs.step_of.Goals as goal

pub returns-then-other-mine : goal.returns-then-other-mine
returns-then-other-mine c = step_one _ _ c.if-other-mine.true c.requires.1

pub returns : goal.returns
returns c = step_more _ _ c.if-other-mine.false c.requires.1
