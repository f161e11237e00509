use mathlib.Core.Path.{◌∙◌}
use Rattle.arc.proofs.OfArc.{target_fits, grow_turns, shrink_turns}
use native.Mathlib.Omega.{arith}
use Rattle.arc.proofs.move_target.Goals as goal
use Rattle.arc.proofs.move_target.Goals.{in-B1, in-B2}

pub overflow_add-p : goal.overflow_add-p
overflow_add-p c = omega (arith, target_fits c.word-p.ensures c.requires)

pub returns : goal.returns
returns c = elim c.match-ghosts.branch [
  | in-B1 w ↦ grow_turns c.word-p.ensures c.size-b1.ensures.says c.size-b2.ensures.says c.set_word6.ensures c.word-c.ensures w.in-B1.is w.step_of.ensures.0 (w.q-is ∙ w.min-q.ensures)
  | in-B2 w ↦ shrink_turns c.word-p.ensures c.size-b1.ensures.says c.size-b2.ensures.says c.set_word6.ensures w.in-B2.is w.step_of-in-B2.ensures.0 (w.q-is ∙ w.saturating_sub-q.ensures)
]
