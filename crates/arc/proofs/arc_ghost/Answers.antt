use Rattle.arc.proofs.OfArc.{ghost_some, ghost_ready, ghost_serves}
use Rattle.arc.proofs.arc_ghost.Goals as goal

pub move_target-requires : goal.move_target-requires
move_target-requires c = ghost_some _ c.requires

pub return_after-requires : goal.return_after-requires
return_after-requires c = ghost_ready _ c.is_b2-in_b2.ensures c.move_target.ensures c.requires

pub returns : goal.returns
returns c = ghost_serves _ c.is_b2-in_b2.ensures c.move_target.ensures c.return_after.ensures
