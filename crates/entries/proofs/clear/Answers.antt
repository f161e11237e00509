use Rattle.meaning.specs.Mem.{clear}
use Rattle.entries.proofs.Filling.{placed_on, placed_hung, placed_within}
use Rattle.cells.proofs.Composed.{ready_then, ready_then₂, turns_then₃}
use borrow.Author.Rules.{rules}
use Rattle.entries.proofs.clear.Goals as goal

pub unhang-requires : goal.unhang-requires
unhang-requires c = search (ready_then, placed_on, placed_hung, rules)

pub blank_cell-requires : goal.blank_cell-requires
blank_cell-requires c =
    ready_then₂ c.unlink.ensures c.unhang.ensures (placed_on _ _) (placed_hung _ _) (placed_within _ _)
    c.requires

pub returns : goal.returns
unfolding clear
returns c = search (turns_then₃, placed_on, placed_hung, placed_within, rules)
