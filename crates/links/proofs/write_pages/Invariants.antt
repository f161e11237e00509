-- The pages of the entries so far were written, front first.
use mathlib.Core.Path.{◌≡◌}
use mathlib.Core.List.{map}
use Rattle.meaning.specs.Layout.{cell_at, page_col}
use Rattle.meaning.specs.Mem.{word}
use Rattle.meaning.specs.Calls.{over}
use Rattle.links.proofs.write_pages.Given as goal

abbrev pub invariant-loop-k : goal.invariant-loop-k
invariant-loop-k l = l.res ≡ over (map (λ x. word l.words (cell_at x.1 page_col)) l.yielded) l.initial.res
