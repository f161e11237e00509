-- The first places have what stood one place before them, p the first; carry is what the next place gets.
use Rattle.std.proofs.Common.{◌≡◌, ◌∷◌, ◌++◌, get_or, take, drop}
use Rattle.curves.proofs.shift.Given as goal

abbrev pub invariant-loop-x : goal.invariant-loop-x
invariant-loop-x l = record {
  moved : l.x-items ≡ take l.x-index (l.p ∷ l.initial.x-items) ++ drop l.x-index l.initial.x-items;
  carried : l.carry ≡ get_or (l.p ∷ l.initial.x-items) l.x-index 0;
}
