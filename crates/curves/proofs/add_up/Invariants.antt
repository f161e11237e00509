-- `add_up` meets its contract. The invariant: the sums so far, and those of what is left from `sum` on, are those of all.
use Prim.Native.Nat.{◌≤◌, ◌+◌}
use mathlib.Core.Path.{◌≡◌}
use mathlib.Core.List.{◌++◌}
use lib.ListN.{take, drop}
use Rattle.curves.specs.Curve.{total, sums}
use Rattle.curves.proofs.add_up.Given as goal

abbrev pub invariant-loop-x : goal.invariant-loop-x
invariant-loop-x l = record {
  room : l.sum + total (drop l.x-index l.s) ≤ 4294967295;
  sums_of_all : take l.x-index l.s ++ sums l.sum (drop l.x-index l.s) ≡ sums 0 l.initial.s;
}
