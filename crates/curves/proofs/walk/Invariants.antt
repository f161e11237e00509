-- `walk` meets its contract. The invariant: what is still to be done from here is what was to be done from the start.
use Prim.Native.Nat.{◌≤◌, ◌-◌, ◌+◌}
use mathlib.Core.Path.{◌≡◌}
use lib.ListN.{length, drop}
use Rattle.curves.specs.PageList.{list_after}
use Rattle.curves.specs.Curve.{bumps, total}
use Rattle.curves.proofs.walk.Given as goal

abbrev pub invariant-loop-p : goal.invariant-loop-p
invariant-loop-p l = record {
  room : total l.res + (length l.trace - l.p-index) ≤ 4294967295;
  counts : bumps (length l.initial.work) l.res l.work (drop l.p-index l.trace) ≡ bumps (length l.initial.work) l.initial.res l.initial.work l.trace;
  list : list_after (length l.initial.work) l.work (drop l.p-index l.trace) ≡ list_after (length l.initial.work) l.initial.work l.trace;
}
