use Prim.Native.Nat.{◌+◌, ◌<◌}
use mathlib.Core.Path.{◌≡◌, ap}
use mathlib.Core.List.{◌∷◌}
use native.Mathlib.Omega.{arith}
use native.Mathlib.Numerals.{add-one}
use lib.ListN.{length, get_or, drop, drop_of_length-le}
use lib.Seq.{drop-cons}
use Rattle.traces.specs.Depth.{depth}
use Rattle.curves.specs.Curve.{total}
use Rattle.curves.proofs.Lists.{total_bump_le}
use Rattle.curves.proofs.walk.Goals as goal

pub loop-p-preserved : goal.loop-p-preserved
loop-p-preserved c =
    let at = c.loop-p in
    let t = c.args.trace.now in
    let i = at.p-index in
    let v = c.visit.ensures in
    let more : i < length t = omega arith in
    let next : drop i t ≡ get_or t i 0 ∷ drop (i + 1) t = rw (add-one, drop-cons t i 0 more) in
    record {
      room = omega (arith, ap total v.0, total_bump_le at.res (depth (get_or t i 0) at.work));
      counts = rw (v.0, v.1, at.auto.work, ← at.invariant.counts, next);
      list = rw (v.1, at.auto.work, ← at.invariant.list, next);
    }

pub returns : goal.returns
returns c =
    let at = c.loop-p in
    let done = drop_of_length-le c.args.trace.now {i = at.p-index} (omega arith) in
    (rw (← at.invariant.counts, done), rw (← at.invariant.list, done))
