use Prim.Native.Nat.{◌+◌, ◌-◌}
use mathlib.Core.Path.{◌≡◌, ap}
use lib.ListN.{length}
use lib.Seq.{sets, length-sets}
use borrow.Rule.Slice.PartMut.{put_mid}
use native.Mathlib.Omega.{arith}
use Rattle.text_lines.proofs.Writing.{line_length, line_put, part_put}
use Rattle.text_lines.proofs.put_line.Goals as goal

pub returns : goal.returns
returns c =
    let a = c.args in
    let k = length a.key.now in
    let room = line_length a.key.now a.v in
    let first : put_mid a.at (a.at + k - a.at) a.out.now c.copy_from_slice.new.self ≡ sets a.out.now a.at a.key.now
    = part_put a.out.now a.at (a.at + k - a.at) c.copy_from_slice.ensures.after (omega arith) (omega arith) in
    line_put a.out.now a.at a.key.now a.v first
    (part_put _ (a.at + k) _ c.put_decimal.ensures (omega arith) (omega (arith, ap length first, length-sets a.out.now a.at a.key.now)), omega arith)
