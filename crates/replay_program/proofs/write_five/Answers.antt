use native.Mathlib.Omega.{arith}
use Prim.Native.Nat.{◌≤◌}
use Rattle.meaning.specs.Program.{refused_key, line_key, hits_key, loads_key, swaps_key}
use Rattle.replay_program.specs.Numbers.{five_of}
use Rattle.replay_program.proofs.Writing.{line_short, five_put}
use Rattle.replay_program.proofs.write_five.Goals as goal

pub returns : goal.returns
returns c =
    let f = c.args.five in
    let h : c.put_line.result ≤ 96 = omega (
      arith,
      line_short refused_key f.refused (omega arith),
      line_short line_key f.line (omega arith),
      line_short hits_key f.counts.hits (omega arith),
      line_short loads_key f.counts.loads (omega arith),
      line_short swaps_key f.counts.swaps (omega arith),
      c.put_line-a.ensures.1,
      c.put_line-b.ensures.1,
      c.put_line-c.ensures.1,
      c.put_line-d.ensures.1,
      c.put_line.ensures.1,
    ) in
    (five_put c.args.out.now (five_of f) c.put_line-a.ensures c.put_line-b.ensures c.put_line-c.ensures c.put_line-d.ensures c.put_line.ensures (omega (arith, h)), omega (arith, h))
