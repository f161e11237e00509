-- `replay` meets its contract: each refusal from the tests that led to it, and the rest from `run`.
use Rattle.std.proofs.Common.{arith}
use Rattle.meaning.proofs.Exits.{passed_on}
use Rattle.traces.proofs.Depth.{told}
use Rattle.replay.proofs.Replaying.{unsound, too_long, unpaged, counts}
use Rattle.replay.proofs.replay.Goals as goal

pub returns-in_err-checked : goal.returns-in_err-checked
returns-in_err-checked c = let r = c.in_err-checked.ensures.refused in rw (passed_on _ c.from_residual.ensures.1, r.0) (unsound c.args.words.now c.args.trace.now r.1)

pub returns-then-trace-gt65535 : goal.returns-then-trace-gt65535
returns-then-trace-gt65535 c = too_long c.args.words.now c.args.trace.now c.in_ok-checked.ensures.ok (omega arith)

pub returns-then-contains : goal.returns-then-contains
returns-then-contains c = unpaged c.args.words.now c.args.trace.now c.in_ok-checked.ensures.ok (omega arith) (told c.args.trace.now c.contains.ensures.value c.if-contains.true)

pub run-requires : goal.run-requires
run-requires c = (c.in_ok-checked.ensures.ok, omega arith, told c.args.trace.now c.contains.ensures.value c.if-contains.false)

pub returns : goal.returns
returns c = counts c.args.words.now c.args.trace.now c.in_ok-checked.ensures.ok (omega arith) (told c.args.trace.now c.contains.ensures.value c.if-contains.false) c.run.ensures
