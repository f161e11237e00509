use mathlib.Core.Path.{◌∙◌}
use native.Mathlib.Omega.{arith}
use Rattle.trace_text.proofs.Writing.{pages_put}
use Rattle.trace_text.proofs.put_pages.Goals as goal

pub loop-p-preserved : goal.loop-p-preserved
loop-p-preserved c =
    let l = c.loop-p in
    let p = pages_put l.out l.at c.args.trace.now l.p-index c.loop-p-test.true c.put_page-at.ensures in
    (omega (arith, p.1), l.invariant.1 ∙ p.0)
