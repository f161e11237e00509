use Rattle.std.proofs.Common.{get_or, ◌∙◌, arith}
use Rattle.meaning.specs.Answers.{reply_of, counts_of}
use Rattle.traces.proofs.Pages.{not_none}
use Rattle.policies.proofs.Requesting.{request_is}
use Rattle.replay.proofs.Replaying.{next_page, all_asked}
use Rattle.replay.proofs.run.Goals as goal

pub step-requires-clause-page_bound : goal.step-requires-clause-page_bound
step-requires-clause-page_bound c = let i = c.loop-page.page-index in omega (arith, c.type_inv.trace i, not_none c.args.trace.now i c.requires.2 (omega arith))

pub loop-page-preserved : goal.loop-page-preserved
loop-page-preserved c =
    let l = c.loop-page in
    let t = c.args.trace.now in
    let i = l.page-index in
    let s = c.step.ensures in (
      s.keeps,
      omega arith,
      next_page t i (counts_of l.counts) (counts_of c.counted-counts.result) l.words c.step.new.words (reply_of c.step.result) (omega arith)
          (request_is l.words (get_or t i 0) l.invariant.0 (omega (arith, c.type_inv.trace i, not_none t i c.requires.2 (omega arith))))
          s.said s.left c.counted-counts.ensures.0 ∙ l.invariant.2,
      omega (arith, l.invariant.3, c.counted-counts.ensures.1),
    )

pub returns : goal.returns
returns c = let l = c.loop-page in all_asked c.args.trace.now l.page-index (counts_of l.counts) l.words c.args.words.now (omega arith) l.invariant.2
