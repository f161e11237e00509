-- Each answer is counted as its kind.
use Rattle.std.proofs.Common.{ap, arith}
use Rattle.meaning.specs.declared.Answer.{Answer}
use Rattle.meaning.specs.Calls.{counted}
use Rattle.meaning.specs.Answers.{reply_of, counts_of}
use Rattle.std.proofs.Common.{sym}
use Rattle.replay.proofs.counted.Goals as goal

pub returns-in-Hit : goal.returns-in-Hit
unfolding counted
returns-in-Hit c = (sym (ap (λ (a : Answer). counted (counts_of c.args.counts) (reply_of a).kind) c.in-Hit.is), omega arith)

pub returns-in-Loaded : goal.returns-in-Loaded
unfolding counted
returns-in-Loaded c = (sym (ap (λ (a : Answer). counted (counts_of c.args.counts) (reply_of a).kind) c.in-Loaded.is), omega arith)

pub returns-in-Swapped : goal.returns-in-Swapped
unfolding counted
returns-in-Swapped c = (sym (ap (λ (a : Answer). counted (counts_of c.args.counts) (reply_of a).kind) c.in-Swapped.is), omega arith)
