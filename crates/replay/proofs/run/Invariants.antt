-- `run` meets its contract: what is left of the trace, from the words and counts so far, comes to what the whole trace does.
use Rattle.std.proofs.Common.{◌≡◌, ◌+◌, ◌≤◌, true, length, drop}
use Rattle.meaning.specs.Rules.{sound}
use Rattle.meaning.specs.Calls.{none}
use Rattle.meaning.specs.Answers.{counts_of}
use Rattle.replay.proofs.Replaying.{onward}
use Rattle.replay.proofs.run.Given as goal

abbrev pub invariant-loop-page : goal.invariant-loop-page
invariant-loop-page l = (sound l.words ≡ true) × (length l.words ≡ length l.fn.words) × (onward (counts_of l.counts) l.words (drop l.page-index l.trace) ≡ onward none l.fn.words l.trace) × (l.counts.hits + l.counts.loads + l.counts.swaps ≤ l.page-index)
