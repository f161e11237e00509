-- Of the entries below i, k are on list j.
use Rattle.std.proofs.Common.{◌≡◌, ◌≤◌}
use Rattle.meaning.specs.Base.{tally}
use Rattle.meaning.specs.Rules.{on}
use Rattle.readers.proofs.Entries.count_on.Given as goal

abbrev pub invariant-loop-i : goal.invariant-loop-i
invariant-loop-i l = (l.k ≡ tally l.i (on l.self.words.now l.j)) × (l.k ≤ l.i)
