-- Of the entries below i, k hold a page.
use Rattle.std.proofs.Common.{◌≡◌, ◌≤◌}
use Rattle.meaning.specs.Base.{tally}
use Rattle.meaning.specs.Rules.{holds}
use Rattle.entries.proofs.held.Given as goal

abbrev pub invariant-loop-i : goal.invariant-loop-i
invariant-loop-i l = (l.k ≡ tally l.i (holds l.words)) × (l.k ≤ l.i)
