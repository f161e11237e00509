-- What is left of the sweep comes to what the whole comes to.
use mathlib.Core.Path.{◌≡◌}
use lib.ListN.{length}
use Rattle.clock.proofs.OfClock.{Sweeping}
use Rattle.clock.proofs.sweep.Given as goal

abbrev pub invariant-loop-n : goal.invariant-loop-n
invariant-loop-n l = Sweeping l.initial.words l.words l.n × (length l.words ≡ length l.initial.words)
