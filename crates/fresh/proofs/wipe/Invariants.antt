-- Every word from 7 to i is blank.
use Rattle.fresh.proofs.Wiping.{Wiping}
use Rattle.fresh.proofs.wipe.Given as goal

abbrev pub invariant-loop-i : goal.invariant-loop-i
invariant-loop-i l = Wiping l.initial.words l.n l.i l.words
