use Prim.Native.Nat.{◌-◌}
use mathlib.Core.Path.{◌≡◌}
use lib.ListN.{length}
use lib.Seq.{sets}
use Rattle.meaning.specs.Text.{pages_in}
use Rattle.trace_text.proofs.store.Given as goal

abbrev pub invariant-loop-word : goal.invariant-loop-word
invariant-loop-word l = sets l.initial.trace 0 (pages_in (length l.initial.trace) l.text) ≡ sets l.trace l.word-index (pages_in (length l.initial.trace - l.word-index) l.rest)
