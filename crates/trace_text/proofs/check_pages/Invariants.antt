use Prim.Native.Nat.{◌-◌, ◌+◌}
use mathlib.Core.Path.{◌≡◌}
use Rattle.meaning.specs.Text.{first_wrong}
use Rattle.trace_text.proofs.check_pages.Given as goal

abbrev pub invariant-loop-i : goal.invariant-loop-i
invariant-loop-i l = first_wrong l.count 6 l.text ≡ first_wrong (l.count - l.i) (6 + l.i) l.rest
