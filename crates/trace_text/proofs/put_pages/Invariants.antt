use Prim.Native.Nat.{◌≤◌, ◌+◌}
use mathlib.Core.Path.{◌≡◌}
use lib.Seq.{sets}
use lib.ListN.{length, drop}
use Rattle.meaning.specs.Text.{page_lines}
use Rattle.trace_text.proofs.put_pages.Given as goal

abbrev pub invariant-loop-p : goal.invariant-loop-p
invariant-loop-p l = (l.at + length (page_lines (drop l.p-index l.trace)) ≤ length l.out) × (sets l.initial.out l.start (page_lines l.trace) ≡ sets l.out l.at (page_lines (drop l.p-index l.trace)))
