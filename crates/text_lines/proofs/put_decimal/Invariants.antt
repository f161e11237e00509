use mathlib.Core.Path.{◌≡◌}
use lib.ListN.{drop}
use Rattle.meaning.specs.Text.{decimal}
use Rattle.text_lines.proofs.Writing.{padded}
use Rattle.text_lines.proofs.put_decimal.Given as goal

abbrev pub invariant-loop-i : goal.invariant-loop-i
invariant-loop-i l = padded l.i l.rest (drop l.i l.out) ≡ decimal l.v
