-- What a line found in a text says.
use Rattle.std.specs.Prelude.{ℕ, List, Option, Some, None}
use Rattle.std.specs.Borrow.{Bor}
use Rattle.meaning.specs.Text.{Took, wrong, right}

-- The value of a line and what stands after it, or a wrong line.
abbrev pub took_of : Option (ℕ × Bor (List ℕ)) → Took
took_of (Some p) = right p.0 p.1.now
took_of None = wrong
