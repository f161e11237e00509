-- The numbers of document 01's rules a to h.
use Rattle.std.specs.Prelude.{ℕ}
use Rattle.std.specs.declared.option.Option.{Option}
use Rattle.std.specs.declared.option.Option.TheVariants.{Some, None}
use Rattle.sound.specs.declared.Rule.{Rule}
use Rattle.sound.specs.declared.Rule.TheVariants.{A, B, C, D, E, F, G, H}

-- Rules a to h are 1 to 8.
abbrev pub number : Rule → ℕ
number A = 1
number B = 2
number C = 3
number D = 4
number E = 5
number F = 6
number G = 7
number H = 8

-- A rule's number; or 0, where there is none.
abbrev pub number_or_0 : Option Rule → ℕ
number_or_0 None = 0
number_or_0 (Some r) = number r
