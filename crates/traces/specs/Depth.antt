-- Where a page first stands in a trace. A test picks its case through a small function of the Bool, as antt computes arguments before a call.
use Rattle.std.specs.Prelude.{ℕ, zero, suc, Bool, true, false, List, [], ◌∷◌, eqb}

-- no place further, or one more
abbrev pub found : Bool → ℕ → ℕ
found true d = zero
found false d = suc d

-- the index of the first p, or the length where there is none
abbrev pub depth : ℕ → List ℕ → ℕ
depth p [] = zero
depth p (x ∷ xs) = found (eqb p x) (depth p xs)
