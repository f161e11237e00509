-- What the search for a page answers.
use Rattle.std.specs.Prelude.{ℕ, ◌≡◌, cond, List, [], ◌∷◌, eqb, Option, Some, None}
use Rattle.index.specs.declared.Found.{Found}
use Rattle.meaning.specs.Neighbours.{NONE}
use Rattle.meaning.specs.Mem.{Mem, home}
use Rattle.cells.specs.Told.{GivesOf}

-- L is the chain of the page p, front first
pub record Chains (p : ℕ) (L : List ℕ) (m : Mem) : Type 0 where
  pub is : L ≡ m.chained (home m p)

-- the first entry of a chain that has the page, with the one in front of it; a stands in front of all
unfoldable pub look_in : (ℕ → ℕ) → ℕ → List ℕ → ℕ → Option Found
look_in pages a [] p = None
look_in pages a (x ∷ L) p = cond (eqb (pages x) p) (Some (record { entry = x; before = a })) (look_in pages x L p)

-- the entry of a page, with the one in front of it on its chain
unfoldable pub lookup : Mem → ℕ → Option Found
lookup m p = look_in m.pages NONE (m.chained (home m p)) p

-- r says which entry the page p has
abbrev pub Answers : ℕ → Option Found → Mem → Type 0
Answers p r = GivesOf lookup p r
