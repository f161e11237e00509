-- The numbers that the links of a list or of a chain lead through.
use Rattle.std.specs.Prelude.{ℕ, zero, suc, ◌+◌, ◌*◌, ◌≤◌, ◌<◌, cond, List, [], ◌∷◌, eqb, length, get_or}
use Rattle.meaning.specs.Neighbours.{NONE}
use Rattle.meaning.specs.Layout.{cell_at}

-- i and what stands behind it, each in word f of the one before, until NONE, and k at most
unfoldable pub trail : List ℕ → ℕ → ℕ → ℕ → List ℕ
trail ws f zero i = []
trail ws f (suc k) i = cond (eqb i NONE) [] (i ∷ trail ws f k (get_or ws (cell_at i f) 0))

-- the words of each entry of L may be read
abbrev pub Readable : List ℕ → List ℕ → Type 0
Readable ws L = (k : ℕ) → k < length L → 16 + 8 * get_or L k 0 + 8 ≤ length ws
