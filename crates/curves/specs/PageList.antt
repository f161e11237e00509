-- LRU on a plain list of pages, latest first: the tool that `curve` is proved with. What `curve` promises speaks of directories, and `proofs/Projection.antt` joins the two.
-- A test picks its case through a small function of the Bool (`found`, `erased`), as antt computes arguments before a call.
use Rattle.std.specs.Prelude.{ℕ, zero, ◌+◌, Bool, true, false, List, [], ◌∷◌, take, eqb}
use Rattle.meaning.specs.Base.{one_if}
use Rattle.meaning.specs.Neighbours.{has}

abbrev pub erased : Bool → ℕ → List ℕ → List ℕ → List ℕ
erased true x xs rest = xs
erased false x xs rest = x ∷ rest

-- the list without its first p
abbrev pub erase : ℕ → List ℕ → List ℕ
erase p [] = []
erase p (x ∷ xs) = erased (eqb p x) x xs (erase p xs)

-- p goes to the front: LRU with room for all
abbrev pub to_top : ℕ → List ℕ → List ℕ
to_top p L = p ∷ erase p L

-- one request at capacity c
abbrev pub step : ℕ → ℕ → List ℕ → List ℕ
step c p L = take c (to_top p L)

-- the list after a trace, and the hits on it, from the list L
abbrev pub list_after : ℕ → List ℕ → List ℕ → List ℕ
list_after c L [] = L
list_after c L (p ∷ t) = list_after c (step c p L) t

abbrev pub hits_on : ℕ → List ℕ → List ℕ → ℕ
hits_on c L [] = zero
hits_on c L (p ∷ t) = one_if (has L p) + hits_on c (step c p L) t

-- the same from the empty list
abbrev pub pages_of : ℕ → List ℕ → List ℕ
pages_of c t = list_after c [] t

abbrev pub hits_of : List ℕ → ℕ → ℕ
hits_of t c = hits_on c [] t
