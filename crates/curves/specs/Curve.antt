-- The promise of `curve`: the answer and every lent word, on every input; and what its inner functions leave.
use Rattle.std.specs.Prelude.{ℕ, zero, suc, ◌+◌, ◌<◌, ◌≡◌, List, [], ◌∷◌, ◌++◌, length, take, drop, get_or, set, Result}
use Rattle.meaning.specs.Calls.{both, curved}
use Rattle.meaning.specs.Answers.{curve_says}
use Rattle.meaning.specs.declared.Refusal.{Refusal}
use Rattle.traces.specs.Depth.{depth}
use Rattle.curves.specs.PageList.{step}

-- What `curve` promises of the largest capacity m and the trace t: its answer a, and the lent words r and w, which come back as r' and w'.
pub record CurvedAs (m : ℕ) (t r w : List ℕ) (a : Result (Unit {0}) Refusal) (r' w' : List ℕ) : Type 0 where
  pub answer : curve_says a ≡ (curved m t r w).said
  pub memory : both r' w' ≡ (curved m t r w).left

-- The two buffers of a walk: of one length, and of one word at least.
abbrev pub Paired : List ℕ → List ℕ → Type 0
Paired R W = (length R ≡ length W) × (0 < length W)

-- The first e places move one down, place e is overwritten, p goes first.
abbrev pub moved : ℕ → ℕ → List ℕ → List ℕ
moved e p W = p ∷ (take e W ++ drop (suc e) W)

-- One more hit at depth d.
abbrev pub bump : List ℕ → ℕ → List ℕ
bump R d = set R d (get_or R d 0 + 1)

-- The hits at each depth after a trace, over the n places W.
abbrev pub bumps : ℕ → List ℕ → List ℕ → List ℕ → List ℕ
bumps n R W [] = R
bumps n R W (p ∷ t) = bumps n (bump R (depth p W)) (step n p W) t

-- The sum of a list.
abbrev pub total : List ℕ → ℕ
total [] = zero
total (x ∷ xs) = x + total xs

-- Running sums, from a on.
abbrev pub sums : ℕ → List ℕ → List ℕ
sums a [] = []
sums a (x ∷ xs) = (a + x) ∷ sums (a + x) xs
