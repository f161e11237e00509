-- A directory settles every word, and words settle the directory.
use Prim.Native.Nat.{ℕ}
use mathlib.Core.Path.{◌≡◌, sym, ◌∙◌}
use mathlib.Core.List.{List}
use Rattle.meaning.specs.Mem.{Mem}
use Rattle.invariants.specs.Places.{Repr}
use Rattle.invariants.specs.Shape.{Canonical}
use Rattle.invariants.proofs.Trip.{decode_repr, repr_words}

-- two slices that stand for one directory are equal
pub words_settled : (ws ws' : List ℕ) (m : Mem) → Repr ws m → Repr ws' m → ws ≡ ws'
words_settled ws ws' m R R' = sym (repr_words ws m R) ∙ repr_words ws' m R'

-- a slice stands for one directory at most
pub directory_settled : (ws : List ℕ) (m m' : Mem) → Repr ws m → Repr ws m' → Canonical m → Canonical m' → m ≡ m'
directory_settled ws m m' R R' K K' = sym (decode_repr ws m R K) ∙ decode_repr ws m' R' K'
