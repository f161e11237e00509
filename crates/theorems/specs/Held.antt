-- The held pages, and how an answer changes them.
use Rattle.std.specs.Prelude.{ℕ, ◌≡◌, ◌⊎◌, ◌↔◌}
use Rattle.meaning.specs.Mem.{Mem}
use Rattle.meaning.specs.Room.{Kind, hit, loaded, swapped}
use Rattle.invariants.specs.Proper.{Sits}

-- Page q is held, in some slot.
abbrev pub Held : Mem → ℕ → Type 0
Held m q = (s : ℕ) × Sits q s m

-- Hit leaves the set of held pages, of which p is one.
pub record Same (m : Mem) (p : ℕ) (n : Mem) : Type 0 where
  pub was : Held m p
  pub is : (q : ℕ) → Held n q ↔ Held m q

-- Loaded adds p, which was not held.
pub record Added (m : Mem) (p : ℕ) (n : Mem) : Type 0 where
  pub new : Held m p → ⊥
  pub is : (q : ℕ) → Held n q ↔ ((q ≡ p) ⊎ Held m q)

-- Swapped takes `out` out, which was held, is not afterwards and is not p, and adds p, which was not held.
pub record Exchanged (m : Mem) (p out : ℕ) (n : Mem) : Type 0 where
  pub new : Held m p → ⊥
  pub was : Held m out
  pub gone : Held n out → ⊥
  pub apart : out ≡ p → ⊥
  pub is : (q : ℕ) → Held n q ↔ ((q ≡ p) ⊎ (Held m q × (q ≡ out → ⊥)))

-- What an answer says of the held pages before and after it.
unfoldable pub Changes : Kind → Mem → ℕ → ℕ → Mem → Type 0
Changes hit m p out n = Same m p n
Changes loaded m p out n = Added m p n
Changes swapped m p out n = Exchanged m p out n
