-- What holds of every directory that requests lead to, whatever its policy. Each part is kept by the operations, and no part names a policy.
use Rattle.std.specs.Prelude.{ℕ, ◌≡◌, Bool, true, false, ltb}
use Rattle.meaning.specs.Neighbours.{NONE, has}
use Rattle.meaning.specs.Layout.{is_held}
use Rattle.meaning.specs.Mem.{Mem, home, held}
use Rattle.invariants.specs.Places.{Fine}
use Rattle.invariants.specs.Shape.{Canonical}

-- the page index: an entry with a page is on its page's chain, and an entry without one is free
pub record Indexed (m : Mem) : Type 0 where
  pub fine : Fine m
  pub canonical : Canonical m
  pub hung : (i : ℕ) → (m.pages i ≡ NONE → ⊥) → has (m.chained (home m (m.pages i))) i ≡ true
  pub free : (i : ℕ) → m.pages i ≡ NONE → (m.lists i ≡ 0) × (m.marks i ≡ 0)
  pub ghost : (i : ℕ) → is_held (m.lists i) ≡ false → m.slots i ≡ NONE

-- the lists: an entry with a list is on it, and an entry with none has no page
pub record Ordered (m : Mem) : Type 0 where
  pub listed : (i : ℕ) → (m.lists i ≡ 0 → ⊥) → has (m.order (m.lists i)) i ≡ true
  pub idle : (i : ℕ) → m.lists i ≡ 0 → m.pages i ≡ NONE

-- the slots in use, H, are those of the held pages, each once: `at s` is the entry that has the slot s
pub record Slotted (H : ℕ → Bool) (m : Mem) : Type 0 where
  pub at : ℕ → ℕ
  pub there : (s : ℕ) → H s ≡ true → (is_held (m.lists (at s)) ≡ true) × (m.slots (at s) ≡ s)
  pub back : (i : ℕ) → is_held (m.lists i) ≡ true → (H (m.slots i) ≡ true) × (at (m.slots i) ≡ i)

abbrev pub up_to : ℕ → ℕ → Bool
up_to n s = ltb s n

-- with n held pages, their slots are 0 to n-1, each once: of every policy, CLOCK too
pub record Seated (m : Mem) : Type 0 where
  pub indexed : Indexed m
  pub slotted : Slotted (up_to (held m)) m

-- the same, of a policy that keeps lists
pub record Proper (m : Mem) : Type 0 where
  pub seated : Seated m
  pub ordered : Ordered m

-- page q is held, in slot s
pub record Sits (q s : ℕ) (m : Mem) : Type 0 where
  pub entry : ℕ
  pub held : is_held (m.lists entry) ≡ true
  pub page : m.pages entry ≡ q
  pub slot : m.slots entry ≡ s
