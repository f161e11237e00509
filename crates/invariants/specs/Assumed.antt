-- What a step of each policy assumes and leaves, in the form that its proof uses: sizes by the orders, bounds as plain facts.
use Rattle.std.specs.Prelude.{ℕ, ◌+◌, ◌*◌, ◌≤◌, ◌<◌, ◌≡◌, true}
use Rattle.meaning.specs.Neighbours.{NONE}
use Rattle.meaning.specs.Layout.{is_held, unit}
use Rattle.meaning.specs.Mem.{Mem, size, capacity_of, entry_count, first_of, second_of, word6_of}
use Rattle.invariants.specs.Proper.{Proper, Seated}
use Rattle.invariants.specs.Whole.{Unordered}

-- An LRU directory.
pub record Lru (m : Mem) : Type 0 where
  pub proper : Proper m
  pub one : (i : ℕ) → (m.lists i ≡ 0 → ⊥) → m.lists i ≡ 1
  pub all : entry_count m ≡ capacity_of m
  pub some : 1 ≤ capacity_of m

-- A CLOCK directory.
pub record Clock (m : Mem) : Type 0 where
  pub seated : Seated m
  pub idle : (i : ℕ) → m.lists i ≡ 0 → m.pages i ≡ NONE
  pub unordered : Unordered m
  pub one : (i : ℕ) → (m.lists i ≡ 0 → ⊥) → m.lists i ≡ 1
  pub all : entry_count m ≡ capacity_of m
  pub some : 1 ≤ capacity_of m
  pub hand : word6_of m < capacity_of m
  pub marks : (i : ℕ) → m.marks i ≤ 1

-- A segmented directory.
pub record Segmented (m : Mem) : Type 0 where
  pub proper : Proper m
  pub two : (i : ℕ) → (m.lists i ≡ 0 → ⊥) → is_held (m.lists i) ≡ true
  pub all : entry_count m ≡ capacity_of m
  pub first : (1 ≤ first_of m) × (first_of m < capacity_of m)
  pub protected : size m 2 ≤ first_of m

-- A 2Q directory.
pub record TwoQ (m : Mem) : Type 0 where
  pub proper : Proper m
  pub all : entry_count m ≡ capacity_of m + second_of m
  pub kin : first_of m < capacity_of m
  pub ghosts : size m 3 ≤ second_of m
  pub held : size m 1 + size m 2 ≤ capacity_of m
  pub unused : size m 4 ≡ 0

-- An ARC directory.
pub record Arc (m : Mem) : Type 0 where
  pub proper : Proper m
  pub all : entry_count m ≡ 2 * capacity_of m
  pub some : 1 ≤ capacity_of m
  pub target : word6_of m ≤ unit * capacity_of m
  pub left : size m 1 + size m 3 ≤ capacity_of m
  pub most : size m 1 + size m 2 + size m 3 + size m 4 ≤ 2 * capacity_of m
  pub held : size m 1 + size m 2 ≤ capacity_of m
  pub filled : 1 ≤ size m 3 + size m 4 → size m 1 + size m 2 ≡ capacity_of m
