-- What is asked of a directory as a value, beside `Fine`: values out of range are canonical.
use Rattle.std.specs.Prelude.{ℕ, ◌≤◌, ◌≡◌}
use Rattle.meaning.specs.Neighbours.{NONE}
use Rattle.meaning.specs.Mem.{Mem, entry_count}
use Rattle.invariants.specs.Places.{Fine}

pub record Canonical (m : Mem) : Type 0 where
  pub tops : (t : ℕ) → 7 ≤ t → m.tops t ≡ 0
  pub pages : (i : ℕ) → entry_count m ≤ i → m.pages i ≡ NONE
  pub lists : (i : ℕ) → entry_count m ≤ i → m.lists i ≡ 0
  pub slots : (i : ℕ) → entry_count m ≤ i → m.slots i ≡ NONE
  pub marks : (i : ℕ) → entry_count m ≤ i → m.marks i ≡ 0

pub record Shaped (m : Mem) : Type 0 where
  pub fine : Fine m
  pub canonical : Canonical m
