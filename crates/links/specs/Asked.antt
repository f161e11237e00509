-- What the functions on lists ask of a directory.
use Rattle.std.specs.Prelude.{ℕ, ◌≤◌, ◌<◌, ◌≡◌, true, [], ◌⊎◌}
use Rattle.meaning.specs.Neighbours.{has}
use Rattle.meaning.specs.Mem.{Mem, entry_count}

-- entry e is on a list, in its order, or by its word alone where the list has no order
pub record OnList (e : ℕ) (m : Mem) : Type 0 where
  pub within : e < entry_count m
  pub range : (1 ≤ m.lists e) × (m.lists e ≤ 4)
  pub on : (has (m.order (m.lists e)) e ≡ true) ⊎ (m.order (m.lists e) ≡ [])

-- entry e is on no list
pub record OffList (e : ℕ) (m : Mem) : Type 0 where
  pub within : e < entry_count m
  pub none : m.lists e ≡ 0
