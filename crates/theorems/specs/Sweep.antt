-- CLOCK's sweep: one turn of it, and what it comes to; and room in a CLOCK directory.
use Rattle.std.specs.Prelude.{ℕ, ◌≤◌, ◌<◌, ◌≡◌}
use Rattle.meaning.specs.Neighbours.{NONE}
use Rattle.meaning.specs.Mem.{Mem, lowest, with_mark, capacity_of, entry_count, hand_of}
use Rattle.meaning.specs.Clock.{advance, Swept}
use Rattle.invariants.specs.Vacant.{Gap}
use Rattle.invariants.specs.Whole.{Unordered}
use Rattle.invariants.specs.Assumed.{Clock}
use Rattle.theorems.specs.Change.{Still, Header}

-- The mark at the hand cleared, and the hand advanced.
unfoldable pub turned : Mem → Mem
turned m = advance (with_mark (hand_of m) 0 m)

-- What a sweep from m comes to: a CLOCK directory with the same pages in the same slots, whose hand is at an entry without a mark.
pub record Rested (m : Mem) (s : Swept) : Type 0 where
  pub clock : Clock s.mem
  pub still : Still m s.mem
  pub header : Header m s.mem
  pub lists : s.mem.lists ≡ m.lists
  pub unmarked : s.mem.marks (hand_of s.mem) ≡ 0

-- A CLOCK directory with room at entry s.
pub record Spare (s : ℕ) (m : Mem) : Type 0 where
  pub gap : Gap s m
  pub idle : (i : ℕ) → m.lists i ≡ 0 → m.pages i ≡ NONE
  pub unordered : Unordered m
  pub one : (i : ℕ) → (m.lists i ≡ 0 → ⊥) → m.lists i ≡ 1
  pub all : entry_count m ≡ capacity_of m
  pub hand : hand_of m < capacity_of m
  pub marks : (i : ℕ) → m.marks i ≤ 1
  pub inside : s < entry_count m
  pub free : m.lists s ≡ 0
  pub low : lowest m ≡ s
