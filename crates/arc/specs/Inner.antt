-- What ARC's inner steps ask of a directory, and what they promise.
use Rattle.std.specs.Prelude.{ℕ, ◌+◌, ◌*◌, ◌≤◌, ◌<◌, ◌≡◌, Bool, true, false, eqb, if◌then◌else◌}
use Rattle.meaning.specs.Mem.{Mem, size, back, clear, capacity_of}
use Rattle.meaning.specs.Room.{Done, Room}
use Rattle.meaning.specs.Arc.{grown, shrunk, from_t1, replace, arc_b1, arc_b2}
use Rattle.invariants.specs.Assumed.{Arc}
use Rattle.rooms.specs.Rooms.{Lined}
use Rattle.arc.specs.declared.Ghosts.{Ghosts}
use Rattle.arc.specs.declared.Ghosts.TheVariants.{B1, B2}

-- A ghost list: its number.
abbrev pub list_of : Ghosts → ℕ
list_of B1 = 3
list_of B2 = 4

-- Whether it is B2.
abbrev pub is_b2 : Ghosts → Bool
is_b2 B1 = false
is_b2 B2 = true

-- The directory once p moved for a page in it.
abbrev pub moved : Ghosts → Mem → Mem
moved B1 = grown
moved B2 = shrunk

-- A request for a page in it.
abbrev pub arc_in : Ghosts → Mem → ℕ → Done
arc_in B1 = arc_b1
arc_in B2 = arc_b2

-- Replace, and whether the page asked for is in B2.
unfoldable pub replacing : Bool → Mem → Room
replacing inB2 m = replace m inB2

-- Whether T1's back is put out.
unfoldable pub from_first : Bool → Mem → Bool
from_first inB2 m = from_t1 m inB2

-- T2 has a back where T1's is not put out.
pub record Replaces (inB2 : Bool) (m : Mem) : Type 0 where
  pub lined : Lined m
  pub other : from_t1 m inB2 ≡ false → 1 ≤ size m 2

-- An ARC directory whose list k is not empty.
pub record NotEmpty (k : ℕ) (m : Mem) : Type 0 where
  pub arc : Arc m
  pub some : 1 ≤ size m k

-- An ARC directory whose entry e is on list k.
pub record Ghost (k e : ℕ) (m : Mem) : Type 0 where
  pub arc : Arc m
  pub on : m.lists e ≡ k

-- T1+B1 = C.
pub record Row (m : Mem) : Type 0 where
  pub arc : Arc m
  pub row : size m 1 + size m 3 ≡ capacity_of m

-- T1+B1 under C.
pub record Under (m : Mem) : Type 0 where
  pub arc : Arc m
  pub under : size m 1 + size m 3 < capacity_of m

-- The back of B2 is removed, if all four total 2C.
unfoldable pub shortened : Mem → Mem
shortened m = if eqb (size m 1 + size m 2 + size m 3 + size m 4) (2 * capacity_of m) then clear (back m 4) m else m
