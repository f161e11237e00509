-- What CLOCK's inner steps ask of a directory, and what they promise.
use Rattle.std.specs.Prelude.{ℕ, ◌≤◌, ◌<◌, ◌≡◌, Bool, not, List, eqb}
use Rattle.meaning.specs.Neighbours.{NONE}
use Rattle.meaning.specs.Mem.{Mem, held, capacity_of, hand_of}
use Rattle.meaning.specs.Room.{Done, Room, put_out, load}
use Rattle.meaning.specs.Clock.{advance, sweep, seats, clock_swap}
use Rattle.invariants.specs.Assumed.{Clock}
use Rattle.invariants.specs.Places.{Repr}
use Rattle.lists.specs.Asked.{Kept}
use Rattle.lists.specs.Asked as asked
use Rattle.rooms.specs.Rooms.{Missing}

-- Whether the entry at the hand is marked.
unfoldable pub at_mark : Mem → Bool
at_mark m = not (eqb (m.marks (hand_of m)) 0)

-- The directory whose hand came to rest, at r marks cleared.
pub record Rests (ws : List ℕ) (r : ℕ) (m : Mem) : Type 0 where
  pub repr : Repr ws (sweep (capacity_of m) m 0).mem
  pub says : r ≡ (sweep (capacity_of m) m 0).cleared

-- Whatever CLOCK directory ws is, ws' and r are what the sweep makes of it.
pub record Sweeps (ws ws' : List ℕ) (r : ℕ) : Type 0 where
  pub to : (m : Mem) → Repr ws m → Clock m → Rests ws' r m

-- The hand is below C.
pub record Handed (m : Mem) : Type 0 where
  pub hand : hand_of m < capacity_of m

-- The entry at the hand can be removed.
pub record AtHand (m : Mem) : Type 0 where
  pub kept : Kept (hand_of m) m

-- The page at the hand is put out.
unfoldable pub hand_out : Mem → Room
hand_out m = put_out m (hand_of m)

-- There is a free entry for the page p, which is not NONE, and the hand is below C.
pub record Seats (p : ℕ) (m : Mem) : Type 0 where
  pub room : asked.Admits p m
  pub real : p < NONE
  pub hand : hand_of m < capacity_of m

-- A new page takes its place and the hand advances, after so many marks cleared.
unfoldable pub swapping : ℕ → ℕ → Room → Done
swapping page cleared r = load r cleared (advance (seats r page))

-- CLOCK's swap after its sweep.
unfoldable pub sweeping : ℕ → Mem → Done
sweeping page m = clock_swap (sweep (capacity_of m) m 0) page

-- A CLOCK directory without the page p, in which C are held.
pub record ClockFull (p : ℕ) (m : Mem) : Type 0 where
  pub miss : Missing Clock p m
  pub full : capacity_of m ≤ held m
