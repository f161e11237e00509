-- Document 01, "The five policies": ARC. List 1 is T1, list 2 T2, list 3 B1, list 4 B2 (3 and 4 ghosts); word 6 is the target p. Sizes are those before the request moves anything.
use Rattle.std.specs.Prelude.{ℕ, ◌+◌, ◌*◌, ◌-◌, ◌/◌, min, Bool, true, false, ◌&&◌, ◌||◌, eqb, leb, ltb, if◌then◌else◌}
use Rattle.meaning.specs.Layout.{is_held, unit}
use Rattle.meaning.specs.Mem.{Mem, entry_of, list_on, size, back, full, with_word6, to_front, clear, capacity_of, target_of}
use Rattle.meaning.specs.Room.{Done, Room, as_it_is, put_out, put_out_to, hit_at, enters, returns}

-- How far p moves: 1 slot if the page's ghost list (mine) is at least the other, else other/mine rounded down.
unfoldable pub step_of : ℕ → ℕ → ℕ
step_of mine other = if leb other mine then unit else unit * other / mine

-- The largest p: C slots.
abbrev pub most_target : Mem → ℕ
most_target m = unit * capacity_of m

-- In B1, p becomes the smaller of C and p + d.
unfoldable pub grown : Mem → Mem
grown m = with_word6 (min (most_target m) (target_of m + step_of (size m 3) (size m 4))) m

-- In B2, p becomes p - d, but not below 0.
unfoldable pub shrunk : Mem → Mem
shrunk m = with_word6 (target_of m - step_of (size m 4) (size m 3)) m

-- T1 isn't empty and (T1 is over p, or the page asked for is in B2 and T1 = p).
unfoldable pub from_t1 : Mem → Bool → Bool
from_t1 m inB2 = ltb 0 (size m 1) && (ltb (target_of m) (unit * size m 1) || (inB2 && eqb (unit * size m 1) (target_of m)))

-- Replace, with the new p: the back of T1 is put out to the front of B1; else the back of T2 to the front of B2.
unfoldable pub replace : Mem → Bool → Room
replace m inB2 = if from_t1 m inB2 then put_out_to m (back m 1) 3 else put_out_to m (back m 2) 4

-- In B1: p grows. Replace; then to the front of T2.
unfoldable pub arc_b1 : Mem → ℕ → Done
arc_b1 m e = returns (replace (grown m) false) e 2

-- In B2: p shrinks. Replace; then to the front of T2.
unfoldable pub arc_b2 : Mem → ℕ → Done
arc_b2 m e = returns (replace (shrunk m) true) e 2

-- In none, T1+B1 = C: if T1 is under C, remove the back of B1 and replace; else put out and remove the back of T1, with no ghost.
unfoldable pub arc_full_row : Mem → Room
arc_full_row m =
    if ltb (size m 1) (capacity_of m) then replace (clear (back m 3) m) false else put_out m (back m 1)

-- In none, T1+B1 under C: if all four total 2C, remove the back of B2; if C are held, replace.
unfoldable pub arc_under : Mem → Room
arc_under m =
    let m' = if eqb (size m 1 + size m 2 + size m 3 + size m 4) (2 * capacity_of m) then clear (back m 4) m else m in
    if full m then replace m' false else as_it_is m'

-- In T1 or T2: a hit, to the front of T2. In B1, in B2, or in none: as above; a new page enters at the front of T1.
unfoldable pub arc : Mem → ℕ → Done
arc m page =
    let e = entry_of m page in
    if is_held (list_on m page) then hit_at m e (to_front e 2 m) else
    if eqb (list_on m page) 3 then arc_b1 m e else
    if eqb (list_on m page) 4 then arc_b2 m e else
    if eqb (size m 1 + size m 3) (capacity_of m) then enters (arc_full_row m) page 1 else
    enters (arc_under m) page 1
