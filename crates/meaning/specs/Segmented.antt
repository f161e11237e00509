-- Document 01, "The five policies": segmented LRU. List 1 is probation P, list 2 protected Q; first is the most that Q holds.
use Rattle.std.specs.Prelude.{ℕ, eqb, ltb, if◌then◌else◌}
use Rattle.meaning.specs.Mem.{Mem, entry_of, list_on, size, back, to_front, first_of}
use Rattle.meaning.specs.Room.{Done, hit_at, enters}
use Rattle.meaning.specs.Lru.{lru_room}

-- If Q is now over first, its back goes to the front of P.
unfoldable pub spill : Mem → Mem
spill m = if ltb (first_of m) (size m 2) then to_front (back m 2) 1 m else m

-- In Q: to the front of Q. In P: to the front of Q, and spill. Else: if C are held, put out and remove the back of P; enter at the front of P.
unfoldable pub segmented : Mem → ℕ → Done
segmented m page =
    let e = entry_of m page in
    if eqb (list_on m page) 2 then hit_at m e (to_front e 2 m) else
    if eqb (list_on m page) 1 then hit_at m e (spill (to_front e 2 m)) else
    enters (lru_room m) page 1
