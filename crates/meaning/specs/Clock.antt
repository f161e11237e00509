-- Document 01, "The five policies": CLOCK. Its pages are on list 1 by their words, in no order; each entry's slot is its own number; word 6 is the hand.
use Rattle.std.specs.Prelude.{ℕ, zero, suc, ◌+◌, eqb, if◌then◌else◌}
use Rattle.meaning.specs.Mem.{Mem, entry_of, list_on, full, with_word6, with_mark, enter_seat, capacity_of, hand_of}
use Rattle.meaning.specs.Room.{Done, Room, as_it_is, put_out, hit_at, load}

-- Advance the hand: C-1 goes to 0.
unfoldable pub advance : Mem → Mem
advance m = with_word6 (if eqb (hand_of m + 1) (capacity_of m) then 0 else hand_of m + 1) m

-- A directory whose hand came to rest, and the marks that were cleared on the way.
pub record Swept : Type 0 where
  pub mem : Mem
  pub cleared : ℕ

-- While the slot at the hand is marked, clear the mark and advance the hand; at most n times, after so many cleared.
unfoldable pub sweep : ℕ → Mem → ℕ → Swept
sweep zero m cleared = record { mem = m; cleared = cleared }
sweep (suc n) m cleared =
    let more = sweep n (advance (with_mark (hand_of m) 0 m)) (cleared + 1) in
    if eqb (m.marks (hand_of m)) 0 then record { mem = m; cleared = cleared } else more

-- A new page takes its place in a directory with room; its mark is 0.
unfoldable pub seats : Room → ℕ → Mem
seats r page = enter_seat page r.slot r.mem

-- Put out the page at the hand, load with mark 0, advance the hand.
unfoldable pub clock_swap : Swept → ℕ → Done
clock_swap s page =
    let r = put_out s.mem (hand_of s.mem) in
    load r s.cleared (advance (seats r page))

-- Free slot: load there, mark 0, hand stays.
unfoldable pub clock_load : Mem → ℕ → Done
clock_load m page = load (as_it_is m) 0 (seats (as_it_is m) page)

-- Held: mark becomes 1, hand stays. Full: sweep, at most C marks, and swap.
unfoldable pub clock : Mem → ℕ → Done
clock m page =
    let e = entry_of m page in
    if eqb (list_on m page) 1 then hit_at m e (with_mark e 1 m) else
    if full m then clock_swap (sweep (capacity_of m) m 0) page else
    clock_load m page
