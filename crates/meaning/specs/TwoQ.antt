-- Document 01, "The five policies": 2Q. List 1 is A1in, list 2 Am, list 3 A1out (ghosts); first is Kin, second is Kout.
use Rattle.std.specs.Prelude.{ℕ, not, eqb, ltb, if◌then◌else◌}
use Rattle.meaning.specs.Mem.{Mem, entry_of, list_on, size, back, full, off, to_front, clear, first_of, second_of}
use Rattle.meaning.specs.Room.{Done, Room, as_it_is, put_out, put_out_to, hit_at, enters, returns}

-- If A1out is over Kout its back is removed.
unfoldable pub trimmed : Mem → Mem
trimmed m = if ltb (second_of m) (size m 3) then clear (back m 3) m else m

unfoldable pub trimmed_room : Room → Room
trimmed_room r = record { mem = trimmed r.mem; slot = r.slot; out = r.out }

-- Make room: nothing if fewer than C are held; else if A1in is over Kin, its back is put out and goes to the front of A1out, and A1out is trimmed; else the back of Am is put out and removed.
unfoldable pub make_room : Mem → Room
make_room m =
    if not (full m) then as_it_is m else
    if ltb (first_of m) (size m 1) then trimmed_room (put_out_to m (back m 1) 3) else
    put_out m (back m 2)

-- In Am: to its front. In A1in: a hit, nothing moves. In A1out: take it off A1out, make room, enter at the front of Am. Else: make room, enter at the front of A1in.
unfoldable pub two_q : Mem → ℕ → Done
two_q m page =
    let e = entry_of m page in
    if eqb (list_on m page) 2 then hit_at m e (to_front e 2 m) else
    if eqb (list_on m page) 1 then hit_at m e m else
    if eqb (list_on m page) 3 then returns (make_room (off e m)) e 2 else
    enters (make_room m) page 1
