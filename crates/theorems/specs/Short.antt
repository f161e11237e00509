-- 2Q's room for a page that comes back from A1out, in short: nothing is trimmed, and the page need not be taken off A1out first.
use Rattle.std.specs.Prelude.{not, ltb, if◌then◌else◌}
use Rattle.meaning.specs.Mem.{Mem, size, back, full, first_of}
use Rattle.meaning.specs.Room.{Room, as_it_is, put_out, put_out_to}

-- Nothing if fewer than C are held; else if A1in is over Kin, its back goes to the front of A1out; else the back of Am is removed.
unfoldable pub short_room : Mem → Room
short_room m =
    if not (full m) then as_it_is m else
    if ltb (first_of m) (size m 1) then put_out_to m (back m 1) 3 else
    put_out m (back m 2)
