-- Document 01, "The five policies": LRU, on list 1.
use Rattle.std.specs.Prelude.{ℕ, eqb, if◌then◌else◌}
use Rattle.meaning.specs.Mem.{Mem, entry_of, list_on, back, full, to_front}
use Rattle.meaning.specs.Room.{Done, Room, as_it_is, put_out, hit_at, enters}

-- If C are held, put out and remove the back.
unfoldable pub lru_room : Mem → Room
lru_room m = if full m then put_out m (back m 1) else as_it_is m

-- Held: to the front. Else make room; the page enters at the front.
unfoldable pub lru : Mem → ℕ → Done
lru m page =
    let e = entry_of m page in
    if eqb (list_on m page) 1 then hit_at m e (to_front e 1 m) else
    enters (lru_room m) page 1
