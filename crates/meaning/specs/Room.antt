-- What the five policies share: the answer to a request, room for a page, and how a page comes in.
use Rattle.std.specs.Prelude.{ℕ, eqb, if◌then◌else◌}
use Rattle.meaning.specs.Neighbours.{NONE}
use Rattle.meaning.specs.Mem.{open_mem, Mem, free_slot, move_to, clear, enter}

-- Hit with the slot, Loaded with the slot (a free slot was used), or Swapped with the slot and the page put out; and the marks that the sweep cleared.
pub data Kind : Type 0 where
  hit loaded swapped : Kind

pub record Reply : Type 0 where
  pub kind : Kind
  pub slot : ℕ
  pub out : ℕ
  pub cleared : ℕ

-- The answer to a request, and the directory after it.
pub record Done : Type 0 where
  pub reply : Reply
  pub mem : Mem

-- A directory with room: the slot that the loaded page takes, and the page put out, or NONE.
pub record Room : Type 0 where
  pub mem : Mem
  pub slot : ℕ
  pub out : ℕ

-- Nothing is put out: a loaded page takes the lowest free slot.
unfoldable pub as_it_is : Mem → Room
as_it_is m = record { mem = m; slot = free_slot m; out = NONE }

-- Entry e is put out and removed: a loaded page takes the slot of the page put out.
unfoldable pub put_out : Mem → ℕ → Room
put_out m e = record { mem = clear e m; slot = m.slots e; out = m.pages e }

-- Entry e is put out, to the front of the ghosts j: the page loses its slot.
unfoldable pub put_out_to : Mem → ℕ → ℕ → Room
put_out_to m e j = record { mem = move_to e j NONE m; slot = m.slots e; out = m.pages e }

-- A hit on entry e, and the directory after it.
unfoldable pub hit_at : Mem → ℕ → Mem → Done
hit_at m e after = record { reply = record { kind = hit; slot = m.slots e; out = NONE; cleared = 0 }; mem = after }

-- Loaded where nothing was put out, else Swapped.
unfoldable pub load : Room → ℕ → Mem → Done
load r cleared after =
    record { reply = record { kind = if eqb r.out NONE then loaded else swapped; slot = r.slot; out = r.out; cleared = cleared }; mem = after }

-- A new page enters at the front of list j.
unfoldable pub enters : Room → ℕ → ℕ → Done
enters r page j = load r 0 (enter page j r.slot r.mem)

-- A ghost, whose entry is e, comes to the front of list j.
unfoldable pub returns : Room → ℕ → ℕ → Done
returns r e j = load r 0 (move_to e j r.slot r.mem)

-- For a proof that computes: `unfolding open_room` opens every definition of this file and of the files below it.
unfoldable pub open_room : Unit {0}
unfolding open_mem as_it_is put_out put_out_to hit_at load enters returns
open_room = tt
