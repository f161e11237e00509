-- What making room and filling it ask of a directory, and what they promise.
use Rattle.std.specs.Prelude.{ℕ, ◌<◌, ◌≤◌, ◌≡◌, true, List, Option, Some, None, eqb, if◌then◌else◌}
use Rattle.meaning.specs.declared.Answer.{Answer}
use Rattle.meaning.specs.Neighbours.{NONE}
use Rattle.meaning.specs.Mem.{Mem, size, back, full, to_front, clear}
use Rattle.meaning.specs.Room.{loaded, swapped, Reply, Done, Room, put_out, put_out_to, hit_at, load, enters, returns}
use Rattle.meaning.specs.Answers.{reply_of}
use Rattle.invariants.specs.Places.{Repr}
use Rattle.invariants.specs.Proper.{Indexed, Ordered}
use Rattle.lists.specs.Asked.{OnList}
use Rattle.rooms.specs.declared.freed.Freed.{Freed}

-- ── What is promised ──

-- The words are the directory that d leaves, and r is its answer.
pub record Ends (ws : List ℕ) (r : Answer) (d : Done) : Type 0 where
  pub repr : Repr ws d.mem
  pub says : reply_of r ≡ d.reply

-- Whatever directory ws is, if ok holds of it, ws' and r are what the step makes of it.
pub record Serves (ws ws' : List ℕ) (ok : Mem → Type 0) (step : Mem → Done) (r : Answer) : Type 0 where
  pub to : (m : Mem) → Repr ws m → ok m → Ends ws' r (step m)

-- The page put out as meaning writes it: NONE where there is none.
abbrev pub page_or_none : Option ℕ → ℕ
page_or_none None = NONE
page_or_none (Some p) = p

-- The words are the directory with that room, and f is its slot and the page put out.
pub record Clears (ws : List ℕ) (f : Freed) (r : Room) : Type 0 where
  pub repr : Repr ws r.mem
  pub slot : f.slot ≡ r.slot
  pub out : page_or_none f.out ≡ r.out

-- Whatever directory ws is, if ok holds of it, ws' and f are the room made in it.
pub record Frees (ws ws' : List ℕ) (ok : Mem → Type 0) (room : Mem → Room) (f : Freed) : Type 0 where
  pub to : (m : Mem) → Repr ws m → ok m → Clears ws' f (room m)

-- ── The steps ──

-- A step for a page, or for the page of an entry.
unfoldable pub asking : (Mem → ℕ → Done) → ℕ → Mem → Done
asking step page m = step m page

-- What comes in, where room was made.
unfoldable pub filling : (Mem → Room) → (Room → Done) → Mem → Done
filling room load m = load (room m)

-- The same, where the room is there, with this slot and this page put out.
unfoldable pub given : Freed → (Room → Done) → Mem → Done
given f load m = load (record { mem = m; slot = f.slot; out = page_or_none f.out })

-- A new page enters at the front of list j.
unfoldable pub entering : ℕ → ℕ → Room → Done
entering page j r = enters r page j

-- A ghost, whose entry is e, comes to the front of list j.
unfoldable pub returning : ℕ → ℕ → Room → Done
returning e j r = returns r e j

-- A hit on entry e, which goes to the front of list j.
unfoldable pub hit_front : ℕ → ℕ → Mem → Done
hit_front e j m = hit_at m e (to_front e j m)

-- Loaded where nothing was put out, else Swapped.
unfoldable pub loading : Freed → ℕ → Reply
loading f cleared = record { kind = if eqb (page_or_none f.out) NONE then loaded else swapped; slot = f.slot; out = page_or_none f.out; cleared = cleared }

-- Entry e is put out and removed.
unfoldable pub out_of : ℕ → Mem → Room
out_of e m = put_out m e

-- Entry e is put out to the ghosts j.
unfoldable pub out_to : ℕ → ℕ → Mem → Room
out_to e j m = put_out_to m e j

-- Entry e is put out to the front of those ghosts, or removed where there are none.
abbrev pub leaving : ℕ → Option ℕ → Mem → Room
leaving e None = out_of e
leaving e (Some j) = out_to e j

-- The back of list k is put out and removed.
unfoldable pub back_out : ℕ → Mem → Room
back_out k m = put_out m (back m k)

-- The back of list k is put out to the ghosts j.
unfoldable pub back_to : ℕ → ℕ → Mem → Room
back_to k j m = put_out_to m (back m k) j

-- The back of list k is put out to the front of those ghosts, or removed where there are none.
abbrev pub back_leaving : ℕ → Option ℕ → Mem → Room
back_leaving k None = back_out k
back_leaving k (Some j) = back_to k j

-- The back of list k is removed.
unfoldable pub back_gone : ℕ → Mem → Mem
back_gone k m = clear (back m k) m

-- ── What is asked ──

-- Pages, chains and lists are right.
pub record Lined (m : Mem) : Type 0 where
  pub indexed : Indexed m
  pub ordered : Ordered m

-- The same, and list k is not empty.
pub record HasBack (k : ℕ) (m : Mem) : Type 0 where
  pub lined : Lined m
  pub some : 1 ≤ size m k

-- The same, if C are held.
pub record Evicts (k : ℕ) (m : Mem) : Type 0 where
  pub lined : Lined m
  pub some : full m ≡ true → 1 ≤ size m k

-- Room can be made, and leaves what the page that comes in asks for.
pub record Then (ok : Mem → Type 0) (room : Mem → Room) (ok' : Mem → Type 0) (m : Mem) : Type 0 where
  pub asks : ok m
  pub leaves : ok' (room m).mem

-- The directory is of that kind, and has not the page p, which is not NONE.
pub record Missing (ok : Mem → Type 0) (p : ℕ) (m : Mem) : Type 0 where
  pub kind : ok m
  pub real : p < NONE
  pub absent : (i : ℕ) → m.pages i ≡ p → ⊥

-- Entry e is on a list, and the lists are right once it is at the front of list j.
pub record Fronts (e j : ℕ) (m : Mem) : Type 0 where
  pub on : OnList e m
  pub lined : Lined (to_front e j m)
