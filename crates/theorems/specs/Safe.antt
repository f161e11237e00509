-- Never the wrong slot: what holds of a directory's words and of RAM at the end of any history, when each loaded page is put where the answers said.
use Rattle.std.specs.Prelude.{ℕ, ◌<◌, ◌≡◌, Bool, List, ◌↔◌, leb}
use Rattle.meaning.specs.Neighbours.{NONE}
use Rattle.meaning.specs.Layout.{Settings}
use Rattle.meaning.specs.Mem.{Mem, words, fresh, capacity_of}
use Rattle.meaning.specs.Room.{hit, Reply}
use Rattle.meaning.specs.Calls.{plain, Said, refused, gave, Outcome, Event, ask, held_in, sight}
use Rattle.invariants.specs.Proper.{Sits}
use Rattle.invariants.specs.Whole.{Whole}
use Rattle.invariants.specs.Ram.{loads, Right}
use Rattle.theorems.specs.Change.{Header}

-- A page asked for is a word of 32 bits.
unfoldable pub fits : Event → Bool
fits (ask p) = leb p NONE

-- RAM after an event and what it said: a refusal loads nothing.
unfoldable pub ram_by : (ℕ → ℕ) → Event → Said Reply → ℕ → ℕ
ram_by ram (ask p) (refused r) = ram
ram_by ram (ask p) (gave r) = loads r p ram

-- RAM after an event and its outcome.
unfoldable pub loading : (ℕ → ℕ) → Event → Outcome Reply (List ℕ) → ℕ → ℕ
loading ram e o = ram_by ram e o.said

-- What is said is right: the slot is one of the C, a Hit names one that holds that very page, and only a request for NONE is refused, with 6.
unfoldable pub RightSaid : ℕ → (ℕ → ℕ) → Event → Said Reply → Type 0
RightSaid C ram (ask p) (refused r) = (p ≡ NONE) × (r ≡ plain 6)
RightSaid C ram (ask p) (gave r) = (r.slot < C) × (r.kind ≡ hit → ram r.slot ≡ p)

-- The words are those of a directory of these settings that rules a to h allow, and every page that it holds is in RAM, in its slot.
pub record Stands (s : Settings) (ram : ℕ → ℕ) (ws : List ℕ) : Type 0 where
  pub mem : Mem
  pub whole : Whole mem
  pub header : Header (fresh s) mem
  pub is : ws ≡ words mem
  pub right : Right ram mem

-- Every slot in use is one of the C, no two held pages share a slot, and a look says held in slot s exactly if the page is held there.
pub record Safe (m : Mem) : Type 0 where
  pub within : (q s : ℕ) → Sits q s m → s < capacity_of m
  pub apart : (q r s : ℕ) → Sits q s m → Sits r s m → q ≡ r
  pub look : (p s : ℕ) → p < NONE → (sight m p ≡ held_in s) ↔ Sits p s m
