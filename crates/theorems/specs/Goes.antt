-- What a step inside a request does to a directory with lists.
use Rattle.std.specs.Prelude.{ℕ, ◌≡◌, false}
use Rattle.meaning.specs.Layout.{is_held}
use Rattle.meaning.specs.Mem.{Mem}
use Rattle.meaning.specs.Room.{Room}
use Rattle.invariants.specs.Proper.{Proper}
use Rattle.invariants.specs.Vacant.{Vacant}
use Rattle.theorems.specs.Change.{Still, Quiet}
use Rattle.theorems.specs.Served.{Makes}
use Rattle.theorems.specs.Sizes.{Resized}

-- An entry goes from list k to list j (0 for none), and the same pages are held in the same slots.
pub record Goes (k j : ℕ) (m n : Mem) : Type 0 where
  pub proper : Proper n
  pub sizes : Resized k j m n
  pub quiet : Quiet m n
  pub still : Still m n

-- Room is made: an entry goes from list k, of held pages, to list j, of ghosts or none; ghosts stay where they are. Both are 0 where nothing is put out.
pub record Out (k j : ℕ) (m : Mem) (r : Room) : Type 0 where
  pub vacant : Vacant r.slot r.mem
  pub sizes : Resized k j m r.mem
  pub quiet : Quiet m r.mem
  pub makes : Makes m r
  pub stays : (i : ℕ) → is_held (m.lists i) ≡ false → (r.mem.lists i ≡ m.lists i) × (r.mem.pages i ≡ m.pages i)

-- Room for a new page, made in one step or in several, and what it leaves of the sizes.
pub record Made (sizes : Mem → Type 0) (m : Mem) (r : Room) : Type 0 where
  pub vacant : Vacant r.slot r.mem
  pub quiet : Quiet m r.mem
  pub makes : Makes m r
  pub fits : sizes r.mem
