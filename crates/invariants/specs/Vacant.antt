-- Directories with room for one page.
use Rattle.std.specs.Prelude.{ℕ, suc, ◌≤◌, false}
use Rattle.meaning.specs.Neighbours.{put}
use Rattle.meaning.specs.Mem.{Mem, held}
use Rattle.invariants.specs.Proper.{Indexed, Ordered, Slotted, up_to}

-- the slots in use are those below held + 1, but for one, s: of every policy, CLOCK too
pub record Gap (s : ℕ) (m : Mem) : Type 0 where
  pub indexed : Indexed m
  pub fits : s ≤ held m
  pub slotted : Slotted (put (up_to (suc (held m))) s false) m

-- the same, of a policy that keeps lists
pub record Vacant (s : ℕ) (m : Mem) : Type 0 where
  pub gap : Gap s m
  pub ordered : Ordered m
