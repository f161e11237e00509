-- What a function that reads answers.
use Rattle.std.specs.Prelude.{ℕ, ◌≡◌}
use Rattle.meaning.specs.Mem.{Mem}

-- r is what f says of a directory
pub record Gives {A : Type 0} (f : Mem → A) (r : A) (m : Mem) : Type 0 where
  pub is : r ≡ f m

-- r is what f says of a directory and of x
pub record GivesOf {A : Type 0} (f : Mem → ℕ → A) (x : ℕ) (r : A) (m : Mem) : Type 0 where
  pub is : r ≡ f m x
