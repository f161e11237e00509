-- The sizes of the four lists before and after an entry goes from list k to list j; 0 stands for none.
use Rattle.std.specs.Prelude.{ℕ, ◌+◌, ◌≡◌, eqb}
use Rattle.meaning.specs.Base.{one_if}
use Rattle.meaning.specs.Mem.{Mem, size}

-- Each size, with one for the entry where it was and where it is.
pub record Resized (k j : ℕ) (m n : Mem) : Type 0 where
  pub s1 : size n 1 + one_if (eqb k 1) ≡ size m 1 + one_if (eqb j 1)
  pub s2 : size n 2 + one_if (eqb k 2) ≡ size m 2 + one_if (eqb j 2)
  pub s3 : size n 3 + one_if (eqb k 3) ≡ size m 3 + one_if (eqb j 3)
  pub s4 : size n 4 + one_if (eqb k 4) ≡ size m 4 + one_if (eqb j 4)
