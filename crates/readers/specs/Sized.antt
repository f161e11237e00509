-- What the rules after a rest on: the entries and the buckets are all there.
use Rattle.std.specs.Prelude.{ℕ, ◌+◌, ◌*◌, ◌^◌, ◌≤◌, ◌≡◌, List, length}
use Rattle.meaning.specs.Layout.{cell_at, chain_col}
use Rattle.meaning.specs.Mem.{word, E, bits_in, capacity_in}

-- At most 512 pages, 1,024 entries and 2^10 buckets, and words for all of them.
pub record Sized (ws : List ℕ) : Type 0 where
  pub most : capacity_in ws ≤ 512
  pub few : E ws ≤ 1024
  pub fits : 16 + 8 * E ws + 2 ^ bits_in ws ≡ length ws
  pub bits : bits_in ws ≤ 10

-- The chain link of entry i.
abbrev pub chain_in : List ℕ → ℕ → ℕ
chain_in ws i = word ws (cell_at i chain_col)
