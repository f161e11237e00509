-- The words that the inner functions leave.
use Rattle.std.specs.Prelude.{ℕ, List, set}
use Rattle.meaning.specs.Neighbours.{NONE}
use Rattle.meaning.specs.Layout.{bucket_of, cell_at, bucket_at, chain_col, page_col}
use Rattle.meaning.specs.Mem.{word, E, bits_in}
use Rattle.invariants.specs.Places.{link_at}

-- the address of a page's bucket
abbrev pub bucket_on : List ℕ → ℕ → ℕ
bucket_on ws p = bucket_at (E ws) (bucket_of (bits_in ws) p)

-- e at the front of the chain of p
abbrev pub hung : List ℕ → ℕ → ℕ → List ℕ
hung ws e p = set (set (set ws (cell_at e page_col) p) (cell_at e chain_col) (word ws (bucket_on ws p))) (bucket_on ws p) e

-- e, which stands behind a, off its chain
abbrev pub unhung : List ℕ → ℕ → ℕ → List ℕ
unhung ws e a =
    set (set (set ws (link_at (bucket_on ws (word ws (cell_at e page_col))) chain_col a) (word ws (cell_at e chain_col))) (cell_at e page_col) NONE) (cell_at e chain_col) NONE
