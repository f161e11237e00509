-- What is read off the words of one entry.
use Rattle.std.specs.Prelude.{ℕ, Bool, ◌&&◌, List, eqb}
use Rattle.meaning.specs.Layout.{is_held, cell_at, list_col, slot_col}
use Rattle.meaning.specs.Mem.{word}

-- entry i holds a page in slot s
abbrev pub sits_at : List ℕ → ℕ → ℕ → Bool
sits_at ws s i = is_held (word ws (cell_at i list_col)) && eqb (word ws (cell_at i slot_col)) s
