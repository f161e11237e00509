-- Document 01, "Trace text": the replay program, from the bytes of its input to the bytes that it writes.
use Rattle.std.specs.Prelude.{ℕ, List, [], ◌∷◌, ◌++◌, replicate}
use Rattle.meaning.specs.Layout.{Settings}
use Rattle.meaning.specs.Calls.{Refusal, Said, refused, gave, words_for, formed, replayed, Counts, none}
use Rattle.meaning.specs.Text.{open_text, line_of, read_text}

-- The pages that the program has room for.
abbrev pub program_room : ℕ
program_room = 9362

-- The numbers of the five lines.
pub record Five : Type 0 where
  pub refused : ℕ
  pub line : ℕ
  pub counts : Counts

-- A refusal ends it, with its number and the line that it carries; unused numbers are 0.
abbrev pub ended : Refusal → Five
ended r = record { refused = r.number; line = r.carried; counts = none }

-- A replay that did not refuse gives its counts.
abbrev pub finished : Counts → Five
finished c = record { refused = 0; line = 0; counts = c }

-- What follows, unless a call refused.
abbrev pub onward : {A : Type 0} → Said A → (A → Five) → Five
onward (refused r) f = ended r
onward (gave a) f = f a

-- Replays the pages in the words of a directory.
unfoldable pub replay_in : List ℕ → List ℕ → Five
replay_in ws pages = onward (replayed ws pages).said finished

-- Forms a directory in words lent for it, and replays the pages in it.
unfoldable pub form_in : Settings → List ℕ → List ℕ → Five
form_in s ws pages = let o = formed s ws in onward o.said (λ u. replay_in o.left pages)

-- Forms and replays, in as many words as form asks.
unfoldable pub play_in : Settings → List ℕ → Five
play_in s pages = onward (words_for s) (λ n. form_in s (replicate n 0) pages)

-- Reads, forms and replays; the first refusal ends it.
unfoldable pub programmed : List ℕ → Five
programmed text = onward (read_text text program_room) (λ t. play_in t.settings t.pages)

-- `refused=`, `line=`, `hits=`, `loads=` and `swaps=`.
abbrev pub refused_key : List ℕ
refused_key = 114 ∷ 101 ∷ 102 ∷ 117 ∷ 115 ∷ 101 ∷ 100 ∷ 61 ∷ []

abbrev pub line_key : List ℕ
line_key = 108 ∷ 105 ∷ 110 ∷ 101 ∷ 61 ∷ []

abbrev pub hits_key : List ℕ
hits_key = 104 ∷ 105 ∷ 116 ∷ 115 ∷ 61 ∷ []

abbrev pub loads_key : List ℕ
loads_key = 108 ∷ 111 ∷ 97 ∷ 100 ∷ 115 ∷ 61 ∷ []

abbrev pub swaps_key : List ℕ
swaps_key = 115 ∷ 119 ∷ 97 ∷ 112 ∷ 115 ∷ 61 ∷ []

-- The five lines.
unfoldable pub five_lines : Five → List ℕ
five_lines r =
    line_of refused_key r.refused
    ++ (line_of line_key r.line
    ++ (line_of hits_key r.counts.hits ++ (line_of loads_key r.counts.loads ++ line_of swaps_key r.counts.swaps)))

-- For a proof that computes: `unfolding open_program` opens every definition of this file and of the files below it.
unfoldable pub open_program : Unit {0}
unfolding open_text replay_in form_in play_in programmed five_lines
open_program = tt
