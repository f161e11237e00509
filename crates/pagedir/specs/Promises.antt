-- What the C interface promises: the number returned, and every lent word afterwards, by the definitions of the calls.
use Rattle.std.specs.Prelude.{ℕ, ◌+◌, ◌*◌, ◌≡◌, List, [], ◌∷◌}
use Rattle.std.proofs.lemmas.List.Edits.{sets}
use Rattle.meaning.specs.Neighbours.{NONE}
use Rattle.meaning.specs.Room.{Kind, hit, loaded, swapped, Reply}
use Rattle.meaning.specs.Calls.{Said, refused, gave, Outcome, Counts, Sight, absent, held_in, remembered}
use Rattle.meaning.specs.Text.{Accepted}

-- The number of a refusal, 0 for none.
abbrev pub number : {A : Type 0} → Said A → ℕ
number (refused r) = r.number
number (gave a) = 0

-- The number in the low half, and what the refusal carries in the high half.
abbrev pub number_and_line : {A : Type 0} → Said A → ℕ
number_and_line (refused r) = r.number + 4294967296 * r.carried
number_and_line (gave a) = 0

-- The answer words: overwritten, from the first on, by what the call gave; on a refusal as they were.
abbrev pub answers : {A : Type 0} → (A → List ℕ) → Said A → List ℕ → List ℕ
answers f (refused r) before = before
answers f (gave a) before = sets before 0 (f a)

-- ── The answer words of each call ──

-- One number.
abbrev pub single : ℕ → List ℕ
single n = n ∷ []

-- 1 hit, 2 loaded, 3 swapped.
abbrev pub kind_no : Kind → ℕ
kind_no hit = 1
kind_no loaded = 2
kind_no swapped = 3

-- The kind; slot; page put out, or NONE; marks cleared.
abbrev pub reply_words : Reply → List ℕ
reply_words r = kind_no r.kind ∷ r.slot ∷ r.out ∷ r.cleared ∷ []

-- Hits; loads; swaps.
abbrev pub count_words : Counts → List ℕ
count_words c = c.hits ∷ c.loads ∷ c.swaps ∷ []

-- 0 absent, 1 held, 2 remembered; slot, or NONE.
abbrev pub sight_words : Sight → List ℕ
sight_words absent = 0 ∷ NONE ∷ []
sight_words (held_in s) = 1 ∷ s ∷ []
sight_words remembered = 2 ∷ NONE ∷ []

-- Policy; capacity; first; second; count.
abbrev pub read_words : Accepted → List ℕ
read_words a = a.policy ∷ a.capacity ∷ a.first ∷ a.second ∷ a.count ∷ []

-- ── Promises ──

-- A call that lends only the answer words: it returns by code what the call said, and f gives the answer words from what the call gave.
pub record Told {A : Type 0} (code : Said A → ℕ) (f : A → List ℕ) (said : Said A) (answer : List ℕ) (r : ℕ) (answer' : List ℕ) : Type 0 where
  pub number : r ≡ code said
  pub words : answer' ≡ answers f said answer

-- A call that lends something beside the answer words.
pub record ToldAnd {A L : Type 0} (code : Said A → ℕ) (f : A → List ℕ) (o : Outcome A L) (answer : List ℕ) (r : ℕ) (answer' : List ℕ) (left' : L) : Type 0 where
  pub told : Told code f o.said answer r answer'
  pub left : left' ≡ o.left

-- A call with no answer words.
pub record Left {A L : Type 0} (o : Outcome A L) (r : ℕ) (left' : L) : Type 0 where
  pub number : r ≡ number o.said
  pub left : left' ≡ o.left
