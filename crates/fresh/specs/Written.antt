-- The words of a fresh directory.
use Rattle.std.specs.Prelude.{ℕ, ◌+◌, ◌*◌, ◌%◌, ◌^◌, ◌≤◌, ◌<◌, ◌≡◌, ◌&&◌, ◌||◌, cond, List, [], ◌∷◌, eqb, leb, ltb, length}
use Rattle.std.proofs.lemmas.List.Edits.{sets}
use Rattle.meaning.specs.Neighbours.{NONE}
use Rattle.meaning.specs.Layout.{Settings, entries_of, bits_of}
use Rattle.meaning.specs.Mem.{word, words, fresh}

-- header words 0 to 6
abbrev pub headed : List ℕ → Settings → ℕ → ℕ → List ℕ
headed ws s E k = sets ws 0 (s.policy ∷ s.C ∷ E ∷ k ∷ s.first ∷ s.second ∷ 0 ∷ [])

-- what stands at a, from 7 on, in a fresh directory of n entries
unfoldable pub blank : ℕ → ℕ → ℕ
blank n a = cond (eqb a 15) 0 (cond (leb 16 a && ltb a (16 + 8 * n) && (eqb (a % 8) 1 || leb 6 (a % 8))) 0 NONE)

-- ws' is ws with all from 7 on blank
pub record Wiped (ws : List ℕ) (n : ℕ) (ws' : List ℕ) : Type 0 where
  pub long : length ws' ≡ length ws
  pub kept : (a : ℕ) → a < 7 → word ws' a ≡ word ws a
  pub wiped : (a : ℕ) → 7 ≤ a → a < length ws → word ws' a ≡ blank n a

-- E and k are those of the settings, and the words are as many as they say
pub record Fits (s : Settings) (E k : ℕ) (ws : List ℕ) : Type 0 where
  pub entries : E ≡ entries_of s.policy s.C s.second
  pub bits : k ≡ bits_of E
  pub size : length ws ≡ 16 + 8 * E + 2 ^ k

-- the words of the fresh directory of settings
abbrev pub fresh_words : Settings → List ℕ
fresh_words s = words (fresh s)
