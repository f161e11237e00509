-- What the second program hands over, and when the definitions agree with it.
use Rattle.std.specs.Prelude.{ℕ, Bool, true, false, ◌&&◌, List, [], ◌∷◌, set, eqb}
use Rattle.meaning.specs.Base.{same}
use Rattle.meaning.specs.Layout.{four}
use Rattle.meaning.specs.Mem.{words, fresh}
use Rattle.meaning.specs.Room.{Kind, hit, loaded, swapped, Reply}
use Rattle.meaning.specs.Rules.{broken}
use Rattle.meaning.specs.Calls.{Said, refused, gave, requested}

-- Policy, capacity, first and second; the pages asked for; four numbers an answer (1 hit, 2 loaded, 3 swapped; slot; page put out or NONE; marks cleared); the last words.
pub data Trace : Type 0 where
  trace : ℕ → ℕ → ℕ → ℕ → List ℕ → List ℕ → List ℕ → Trace

-- A sound directory, and three numbers a change: the place of a word, its new value, and the first rule then broken.
pub data Damage : Type 0 where
  damage : List ℕ → List ℕ → Damage

abbrev pub kind_no : Kind → ℕ
kind_no hit = 1
kind_no loaded = 2
kind_no swapped = 3

-- An answer gives these four numbers.
abbrev pub gives : Said Reply → ℕ → ℕ → ℕ → ℕ → Bool
gives (refused n) k s o c = false
gives (gave r) k s o c = eqb (kind_no r.kind) k && eqb r.slot s && eqb r.out o && eqb r.cleared c

-- Requests in turn, by the meaning of the public call: each answer, and the words after the last.
abbrev pub follows : List ℕ → List ℕ → List ℕ → List ℕ → Bool
follows ws [] [] last = same ws last
follows ws [] (a ∷ more) last = false
follows ws (p ∷ ps) (k ∷ s ∷ o ∷ c ∷ more) last =
    let r = requested ws p in
    gives r.said k s o c && follows r.left ps more last
follows ws (p ∷ ps) (k ∷ s ∷ o ∷ []) last = false
follows ws (p ∷ ps) (k ∷ s ∷ []) last = false
follows ws (p ∷ ps) (k ∷ []) last = false
follows ws (p ∷ ps) [] last = false

abbrev pub agrees : Trace → Bool
agrees (trace policy C first second pages answers last) =
    follows (words (fresh (four policy C first second))) pages answers last

-- Each change breaks the rule that it is said to break first.
abbrev pub breaks : List ℕ → List ℕ → Bool
breaks ws [] = true
breaks ws (i ∷ v ∷ n ∷ cs) = eqb (broken (set ws i v)) n && breaks ws cs
breaks ws (i ∷ v ∷ []) = false
breaks ws (i ∷ []) = false

-- The words are sound, and each change is judged as the second program judges it.
abbrev pub judged : Damage → Bool
judged (damage ws changes) = eqb (broken ws) 0 && breaks ws changes

-- The words are one too few or one too many, whatever else is changed.
abbrev pub misfits : Damage → Bool
misfits (damage ws changes) = eqb (broken ws) 1 && breaks ws changes
