-- From what a call gave to the answer words that C sees.
use Rattle.std.proofs.Common.{◌≡◌, refl, sym, ap, ◌∙◌, ℕ, ◌+◌, List, ◌++◌, length, arith}
use Rattle.std.specs.Prelude.{Result, Ok}
use Rattle.std.proofs.lemmas.List.Edits.{sets}
use lib.Seq.{sets-eq}
use lib.ListN.{drop_of_length-le}
use mathlib.Core.List.{append-nil}
use Rattle.meaning.specs.declared.Refusal.{Refusal}
use Rattle.meaning.specs.Answers.{says}
use Rattle.pagedir.specs.Promises.{number, Told}

-- As many words as there are answer words overwrite all of them.
all_over : (ws before : List ℕ) → length ws ≡ length before → sets before 0 ws ≡ ws
all_over ws before e =
    sets-eq ws before 0 (omega arith) ∙ ap (λ (l : List ℕ). ws ++ l) (drop_of_length-le before {i = 0 + length ws} (omega arith)) ∙ append-nil ws

-- All of the answer words are told.
pub all_told : (said : Result (List ℕ) Refusal) {ws before after : List ℕ} → said ≡ Ok ws → length after ≡ length before → after ≡ ws → Told number (λ ws. ws) (says (λ ws. ws) said) before 0 after
all_told said {ws} {before} {after} i e q = rw i record { number = refl; words = q ∙ sym (all_over ws before (sym (ap length q) ∙ e)) }
