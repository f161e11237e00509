-- What the judgement of settings says of their refusal.
use Rattle.std.proofs.Common.{◌≡◌, ◌≤◌, refl, sym, ◌∙◌, ℕ, true, false, Bool}
use Rattle.std.specs.Prelude.{Result, Ok, Err, IsOk, eqb, leb, ◌&&◌, not, if◌then◌else◌}
use Rattle.std.specs.Result.{is_err}
use borrow.Author.Tests.{eqb-true, eq-eqb}
use Rattle.meaning.specs.Layout.{Settings, entries_of}
use Rattle.meaning.specs.Calls.{Refusal, plain, refused, gave, refusal_of}
use Rattle.meaning.specs.Answers.{says}
use Rattle.meaning.specs.declared.Refusal.{Refusal as Refusing}
use Rattle.meaning.proofs.Injective.{not_given}
use Rattle.invariants.proofs.Accepted.{few_entries}
use Rattle.settings.specs.declared.Policy.{Policy}
use Rattle.settings.specs.Policies.{number_of, IsOfNumber, judged}

-- what is given or refused by a test
given : (t : Bool) {A : Type 0} {a : A} (b : A) (r : Refusal) → gave a ≡ (if not t then refused r else gave b) → t ≡ true
given true b r e = refl
given false b r e = absurd (not_given (sym e))

denied : (t : Bool) {A : Type 0} (b : A) {r q : Refusal} → refused q ≡ (if not t then refused r else gave b) → (t ≡ false) × (q ≡ r)
denied true b e = absurd (not_given e)
denied false b e = (refl, cc)

module _ (s : Settings) where
  -- Settings whose policy is given are not refused.
  pub judged_gave : {p : ℕ} → gave p ≡ judged s → refusal_of s ≡ 0
  unfolding judged
  judged_gave e = eqb-true _ 0 (given (eqb (refusal_of s) 0) _ _ e)

  -- A refusal of settings is theirs.
  pub judged_refused : {r : Refusal} → refused r ≡ judged s → (refusal_of s ≡ 0 → ⊥) × (r ≡ plain (refusal_of s))
  unfolding judged
  judged_refused e =
      let d = denied (eqb (refusal_of s) 0) _ e in
      (λ z. let y : true ≡ false = sym (eq-eqb _ 0 z) ∙ d.0 in cc, d.1)

  -- Settings that are judged with no error are not refused, and make few entries.
  pub judged_well : (r : Result Policy Refusing) → says number_of r ≡ judged s → is_err r ≡ false → refusal_of s ≡ 0
  judged_well (Ok p) e z = judged_gave e
  judged_well (Err q) e z = cc

  -- Accepted settings make few entries.
  pub judged_few : refusal_of s ≡ 0 → entries_of s.policy s.C s.second ≤ 1024
  unfolding refusal_of
  judged_few = few_entries s.policy s.C s.first s.second

-- A number from 1 to 5 names a policy.
pub names_one : (n : ℕ) (r : Result Policy Refusing) → IsOfNumber n r → (leb 1 n && leb n 5) ≡ true → IsOk r
names_one n (Ok p) h k = refl
names_one n (Err e) h k = let y : true ≡ false = sym k ∙ h.1 in cc
