-- What a method of a range of numbers said, over the numbers below n.
use mathlib.Core.Path.{◌≡◌, refl, ap, ap₂, ◌∙◌}
use mathlib.Core.Bool.{Bool, true, false, ◌&&◌}
use mathlib.Core.List.{List, [], ◌∷◌, ◌++◌}
use Prim.Native.Nat.{ℕ, zero, suc, ◌+◌, ◌-◌}
use native.Mathlib.Numerals.{unary_clauses}
use native.Mathlib.Omega.{arith}
use denote.Param.Members.{Mut}
use Rattle.std.specs.declared.option.Option.{Option}
use Rattle.std.specs.declared.ops.Range.{Range}
use Rattle.std.specs.Fn.{Called}
use Rattle.std.specs.Iterator.{YieldsThen}
use Rattle.std.specs.List.{FoldsTo, list_all, range_with_len}
use Rattle.std.specs.Option.{MatchOption}
use Rattle.std.proofs.Math.Bool.{and-true}
use Rattle.std.proofs.iter.Yields.{nat_range_steps}
use Rattle.std.proofs.lemmas.List.Folds.{list_all-append}
use Rattle.std.proofs.lemmas.Iterator.{YieldsList-from_range}
use Rattle.std.proofs.lemmas.Iterator.Search.{all_from_yields_List}
use Rattle.meaning.specs.Base.{every}

-- one number more
range_more : (a n j : ℕ) → a + n ≡ j → range_with_len a (suc n) ≡ range_with_len a n ++ (j ∷ [])
range_more a zero j e = let h : a ≡ j = omega arith in ap (λ (x : ℕ). x ∷ []) h
range_more a (suc n) j e = ap (λ (xs : List ℕ). a ∷ xs) (range_more (a + 1) n j (omega arith))

-- the test passes at n numbers from a on
every_all : (a n : ℕ) (f : ℕ → Bool) → list_all f (range_with_len a n) ≡ every n (λ i. f (i + a))
every_all a zero f = refl
every_all a (suc n) f =
    let e : a + n ≡ n + a = omega arith in
    ap (list_all f) (range_more a n (n + a) e) ∙ list_all-append f (range_with_len a n) ((n + a) ∷ [])
    ∙ ap₂ ◌&&◌ (every_all a n f) (and-true (f (n + a)))

-- from 0 on
every_zero : (n : ℕ) (f : ℕ → Bool) → every n (λ i. f (i + 0)) ≡ every n f
every_zero n f = simp unary_clauses

-- What `all` of a range ran: the closure f at its numbers in turn, up to the first at which it said no.
abbrev pub Ran : (F : Type 0) → Mut F (ℕ × Unit {0}) Bool → Range ℕ → Range ℕ → F → Bool → Type 0
Ran F g s u f r =
    (xs : List ℕ) × (o : Option ℕ) × (j : F) × YieldsThen nat_range_steps s xs o u
    × FoldsTo (λ p x q. Called g p (x, tt) true q) f xs j
    × MatchOption o (r ≡ true) (λ x. (r ≡ false) × ((h : F) × Called g j (x, tt) false h))

module _ (test : ℕ → Bool) {F : Type 0} {g : Mut F (ℕ × Unit {0}) Bool} {s u : Range ℕ} {f : F} {r : Bool} (ran : Ran F g s u f r) (calls : (x : ℕ) (b : Bool) (q : F) → Called g f (x, tt) b q → (q ≡ f) × (b ≡ test x)) where
  -- `all` of the n numbers from a on, where the closure gives the test: whether it passes at each of them.
  pub every_from : (a b n : ℕ) → s ≡ record { start = a; end = b } → b - a ≡ n → r ≡ every n (λ i. test (i + a))
  every_from a b n e k = all_from_yields_List test u f r ran (YieldsList-from_range a b n e k) calls ∙ every_all a n test

  -- `all` of the numbers below n.
  pub every_below : (n : ℕ) → s ≡ record { start = 0; end = n } → r ≡ every n test
  every_below n e = let k : n - 0 ≡ n = omega arith in every_from 0 n n e k ∙ every_zero n test
