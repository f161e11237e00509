-- Which answer `curve` owes: the refusal's number from the tests, in their order, and the promise from the number.
use Prim.Native.Nat.{ℕ, ◌≤◌, ◌<◌}
use mathlib.Core.Path.{◌≡◌, refl, sym, ap, ◌∙◌}
use mathlib.Core.Bool.{true, false, not}
use mathlib.Core.List.{List, ◌++◌}
use native.Mathlib.Omega.{arith}
use borrow.Author.Tests.{lt-ltb, le-ltb, lt-leb, le-leb}
use lib.ListN.{length, drop}
use lib.Dec.{eqb}
use Rattle.std.specs.Prelude.{if◌then◌else◌}
use Rattle.meaning.specs.Base.{series, pad}
use Rattle.meaning.specs.Neighbours.{NONE, has}
use Rattle.invariants.specs.Ram.{Pages}
use Rattle.meaning.specs.Calls.{plain, refused, gave, Outcome, refuse, over, Buffers, both, curve_refusal, curved, lru_hits, lru_pages}
use Rattle.std.specs.Prelude.{Ok, Err}
use Rattle.meaning.specs.Answers.{refusal_says}
use Rattle.meaning.specs.declared.Refusal.{Refusal}
use Rattle.meaning.specs.declared.Refusal.TheVariants.{CapacityOutside, TooLong, PageIsNone, TooShort}
use Rattle.curves.specs.PageList.{pages_of, hits_of}
use Rattle.curves.specs.Curve.{CurvedAs}
use Rattle.invariants.proofs.Series.{length_series, series_same}
use Rattle.curves.proofs.Counts.{length_pad}
use Rattle.curves.proofs.Projection.{hits_plain, pages_plain}

module _ (m : ℕ) (t r w : List ℕ) where
  -- what the refusal's number makes of the call
  abbrev pub outcome : ℕ → Outcome (Unit {0}) Buffers
  outcome n =
      if not (eqb n 0) then refuse (plain n) (both r w) else
      record { said = gave tt; left = both (over (series (lru_hits t) m 1) r) (over (pad NONE m (lru_pages t m)) w) }

  abbrev number : ℕ
  number = curve_refusal m t (length r) (length w)

  outcome_is : (n : ℕ) → number ≡ n → curved m t r w ≡ outcome n
  unfolding curved
  outcome_is n e = ap outcome e

  -- a refusal changes nothing
  refuses : (q : Refusal) (n : ℕ) → refusal_says q ≡ plain n → eqb n 0 ≡ false → number ≡ n → CurvedAs m t r w (Err q) r w
  unfolding refuse
  refuses q n k z e =
      let o : curved m t r w ≡ refuse (plain n) (both r w) = outcome_is n e ∙ simp z in
      record { answer = ap refused k ∙ ap (λ (x : Outcome (Unit {0}) Buffers). x.said) (sym o); memory = ap (λ (x : Outcome (Unit {0}) Buffers). x.left) (sym o) }

  -- 2: the largest capacity is 0
  pub low : m < 1 → CurvedAs m t r w (Err CapacityOutside) r w
  unfolding curve_refusal
  low a = refuses CapacityOutside 2 refl refl (simp (lt-leb 1 m a))

  -- 2: it is over 512
  pub high : 1 ≤ m → 512 < m → CurvedAs m t r w (Err CapacityOutside) r w
  unfolding curve_refusal
  high a b = refuses CapacityOutside 2 refl refl (simp (le-leb 1 m a, lt-leb m 512 b))

  module _ (a : 1 ≤ m) (b : m ≤ 512) where
    -- 7: the trace is too long
    pub long : 65535 < length t → CurvedAs m t r w (Err TooLong) r w
    unfolding curve_refusal
    long l = refuses TooLong 7 refl refl (simp (le-leb 1 m a, le-leb m 512 b, lt-ltb 65535 (length t) l))

    module _ (l : length t ≤ 65535) where
      -- 6: a page is NONE
      pub unpaged : has t NONE ≡ true → CurvedAs m t r w (Err PageIsNone) r w
      unfolding curve_refusal
      unpaged h = refuses PageIsNone 6 refl refl (simp (le-leb 1 m a, le-leb m 512 b, le-ltb 65535 (length t) l, h))

      module _ (h : has t NONE ≡ false) where
        -- 8: result is too short
        pub narrow : length r < m → CurvedAs m t r w (Err TooShort) r w
        unfolding curve_refusal
        narrow k = refuses TooShort 8 refl refl (simp (le-leb 1 m a, le-leb m 512 b, le-ltb 65535 (length t) l, h, lt-ltb (length r) m k))

        -- 8: work is too short
        pub cramped : m ≤ length r → length w < m → CurvedAs m t r w (Err TooShort) r w
        unfolding curve_refusal
        cramped k q = refuses TooShort 8 refl refl (simp (le-leb 1 m a, le-leb m 512 b, le-ltb 65535 (length t) l, h, le-ltb (length r) m k, lt-ltb (length w) m q))

        -- nothing is refused
        pub outcome_done : m ≤ length r → m ≤ length w → curved m t r w ≡ outcome 0
        unfolding curve_refusal
        outcome_done k q = outcome_is 0 (simp (le-leb 1 m a, le-leb m 512 b, le-ltb 65535 (length t) l, h, le-ltb (length r) m k, le-ltb (length w) m q))

        -- what `curve_into` leaves in the fronts of result and work is what is owed
        pub done : m ≤ length r → m ≤ length w → Pages t → (r₁ w₁ : List ℕ) → r₁ ≡ series (hits_of t) m 1 → w₁ ≡ pad NONE m (pages_of m t)
            → CurvedAs m t r w (Ok tt) (r₁ ++ drop m r) (w₁ ++ drop m w)
        unfolding over
        done k q ps r₁ w₁ x y =
            let o = outcome_done k q in
            let x' : r₁ ≡ series (lru_hits t) m 1 = x ∙ series_same (hits_of t) (lru_hits t) m 1 (λ c i j. sym (hits_plain t c i (omega arith) ps)) in
            let y' : w₁ ≡ pad NONE m (lru_pages t m) = y ∙ ap (pad NONE m) (sym (pages_plain t m a b ps)) in
            record {
              answer = ap (λ (z : Outcome (Unit {0}) Buffers). z.said) (sym o);
              memory = (λ j. both (x' j ++ drop (sym (length_series (lru_hits t) m 1) j) r) (y' j ++ drop (sym (length_pad m (lru_pages t m)) j) w)) ∙ ap (λ (z : Outcome (Unit {0}) Buffers). z.left) (sym o);
            }

-- Each refusal, by the tests that led to it.
pub ruleset owed = (low, high, long, unpaged, narrow, cramped)
