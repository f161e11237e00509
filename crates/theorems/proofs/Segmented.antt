-- Segmented LRU keeps its directory, and answers with the right slot.
use Prim.Native.Nat.{ℕ, ◌≤◌, ◌<◌}
use mathlib.Core.Path.{◌≡◌, sym, ap, ◌∙◌}
use mathlib.Core.Bool.{false}
use native.Mathlib.Omega.{arith}
use lib.Dec.{ltb}
use borrow.Author.Tests.{eq-eqb, ne_eqb, ltb-true, ltb-false}
use Rattle.meaning.specs.Base.{one_if}
use Rattle.meaning.specs.Neighbours.{NONE}
use Rattle.meaning.specs.Layout.{is_held}
use Rattle.meaning.specs.Mem.{Mem, size, back, list_on, to_front, first_of}
use Rattle.meaning.specs.Segmented.{spill, segmented}
use Rattle.invariants.specs.Proper.{Proper}
use Rattle.invariants.specs.Ram.{Steps}
use Rattle.invariants.specs.Assumed.{Segmented}
use Rattle.invariants.proofs.Lists.{no_true}
use Rattle.invariants.proofs.Numbers.{by_test}
use Rattle.theorems.specs.Change.{Still, Quiet}
use Rattle.theorems.specs.Served.{Served}
use Rattle.theorems.specs.Goes.{Goes}
use Rattle.theorems.proofs.Rooms.{entry_cases}
use Rattle.theorems.proofs.Counts.{unlisted, list_cases, back_list}
use Rattle.theorems.proofs.Serving.{quiet_then, still_then, served_hit, steps_of}
use Rattle.theorems.proofs.Going.{held1, held2, not3, not4, front_goes}
use Rattle.theorems.proofs.Lru.{lru_enters}

module _ (m : Mem) (L : Segmented m) where
  ghostless : (x : ℕ) → (x ≡ 0 → ⊥) → is_held x ≡ false → size m x ≡ 0
  ghostless x nz g = unlisted m L.proper.seated.indexed L.proper.ordered x nz (λ i z. no_true (sym g ∙ ap is_held (sym z) ∙ L.two i (λ y. nz (sym z ∙ y))))

  -- list 3 is empty
  pub three : size m 3 ≡ 0
  three = ghostless 3 (omega arith) not3

  -- list 4 is empty
  pub four : size m 4 ≡ 0
  four = ghostless 4 (omega arith) not4

  segmented_of : (x : Mem) → Proper x → Quiet m x → size x 2 ≤ first_of m → size x 3 ≡ 0 → size x 4 ≡ 0 → Segmented x × Quiet m x
  segmented_of x N q a b c = (
    record {
      proper = N;
      two = λ i u. list_cases x N.seated.indexed N.ordered i u (λ z _. ap is_held z ∙ held1) (λ z _. ap is_held z ∙ held2) (λ _ h. absurd (omega arith)) (λ _ h. absurd (omega arith));
      all = rw q.tops L.all;
      first = rw q.tops L.first;
      protected = omega (arith, a, ap (λ (f : ℕ → ℕ). f 4) q.tops);
    },
    q,
  )

  -- Q was filled by one, and its back goes to P if it is over
  spilled : (n : Mem) → Goes 1 2 m n → {Q : Type 0} → ((x : Mem) → spill n ≡ x → Proper x → Quiet m x → Still m x → size x 2 ≤ first_of m → size x 3 ≡ 0 → size x 4 ≡ 0 → Q) → Q
  unfolding spill one_if
  spilled n T k =
      let F = T.sizes in let t4 = ap (λ (g : ℕ → ℕ). g 4) T.quiet.tops in
      by_test (ltb (first_of n) (size n 2))
      (λ t. let U = front_goes n T.proper (back n 2) 2 1 (back_list n T.proper.seated.indexed T.proper.ordered 2 (omega arith) (omega (arith, ltb-true (first_of n) (size n 2) t))) held2 (omega arith) held1 in
      let G = U.sizes in
      k (to_front (back n 2) 1 n) (simp t) U.proper (quiet_then T.quiet U.quiet) (still_then T.still U.still)
      (omega (arith, F, G, L.protected)) (omega (arith, F, G, three)) (omega (arith, F, G, four)))
      (λ t. k n (simp t) T.proper T.quiet T.still (omega (arith, t4, ltb-false (first_of n) (size n 2) t)) (omega (arith, F, three)) (omega (arith, F, four)))

  -- a request is served, and leaves the header and the marks
  pub segmented_served : (p : ℕ) → p < NONE → Served (λ n. Segmented n × Quiet m n) m p (segmented m p)
  unfolding segmented one_if
  segmented_served p hp =
      entry_cases m L.proper.seated.indexed p hp
      (λ e z w on. list_cases m L.proper.seated.indexed L.proper.ordered e (λ y. omega (arith, z, L.proper.ordered.idle e y))
      (λ l _. simp (w, ne_eqb (list_on m p) 2 (λ y. omega (arith, on, l, y)), eq-eqb (list_on m p) 1 (on ∙ l))
      (spilled (to_front e 2 m) (front_goes m L.proper e 1 2 l held1 (omega arith) held2)
      (λ x is N q S a b c. rw is (served_hit (λ n. Segmented n × Quiet m n) m p e x z (ap is_held l ∙ held1) S (segmented_of x N q a b c)))))
      (λ l _. let T = front_goes m L.proper e 2 2 l held2 (omega arith) held2 in let F = T.sizes in
      simp (w, eq-eqb (list_on m p) 2 (on ∙ l)) (served_hit (λ n. Segmented n × Quiet m n) m p e (to_front e 2 m) z (ap is_held l ∙ held2) T.still
      (segmented_of (to_front e 2 m) T.proper T.quiet (omega (arith, F, L.protected)) (omega (arith, F, three)) (omega (arith, F, four)))))
      (λ _ h. absurd (omega (arith, three)))
      (λ _ h. absurd (omega (arith, four))))
      (λ absent on. simp (ne_eqb (list_on m p) 1 (λ y. omega (arith, on, y)), ne_eqb (list_on m p) 2 (λ y. omega (arith, on, y)))
      (lru_enters m L.proper L.all (three, four) (omega (arith, L.protected, L.first)) (λ n. Segmented n × Quiet m n) p hp absent
      (λ x N q a b c. segmented_of x N q (omega (arith, a, L.protected)) b c)))

-- segmented LRU is a policy that never names the wrong slot
pub segmented_steps : Steps Segmented segmented
segmented_steps = steps_of (λ m L. L.proper.seated) segmented_served
