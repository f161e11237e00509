-- Sound in, sound out: a whole directory is one of its policy, a request leaves a whole one, and a fresh one is whole.
use Prim.Native.Nat.{ℕ, ◌+◌, ◌*◌, ◌≤◌, ◌<◌}
use mathlib.Core.Path.{◌≡◌, refl, sym, ap, ◌∙◌, subst}
use mathlib.Core.Bool.{Bool, true, false, ◌&&◌, ◌||◌}
use native.Mathlib.Omega.{arith}
use lib.Dec.{eqb, leb, ltb}
use borrow.Author.Tests.{eq-eqb, ne_eqb, le-leb, lt-ltb, leb-true, ltb-true, eqb-true}
use Rattle.meaning.specs.Neighbours.{NONE, has}
use Rattle.meaning.specs.Layout.{is_held, is_clock, lists_of, is_list, is_split, entries_of, first_fits, mark_limit, unit}
use Rattle.meaning.specs.Mem.{Mem, size, capacity_of, first_of, policy_of, second_of, word6_of}
use Rattle.meaning.specs.Clock.{clock}
use Rattle.meaning.specs.Policies.{request}
use Rattle.meaning.specs.Rules.{word6_fits, arc_sizes, sizes_right}
use Rattle.invariants.specs.Proper.{Seated, Proper}
use Rattle.invariants.specs.Whole.{members, Unordered, Whole}
use Rattle.invariants.specs.Assumed.{Lru, Clock, Segmented, TwoQ, Arc}
use Rattle.invariants.proofs.Lists.{split, no_true}
use Rattle.invariants.proofs.Accepted.{Accepted, accepted, fifth, some_capacity}
use Rattle.theorems.specs.Change.{Header, Calm, Quiet}
use Rattle.theorems.specs.Served.{Served}
use Rattle.theorems.proofs.Counts.{size_members, held_members, list_cases, unlisted, held_most, held_sizes}
use Rattle.theorems.proofs.Serving.{served_as}
use Rattle.theorems.proofs.Going.{held1, held2}
use Rattle.theorems.proofs.Lru.{lru_served}
use Rattle.theorems.proofs.Segmented.{segmented_served}
use Rattle.theorems.proofs.TwoQ.{two_q_served}
use Rattle.theorems.proofs.Arc.{arc_served}
use Rattle.theorems.proofs.Clock.{clock_served}

both : (a b : Bool) → (a && b) ≡ true → (a ≡ true) × (b ≡ true)
both true b h = (refl, h)
both false b h = no_true h

-- ── A whole directory, by parts ──

-- a whole directory has lists, but for CLOCK
whole_proper : (m : Mem) → Whole m → is_clock (policy_of m) ≡ false → Proper m
whole_proper m W c = record { seated = W.stocked.seated; ordered = record { listed = W.listed c; idle = W.stocked.idle } }

-- what a request left is whole, if the header but for word 6 is that of a whole directory
whole_after : (m n : Mem) → Whole m → Header m n → word6_fits (policy_of m) (capacity_of m) (word6_of n) ≡ true → Seated n → ((i : ℕ) → n.lists i ≡ 0 → n.pages i ≡ NONE)
    → ((i : ℕ) → (n.lists i ≡ 0 → ⊥) → is_list (policy_of m) (n.lists i) ≡ true) → ((i : ℕ) → n.marks i ≤ mark_limit (policy_of m))
    → (is_clock (policy_of m) ≡ false → (i : ℕ) → (n.lists i ≡ 0 → ⊥) → has (n.order (n.lists i)) i ≡ true) → (is_clock (policy_of m) ≡ true → Unordered n)
    → sizes_right (policy_of m) (capacity_of m) (first_of m) (second_of m) (members n 1) (members n 2) (members n 3) (members n 4) ≡ true → Whole n
whole_after m n W H six S idle uses marks listed clock sizes =
    let t0 = H 0 (omega arith) in let t1 = H 1 (omega arith) in let t2 = H 2 (omega arith) in let t3 = H 3 (omega arith) in let t4 = H 4 (omega arith) in let t5 = H 5 (omega arith) in
    record {
      headed = record {
        settings = rw (t0, t1, t4, t5) W.headed.settings;
        entries = rw (t0, t1, t2, t5) W.headed.entries;
        bits = rw (t2, t3) W.headed.bits;
        word6 = rw (t0, t1) six;
      };
      stocked = record { seated = S; idle = idle; uses = rw t0 uses; marks = rw t0 marks };
      listed = rw t0 listed;
      clock = rw t0 clock;
      sizes = rw (t0, t1, t4, t5) sizes;
    }

-- the same, of a policy with lists, in which no mark rose
lists_after : (m n : Mem) → Whole m → Header m n → is_clock (policy_of m) ≡ false → mark_limit (policy_of m) ≡ 0 → word6_fits (policy_of m) (capacity_of m) (word6_of n) ≡ true → Proper n → Calm m n
    → ((i : ℕ) → (n.lists i ≡ 0 → ⊥) → is_list (policy_of m) (n.lists i) ≡ true)
    → sizes_right (policy_of m) (capacity_of m) (first_of m) (second_of m) (size n 1) (size n 2) (size n 3) (size n 4) ≡ true → Whole n
lists_after m n W H c none six P calm uses sizes =
    let at : (j : ℕ) → (j ≡ 0 → ⊥) → size n j ≡ members n j = size_members n P.seated.indexed P.ordered in
    whole_after m n W H six P.seated P.ordered.idle uses (λ i. omega (arith, calm i, W.stocked.marks i, none)) (λ _. P.ordered.listed) (λ y. no_true (sym c ∙ y))
    (rw (at 1 (omega arith), at 2 (omega arith), at 3 (omega arith), at 4 (omega arith)) at sizes)

-- a list of held pages is one of segmented LRU's
held_list : (l : ℕ) → is_held l ≡ true → is_list 3 l ≡ true
unfolding is_held is_list lists_of
held_list l h = split l 1 (λ z t. ap (is_list 3) z) (λ z t. split l 2 (λ y u. ap (is_list 3) y) (λ y u. no_true (sym (simp (t, u)) ∙ h)))

-- ── What a whole directory of each policy is ──
module _ (m : Mem) (W : Whole m) where
  settings : Accepted (policy_of m) (capacity_of m) (first_of m) (second_of m)
  settings = accepted (policy_of m) (capacity_of m) (first_of m) (second_of m) W.headed.settings

  some : 1 ≤ capacity_of m
  some = omega (arith, some_capacity (policy_of m), settings.least)

  in_list : (i : ℕ) → (m.lists i ≡ 0 → ⊥) → (1 ≤ m.lists i) × (m.lists i ≤ lists_of (policy_of m))
  unfolding is_list
  in_list i u = let k = both (leb 1 (m.lists i)) (leb (m.lists i) (lists_of (policy_of m))) (W.stocked.uses i u) in
      (leb-true 1 (m.lists i) k.0, leb-true (m.lists i) (lists_of (policy_of m)) k.1)

  sizes : Proper m → sizes_right (policy_of m) (capacity_of m) (first_of m) (second_of m) (size m 1) (size m 2) (size m 3) (size m 4) ≡ true
  sizes P =
      let at : (j : ℕ) → (j ≡ 0 → ⊥) → size m j ≡ members m j = size_members m P.seated.indexed P.ordered in
      rw (at 1 (omega arith), at 2 (omega arith), at 3 (omega arith), at 4 (omega arith)) W.sizes

  -- a whole directory of policy 1 is an LRU directory
  pub lru_whole : policy_of m ≡ 1 → Lru m
  unfolding lists_of entries_of
  lru_whole z = record {
    proper = whole_proper m W (ap is_clock z);
    one = λ i u. omega (arith, in_list i u, ap lists_of z);
    all = W.headed.entries ∙ ap (λ (q : ℕ). entries_of q (capacity_of m) (second_of m)) z;
    some = some;
  }

  -- of policy 2, a CLOCK directory
  pub clock_whole : policy_of m ≡ 2 → Clock m
  unfolding lists_of entries_of word6_fits mark_limit
  clock_whole z = record {
    seated = W.stocked.seated;
    idle = W.stocked.idle;
    unordered = W.clock (ap is_clock z);
    one = λ i u. omega (arith, in_list i u, ap lists_of z);
    all = W.headed.entries ∙ ap (λ (q : ℕ). entries_of q (capacity_of m) (second_of m)) z;
    some = some;
    hand = ltb-true (word6_of m) (capacity_of m) (subst (λ (q : ℕ). word6_fits q (capacity_of m) (word6_of m) ≡ true) z W.headed.word6);
    marks = λ i. omega (arith, W.stocked.marks i, ap mark_limit z);
  }

  -- of policy 3, a segmented directory
  pub segmented_whole : policy_of m ≡ 3 → Segmented m
  unfolding lists_of entries_of first_fits is_split sizes_right
  segmented_whole z =
      let P = whole_proper m W (ap is_clock z) in
      let f = both (leb 1 (first_of m)) (ltb (first_of m) (capacity_of m)) (subst (λ (q : ℕ). first_fits q (capacity_of m) (first_of m) ≡ true) z settings.first) in
      let k = both (leb (size m 1 + size m 2) (capacity_of m)) (leb (size m 2) (first_of m)) (subst (λ (q : ℕ). sizes_right q (capacity_of m) (first_of m) (second_of m) (size m 1) (size m 2) (size m 3) (size m 4) ≡ true) z (sizes P)) in
      record {
        proper = P;
        two = λ i u. let l = in_list i u in split (m.lists i) 1 (λ y t. ap is_held y ∙ held1) (λ y t. let w : m.lists i ≡ 2 = omega (arith, l, ap lists_of z, y) in ap is_held w ∙ held2);
        all = W.headed.entries ∙ ap (λ (q : ℕ). entries_of q (capacity_of m) (second_of m)) z;
        first = (leb-true 1 (first_of m) f.0, ltb-true (first_of m) (capacity_of m) f.1);
        protected = leb-true (size m 2) (first_of m) k.1;
      }

  -- of policy 4, a 2Q directory
  pub two_q_whole : policy_of m ≡ 4 → TwoQ m
  unfolding lists_of entries_of first_fits is_split sizes_right
  two_q_whole z =
      let P = whole_proper m W (ap is_clock z) in
      let f = both (leb 1 (first_of m)) (ltb (first_of m) (capacity_of m)) (subst (λ (q : ℕ). first_fits q (capacity_of m) (first_of m) ≡ true) z settings.first) in
      let k = both (leb (size m 1 + size m 2) (capacity_of m)) (leb (size m 3) (second_of m)) (subst (λ (q : ℕ). sizes_right q (capacity_of m) (first_of m) (second_of m) (size m 1) (size m 2) (size m 3) (size m 4) ≡ true) z (sizes P)) in
      record {
        proper = P;
        all = W.headed.entries ∙ ap (λ (q : ℕ). entries_of q (capacity_of m) (second_of m)) z;
        kin = ltb-true (first_of m) (capacity_of m) f.1;
        ghosts = leb-true (size m 3) (second_of m) k.1;
        held = leb-true (size m 1 + size m 2) (capacity_of m) k.0;
        unused = unlisted m P.seated.indexed P.ordered 4 (omega arith) (λ i y. omega (arith, y, in_list i (λ x. omega (arith, x, y)), ap lists_of z));
      }

  -- of policy 5, an ARC directory
  pub arc_whole : policy_of m ≡ 5 → Arc m
  unfolding entries_of word6_fits sizes_right arc_sizes
  arc_whole z =
      let P = whole_proper m W (ap is_clock z) in
      let C = capacity_of m in let n1 = size m 1 in let n2 = size m 2 in let n3 = size m 3 in let n4 = size m 4 in
      let k = both (leb (n1 + n2) C) (arc_sizes C n1 n2 n3 n4) (subst (λ (q : ℕ). sizes_right q C (first_of m) (second_of m) n1 n2 n3 n4 ≡ true) z (sizes P)) in
      let a = both (leb (n1 + n3) C && leb (n1 + n2 + n3 + n4) (2 * C)) (eqb (n3 + n4) 0 || eqb (n1 + n2) C) k.1 in
      let b = both (leb (n1 + n3) C) (leb (n1 + n2 + n3 + n4) (2 * C)) a.0 in
      record {
        proper = P;
        all = W.headed.entries ∙ ap (λ (q : ℕ). entries_of q (capacity_of m) (second_of m)) z;
        some = some;
        target = leb-true (word6_of m) (unit * C) (subst (λ (q : ℕ). word6_fits q C (word6_of m) ≡ true) z W.headed.word6);
        left = leb-true (n1 + n3) C b.0;
        most = leb-true (n1 + n2 + n3 + n4) (2 * C) b.1;
        held = leb-true (n1 + n2) C k.0;
        filled = λ h. eqb-true (n1 + n2) C (simp (ne_eqb (n3 + n4) 0 (λ y. omega (arith, h, y))) at a.1);
      }

  -- ── And what a request leaves ──

  quiet_header : (n : Mem) → Quiet m n → Header m n
  quiet_header n q t _ = ap (λ (f : ℕ → ℕ). f t) q.tops

  lru_after : policy_of m ≡ 1 → (n : Mem) → Lru n → Quiet m n → Whole n
  unfolding is_list lists_of mark_limit sizes_right
  lru_after z n L q =
      let P = L.proper in let t1 = quiet_header n q 1 (omega arith) in
      lists_after m n W (quiet_header n q) (ap is_clock z) (ap mark_limit z) (rw q.tops W.headed.word6) P q.marks
      (λ i u. rw z (ap (is_list 1) (L.one i u)))
      (rw z (simp (le-leb (size n 1 + size n 2) (capacity_of m) (omega (arith, held_most n, held_sizes n P.seated.indexed P.ordered, L.all, t1)))))

  clock_after : policy_of m ≡ 2 → (n : Mem) → Clock n → Header m n → Whole n
  unfolding is_list lists_of mark_limit word6_fits sizes_right
  clock_after z n K H =
      let t1 = H 1 (omega arith) in
      whole_after m n W H (rw z (lt-ltb (word6_of n) (capacity_of m) (omega (arith, K.hand, t1)))) K.seated K.idle
      (λ i u. rw z (ap (is_list 2) (K.one i u))) (rw z K.marks) (λ y. no_true (sym y ∙ ap is_clock z)) (λ _. K.unordered)
      (rw z (simp (le-leb (members n 1 + members n 2) (capacity_of m) (omega (arith, held_most n, held_members n, K.all, t1)))))

  segmented_after : policy_of m ≡ 3 → (n : Mem) → Segmented n → Quiet m n → Whole n
  unfolding is_list lists_of mark_limit sizes_right
  segmented_after z n L q =
      let P = L.proper in let t1 = quiet_header n q 1 (omega arith) in let t4 = quiet_header n q 4 (omega arith) in
      lists_after m n W (quiet_header n q) (ap is_clock z) (ap mark_limit z) (rw q.tops W.headed.word6) P q.marks
      (λ i u. rw z (held_list (n.lists i) (L.two i u)))
      (rw z (simp (le-leb (size n 1 + size n 2) (capacity_of m) (omega (arith, held_most n, held_sizes n P.seated.indexed P.ordered, L.all, t1)), le-leb (size n 2) (first_of m) (omega (arith, L.protected, t4)))))

  two_q_after : policy_of m ≡ 4 → (n : Mem) → TwoQ n → Quiet m n → Whole n
  unfolding is_list lists_of mark_limit sizes_right
  two_q_after z n L q =
      let P = L.proper in let t1 = quiet_header n q 1 (omega arith) in let t5 = quiet_header n q 5 (omega arith) in
      lists_after m n W (quiet_header n q) (ap is_clock z) (ap mark_limit z) (rw q.tops W.headed.word6) P q.marks
      (λ i u. rw z (list_cases n P.seated.indexed P.ordered i u (λ y _. ap (is_list 4) y) (λ y _. ap (is_list 4) y) (λ y _. ap (is_list 4) y) (λ y h. absurd (omega (arith, h, L.unused)))))
      (rw z (simp (le-leb (size n 1 + size n 2) (capacity_of m) (omega (arith, L.held, t1)), le-leb (size n 3) (second_of m) (omega (arith, L.ghosts, t5)))))

  arc_after : policy_of m ≡ 5 → (n : Mem) → Arc n → Header m n → Calm m n → Whole n
  unfolding is_list lists_of mark_limit word6_fits sizes_right arc_sizes
  arc_after z n L H calm =
      let P = L.proper in let C = capacity_of m in let t1 = H 1 (omega arith) in
      let n1 = size n 1 in let n2 = size n 2 in let n3 = size n 3 in let n4 = size n 4 in
      lists_after m n W H (ap is_clock z) (ap mark_limit z) (rw z (le-leb (word6_of n) (unit * C) (omega (arith, L.target, t1)))) P calm
      (λ i u. rw z (list_cases n P.seated.indexed P.ordered i u (λ y _. ap (is_list 5) y) (λ y _. ap (is_list 5) y) (λ y _. ap (is_list 5) y) (λ y _. ap (is_list 5) y)))
      (rw z (simp (le-leb (n1 + n2) C (omega (arith, L.held, t1)), le-leb (n1 + n3) C (omega (arith, L.left, t1)), le-leb (n1 + n2 + n3 + n4) (2 * C) (omega (arith, L.most, t1)))
      (split (n3 + n4) 0 (λ y t. simp t) (λ y t. simp (t, eq-eqb (n1 + n2) C (L.filled (omega (arith, y)) ∙ t1))))))

  -- a request on a whole directory is served, and leaves a whole one with the same header but for word 6
  pub request_served : (p : ℕ) → p < NONE → Served (λ n. Whole n × Header m n) m p (request m p)
  unfolding request
  request_served p hp =
      split (policy_of m) 1 (λ z t. simp t (served_as (λ n k. (lru_after z n k.0 k.1, quiet_header n k.1)) (lru_served m (lru_whole z) p hp))) (λ z1 t1.
      split (policy_of m) 2 (λ z t. simp (t1, t) (served_as (λ n k. (clock_after z n k.0 k.1, k.1)) (clock_served m (clock_whole z) p hp))) (λ z2 t2.
      split (policy_of m) 3 (λ z t. simp (t1, t2, t) (served_as (λ n k. (segmented_after z n k.0 k.1, quiet_header n k.1)) (segmented_served m (segmented_whole z) p hp))) (λ z3 t3.
      split (policy_of m) 4 (λ z t. simp (t1, t2, t3, t) (served_as (λ n k. (two_q_after z n k.0 k.1, quiet_header n k.1)) (two_q_served m (two_q_whole z) p hp))) (λ z4 t4.
      let z = fifth (policy_of m) settings.policy z1 z2 z3 z4 in
      simp (t1, t2, t3, t4) (served_as (λ n k. (arc_after z n k.0 k.1.0 k.1.1, k.1.0)) (arc_served m (arc_whole z) p hp))))))

-- sound in, sound out
pub request_whole : (m : Mem) (p : ℕ) → Whole m → p < NONE → Whole (request m p).mem
request_whole m p W hp = (request_served m W p hp).keeps.0
