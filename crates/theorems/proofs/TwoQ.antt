-- 2Q keeps its directory, and answers with the right slot.
use Prim.Native.Nat.{ℕ, ◌+◌, ◌≤◌, ◌<◌}
use mathlib.Core.Path.{◌≡◌, ap, ◌∙◌}
use mathlib.Core.Bool.{true, false}
use native.Mathlib.Omega.{arith}
use lib.Dec.{ltb}
use borrow.Author.Tests.{eq-eqb, ne_eqb, leb-true, leb-false, ltb-true, ltb-false}
use Rattle.meaning.specs.Base.{one_if}
use Rattle.meaning.specs.Neighbours.{NONE}
use Rattle.meaning.specs.Layout.{is_held}
use Rattle.meaning.specs.Mem.{Mem, held, full, size, back, list_on, to_front, capacity_of, first_of, second_of}
use Rattle.meaning.specs.Room.{Room, as_it_is, put_out, put_out_to, enters, returns}
use Rattle.meaning.specs.TwoQ.{trimmed, trimmed_room, make_room, two_q}
use Rattle.invariants.specs.Proper.{Proper}
use Rattle.invariants.specs.Ram.{Steps}
use Rattle.invariants.specs.Assumed.{TwoQ}
use Rattle.invariants.proofs.Numbers.{by_test}
use Rattle.theorems.specs.Change.{Quiet}
use Rattle.theorems.specs.Served.{Served}
use Rattle.theorems.specs.Sizes.{Resized}
use Rattle.theorems.specs.Goes.{Out, Made}
use Rattle.theorems.specs.Short.{short_room}
use Rattle.theorems.proofs.Operations.{free_held, clear_moved, clear_bare, clear_quiet, clear_ordered}
use Rattle.theorems.proofs.Rooms.{entry_cases, removed, trim_vacant}
use Rattle.theorems.proofs.Counts.{held_sizes, list_cases, back_list, resized_after}
use Rattle.theorems.proofs.Serving.{quiet_self, quiet_then, still_self, still_ghost, makes_before, served_hit, steps_of}
use Rattle.theorems.proofs.Going.{held1, held2, not3, front_goes, out_none, out_to_lem, out_off, made_of, entering, returning}
use Rattle.theorems.proofs.Short.{short_returns}

-- the sizes with room for a page
pub record Less (C K : ℕ) (n : Mem) : Type 0 where
  pub held : size n 1 + size n 2 < C
  pub ghosts : size n 3 ≤ K
  pub unused : size n 4 ≡ 0

module _ (m : Mem) (T : TwoQ m) where
  two : held m ≡ size m 1 + size m 2
  two = held_sizes m T.proper.seated.indexed T.proper.ordered

  fills : full m ≡ true → size m 1 + size m 2 ≡ capacity_of m
  unfolding full
  fills t = omega (arith, leb-true (capacity_of m) (held m) t, two, T.held)

  -- in a full directory Am has a back where A1in is not over Kin
  pub am_back : full m ≡ true → size m 1 ≤ first_of m → 1 ≤ size m 2
  am_back t h = omega (arith, fills t, T.kin)

  -- the three cases of room
  pub room_cases : {Q : Type 0} → (size m 1 + size m 2 < capacity_of m → full m ≡ false → Out 0 0 m (as_it_is m) → Q)
      → (size m 1 + size m 2 ≡ capacity_of m → full m ≡ true → ltb (first_of m) (size m 1) ≡ true → Out 1 3 m (put_out_to m (back m 1) 3) → Q)
      → (size m 1 + size m 2 ≡ capacity_of m → full m ≡ true → ltb (first_of m) (size m 1) ≡ false → Out 2 0 m (put_out m (back m 2)) → Q) → Q
  room_cases a b c =
      let I = T.proper.seated.indexed in let O = T.proper.ordered in
      by_test (full m)
      (λ t. by_test (ltb (first_of m) (size m 1))
      (λ s. b (fills t) t s (out_to_lem m T.proper (back m 1) 1 3 (back_list m I O 1 (omega arith) (omega (arith, ltb-true (first_of m) (size m 1) s))) held1 (omega arith) not3))
      (λ s. c (fills t) t s (out_off m T.proper (back m 2) 2 (back_list m I O 2 (omega arith) (am_back t (ltb-false (first_of m) (size m 1) s))) held2)))
      (λ t. let f : size m 1 + size m 2 < capacity_of m = omega (arith, leb-false (capacity_of m) (held m) (unfold full in t), two) in
      a f t (out_none m T.proper (omega (arith, f, two))))

  two_q_of : (x : Mem) → Proper x → Quiet m x → size x 3 ≤ second_of m → size x 1 + size x 2 ≤ capacity_of m → size x 4 ≡ 0 → TwoQ x × Quiet m x
  two_q_of x N q g h u =
      let t1 = ap (λ (f : ℕ → ℕ). f 1) q.tops in let t5 = ap (λ (f : ℕ → ℕ). f 5) q.tops in
      (record { proper = N; all = rw q.tops T.all; kin = rw q.tops T.kin; ghosts = omega (arith, g, t5); held = omega (arith, h, t1); unused = u }, q)

  -- A1out: comes to Am, by the short form
  served_out : (p e : ℕ) → m.pages e ≡ p → m.lists e ≡ 3 → 1 ≤ size m 3 → Served (λ n. TwoQ n × Quiet m n) m p (returns (short_room m) e 2)
  unfolding short_room one_if
  served_out p e z l s = room_cases
      (λ f t X. simp t (comes 0 0 (as_it_is m) X (λ x F G. (omega (arith, F, G, T.ghosts), omega (arith, F, G, f), omega (arith, F, G, T.unused)))))
      (λ f t v X. simp (t, v) (comes 1 3 (put_out_to m (back m 1) 3) X (λ x F G. (omega (arith, F, G, T.ghosts), omega (arith, F, G, f), omega (arith, F, G, T.unused)))))
      (λ f t v X. simp (t, v) (comes 2 0 (put_out m (back m 2)) X (λ x F G. (omega (arith, F, G, T.ghosts), omega (arith, F, G, f), omega (arith, F, G, T.unused)))))
    where
      comes : (k j : ℕ) (r : Room) → Out k j m r
          → ((x : Mem) → Resized k j m r.mem → Resized 3 2 r.mem x → (size x 3 ≤ second_of m) × (size x 1 + size x 2 ≤ capacity_of m) × (size x 4 ≡ 0))
          → Served (λ n. TwoQ n × Quiet m n) m p (returns r e 2)
      comes k j r X fits = returning (λ n. TwoQ n × Quiet m n) m p r T.proper.seated.indexed X e 3 2 z l (omega arith) not3 (omega arith) held2
          (λ x N G q. let k = fits x X.sizes G in two_q_of x N q k.0 k.1 k.2)

  -- A1out is trimmed after its new page
  room_trimmed : Out 1 3 m (put_out_to m (back m 1) 3) → size m 1 + size m 2 ≡ capacity_of m → Made (Less (capacity_of m) (second_of m)) m (trimmed_room (put_out_to m (back m 1) 3))
  unfolding trimmed_room trimmed one_if
  room_trimmed X f =
      let r = put_out_to m (back m 1) 3 in let F = X.sizes in
      let n = r.mem in let J = X.vacant.gap.indexed in let Q = X.vacant.ordered in
      let t5 = ap (λ (g : ℕ → ℕ). g 5) X.quiet.tops in
      by_test (ltb (second_of n) (size n 3))
      (λ t. simp t (
      let e = back n 3 in
      let l : n.lists e ≡ 3 = back_list n J Q 3 (omega arith) (omega (arith, ltb-true (second_of n) (size n 3) t)) in
      let u : n.lists e ≡ 0 → ⊥ = λ y. omega (arith, y, l) in
      let g : is_held (n.lists e) ≡ false = ap is_held l ∙ not3 in
      let G = resized_after J Q (removed n J Q e u) (clear_ordered n J e u Q) (clear_moved n J e u) 3 l in
      record {
        vacant = trim_vacant n r.slot X.vacant e u g;
        makes = makes_before X.makes (still_ghost (clear_moved n J e u) g free_held (clear_bare n J e u));
        quiet = quiet_then X.quiet (clear_quiet n J e u);
        fits = record { held = omega (arith, F, G, f); ghosts = omega (arith, F, G, T.ghosts); unused = omega (arith, F, G, T.unused) };
      }))
      (λ t. simp t (made_of X (λ F. record { held = omega (arith, F, f); ghosts = omega (arith, t5, ltb-false (second_of n) (size n 3) t); unused = omega (arith, F, T.unused) })))

  -- room is made for a new page
  pub room_made : Made (Less (capacity_of m) (second_of m)) m (make_room m)
  unfolding make_room one_if
  room_made = room_cases
      (λ f t X. simp t (made_of X (λ F. record { held = omega (arith, F, f); ghosts = omega (arith, F, T.ghosts); unused = omega (arith, F, T.unused) })))
      (λ f t s X. simp (t, s) (room_trimmed X f))
      (λ f t s X. simp (t, s) (made_of X (λ F. record { held = omega (arith, F, f); ghosts = omega (arith, F, T.ghosts); unused = omega (arith, F, T.unused) })))

  -- a new page enters A1in
  served_new : (p : ℕ) → p < NONE → ((i : ℕ) → m.pages i ≡ p → ⊥) → Served (λ n. TwoQ n × Quiet m n) m p (enters (make_room m) p 1)
  unfolding one_if
  served_new p hp absent =
      let D = room_made in let R = D.fits in let t2 = ap (λ (g : ℕ → ℕ). g 2) D.quiet.tops in
      entering (λ n. TwoQ n × Quiet m n) m p (make_room m) D 1 (omega arith) held1 hp absent (omega (arith, R.held, R.ghosts, R.unused, T.all, t2))
      (λ x N G q. two_q_of x N q (omega (arith, G, R.ghosts)) (omega (arith, G, R.held)) (omega (arith, G, R.unused)))

  -- a request is served, and leaves the header and the marks
  pub two_q_served : (p : ℕ) → p < NONE → Served (λ n. TwoQ n × Quiet m n) m p (two_q m p)
  unfolding two_q one_if
  two_q_served p hp =
      entry_cases m T.proper.seated.indexed p hp
      (λ e z w on. list_cases m T.proper.seated.indexed T.proper.ordered e (λ y. omega (arith, z, T.proper.ordered.idle e y))
      (λ l _. simp (w, ne_eqb (list_on m p) 2 (λ y. omega (arith, on, l, y)), eq-eqb (list_on m p) 1 (on ∙ l))
      (served_hit (λ n. TwoQ n × Quiet m n) m p e m z (ap is_held l ∙ held1) still_self (T, quiet_self)))
      (λ l _. let X = front_goes m T.proper e 2 2 l held2 (omega arith) held2 in let F = X.sizes in
      simp (w, eq-eqb (list_on m p) 2 (on ∙ l)) (served_hit (λ n. TwoQ n × Quiet m n) m p e (to_front e 2 m) z (ap is_held l ∙ held2) X.still
      (two_q_of (to_front e 2 m) X.proper X.quiet (omega (arith, F, T.ghosts)) (omega (arith, F, T.held)) (omega (arith, F, T.unused)))))
      (λ l s. simp (w, ne_eqb (list_on m p) 2 (λ y. omega (arith, on, l, y)), ne_eqb (list_on m p) 1 (λ y. omega (arith, on, l, y)), eq-eqb (list_on m p) 3 (on ∙ l))
      (rw (short_returns m T e l) (served_out p e z l s)))
      (λ _ h. absurd (omega (arith, T.unused))))
      (λ absent on. simp (ne_eqb (list_on m p) 1 (λ y. omega (arith, on, y)), ne_eqb (list_on m p) 2 (λ y. omega (arith, on, y)), ne_eqb (list_on m p) 3 (λ y. omega (arith, on, y)))
      (served_new p hp absent))

-- 2Q is a policy that never names the wrong slot
pub two_q_steps : Steps TwoQ two_q
two_q_steps = steps_of (λ m T. T.proper.seated) two_q_served
