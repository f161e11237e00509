-- ARC keeps its directory, and answers with the right slot.
use Prim.Native.Nat.{ℕ, suc, ◌+◌, ◌*◌, ◌-◌, ◌≤◌, ◌<◌, min}
use mathlib.Core.Path.{◌≡◌, refl, sym, ap, ◌∙◌, fun_ext}
use mathlib.Core.Bool.{Bool, true, false}
use native.Mathlib.Nat.{min-le_left, le-div_iff_mul-le}
use native.Mathlib.Omega.{arith}
use lib.Dec.{eqb, leb, ltb}
use borrow.Author.Tests.{eq-eqb, ne_eqb, lt-ltb, leb-true, leb-false, ltb-true, ltb-false, eqb-true, eqb-false}
use Rattle.meaning.specs.Base.{one_if}
use Rattle.meaning.specs.Neighbours.{NONE}
use Rattle.meaning.specs.Layout.{is_held, unit}
use Rattle.meaning.specs.Mem.{Mem, held, full, size, back, list_on, to_front, clear, with_word6, capacity_of, target_of}
use Rattle.meaning.specs.Room.{Room, put_out_to, hit_at, enters, returns}
use Rattle.meaning.specs.Arc.{step_of, grown, shrunk, from_t1, replace, arc_b1, arc_b2, arc_full_row, arc_under, arc}
use Rattle.invariants.specs.Proper.{Proper}
use Rattle.invariants.specs.Ram.{Steps}
use Rattle.invariants.specs.Assumed.{Arc}
use Rattle.invariants.proofs.Lists.{split, no_true}
use Rattle.invariants.proofs.Numbers.{by_test}
use Rattle.theorems.specs.Change.{Header, Calm, Quiet}
use Rattle.theorems.specs.Served.{Served}
use Rattle.theorems.specs.Sizes.{Resized}
use Rattle.theorems.specs.Goes.{Goes, Out, Made}
use Rattle.theorems.proofs.Operations.{free_held}
use Rattle.theorems.proofs.Rooms.{entry_cases}
use Rattle.theorems.proofs.Counts.{held_sizes, list_cases, back_list}
use Rattle.theorems.proofs.Word6.{word6_proper}
use Rattle.theorems.proofs.Serving.{quiet_then, still_same, makes_after, served_hit, served_after, steps_of}
use Rattle.theorems.proofs.Going.{held1, held2, not3, not4, self_goes, front_goes, ghost_goes, out_none, out_to_lem, out_off, made_of, entering, returning}

-- the sizes after Replace: one held page less, T1+B1 not more, and all four as many
pub record Replaced (m n : Mem) : Type 0 where
  pub held : suc (size n 1 + size n 2) ≡ size m 1 + size m 2
  pub left : size n 1 + size n 3 ≤ size m 1 + size m 3
  pub most : size n 1 + size n 2 + size n 3 + size n 4 ≡ size m 1 + size m 2 + size m 3 + size m 4

-- the sizes after a ghost came to T2
record Came (m n : Mem) : Type 0 where
  held : (size n 1 ≡ size m 1) × (size n 2 ≡ suc (size m 2))
  ghosts : (size n 3 ≤ size m 3) × (suc (size n 3 + size n 4) ≡ size m 3 + size m 4)

module _ (m : Mem) (b : Bool) where
  -- T1 gives a page only if it has one
  pub first_some : from_t1 m b ≡ true → 1 ≤ size m 1
  unfolding from_t1
  first_some t = by_test (ltb 0 (size m 1)) (λ s. omega (arith, ltb-true 0 (size m 1) s)) (λ s. no_true (sym (simp s) ∙ t))

  -- where it has one and gives none, it is at most the target
  pub first_under : from_t1 m b ≡ false → 1 ≤ size m 1 → size m 1 ≤ target_of m
  unfolding from_t1
  first_under t h = by_test (ltb (target_of m) (unit * size m 1))
      (λ s. no_true (sym t ∙ simp (lt-ltb 0 (size m 1) (omega arith), s)))
      (λ s. omega (arith, ltb-false (target_of m) (unit * size m 1) s))

-- Replace puts out the back of T1 or of T2
pub replace_out : (m : Mem) → Proper m → (b : Bool) → (from_t1 m b ≡ false → 1 ≤ size m 2) → (Q : Room → Type 0) → ((k j : ℕ) (r : Room) → Out k j m r → Replaced m r.mem → Q r) → Q (replace m b)
unfolding replace one_if
replace_out m P b other Q f =
    let I = P.seated.indexed in let O = P.ordered in
    by_test (from_t1 m b)
    (λ t. let X = out_to_lem m P (back m 1) 1 3 (back_list m I O 1 (omega arith) (first_some m b t)) held1 (omega arith) not3 in let F = X.sizes in
    simp t (f 1 3 (put_out_to m (back m 1) 3) X (record { held = omega (arith, F); left = omega (arith, F); most = omega (arith, F) })))
    (λ t. let X = out_to_lem m P (back m 2) 2 4 (back_list m I O 2 (omega arith) (other t)) held2 (omega arith) not4 in let F = X.sizes in
    simp t (f 2 4 (put_out_to m (back m 2) 4) X (record { held = omega (arith, F); left = omega (arith, F); most = omega (arith, F) })))

-- a step of the target is at least one
pub step_some : (mine other : ℕ) → 1 ≤ mine → 1 ≤ step_of mine other
unfolding step_of
step_some mine other h = by_test (leb other mine)
    (λ t. simp t (omega arith))
    (λ t. simp t ((le-div_iff_mul-le {k = mine} {x = 1} {y = unit * other} h).1 (omega (arith, leb-false other mine t))))

-- the sizes of an ARC directory of capacity C
record Fits (C : ℕ) (m : Mem) : Type 0 where
  left : size m 1 + size m 3 ≤ C
  most : size m 1 + size m 2 + size m 3 + size m 4 ≤ 2 * C
  held : size m 1 + size m 2 ≤ C
  filled : 1 ≤ size m 3 + size m 4 → size m 1 + size m 2 ≡ C

-- the sizes of one with room for a page on T1
pub record Less (C : ℕ) (m : Mem) : Type 0 where
  pub left : size m 1 + size m 3 < C
  pub most : size m 1 + size m 2 + size m 3 + size m 4 < 2 * C
  pub held : size m 1 + size m 2 < C
  pub filled : 1 ≤ size m 3 + size m 4 → suc (size m 1 + size m 2) ≡ C

module _ (m : Mem) (A : Arc m) where
  arc_of : (v : ℕ) → v ≤ capacity_of m → (x : Mem) → Proper x → Fits (capacity_of m) x → Quiet (with_word6 v m) x → Arc x × (Header m x × Calm m x)
  unfolding with_word6
  arc_of v hv x N F q =
      let head : Header m x = λ t d. ap (λ (f : ℕ → ℕ). f t) q.tops ∙ simp (ne_eqb t 6 d) in
      let t6 : target_of x ≡ v = ap (λ (f : ℕ → ℕ). f 6) q.tops in
      let t1 = head 1 (omega arith) in let t2 = head 2 (omega arith) in (
        record {
          proper = N;
          all = omega (arith, A.all, t1, t2);
          some = omega (arith, A.some, t1);
          target = omega (arith, hv, t6, t1);
          left = omega (arith, F.left, t1);
          most = omega (arith, F.most, t1);
          held = omega (arith, F.held, t1);
          filled = λ h. F.filled h ∙ sym t1;
        },
        (head, q.marks),
      )

  -- the same, where word 6 stays
  arc_same : (x : Mem) → Proper x → Fits (capacity_of m) x → Quiet m x → Arc x × (Header m x × Calm m x)
  arc_same x N F q = arc_of (target_of m) (omega (arith, A.target)) x N F
      (unfold with_word6 in record { tops = q.tops ∙ fun_ext (λ t. split t 6 (λ z s. simp s (ap m.tops z)) (λ z s. simp s)); marks = q.marks })

  -- ── A ghost comes back, with the new target v ──
  module _ (p v : ℕ) (b : Bool) (e k : ℕ) (z : m.pages e ≡ p) (l : m.lists e ≡ k) (nz : k ≡ 0 → ⊥) (g : is_held k ≡ false) (hv : v ≤ capacity_of m)
      (full : size m 1 + size m 2 ≡ capacity_of m) (other : (1 ≤ size m 1 → size m 1 ≤ v) → 1 ≤ size m 2) (comes : (n x : Mem) → Resized k 2 n x → Came n x) where
    returned_fits : (n x : Mem) → Replaced m n → Came n x → Fits (capacity_of m) x
    returned_fits n x F G = record { left = omega (arith, F, G, A.left); most = omega (arith, F, G, A.most); held = omega (arith, F, G, full); filled = λ _. omega (arith, F, G, full) }

    returned : Served (λ n. Arc n × (Header m n × Calm m n)) m p (returns (replace (with_word6 v m) b) e 2)
    unfolding with_word6 size
    returned =
        let m₀ = with_word6 v m in let P₀ = word6_proper m v A.proper in
        let ok : Mem → Type 0 = λ n. Arc n × (Header m n × Calm m n) in
        served_after ok m p m₀ (returns (replace m₀ b) e 2) (still_same {m = m} {n = m₀} refl refl refl)
        (replace_out m₀ P₀ b (λ t. other (first_under m₀ b t)) (λ r. Served ok m₀ p (returns r e 2)) (λ k₀ j₀ r X F. returning ok m₀ p r P₀.seated.indexed X e k 2 z l nz g (omega arith) held2
        (λ x N G q. arc_of v hv x N (returned_fits r.mem x (record { held = F.held; left = F.left; most = F.most }) (comes r.mem x G)) q)))

  -- B1
  served_b1 : (p e : ℕ) → m.pages e ≡ p → m.lists e ≡ 3 → 1 ≤ size m 3 → Served (λ n. Arc n × (Header m n × Calm m n)) m p (arc_b1 m e)
  unfolding arc_b1 grown one_if
  served_b1 p e z l s =
      let f = A.filled (omega arith) in
      returned p (min (unit * capacity_of m) (target_of m + step_of (size m 3) (size m 4))) false e 3 z l (omega arith) not3
      (omega (arith, min-le_left (unit * capacity_of m) (target_of m + step_of (size m 3) (size m 4)))) f (λ _. omega (arith, f, s, A.left))
      (λ n x G. record { held = (omega (arith, G), omega (arith, G)); ghosts = (omega (arith, G), omega (arith, G)) })

  -- B2
  served_b2 : (p e : ℕ) → m.pages e ≡ p → m.lists e ≡ 4 → 1 ≤ size m 4 → Served (λ n. Arc n × (Header m n × Calm m n)) m p (arc_b2 m e)
  unfolding arc_b2 shrunk one_if
  served_b2 p e z l s =
      let f = A.filled (omega arith) in let d = step_some (size m 4) (size m 3) s in
      returned p (target_of m - step_of (size m 4) (size m 3)) true e 4 z l (omega arith) not4 (omega (arith, A.target)) f
      (λ w. split (size m 1) 0 (λ y _. omega (arith, y, f, A.some)) (λ y _. omega (arith, w (omega (arith, y)), d, f, A.target, A.some)))
      (λ n x G. record { held = (omega (arith, G), omega (arith, G)); ghosts = (omega (arith, G), omega (arith, G)) })

  -- ── Room for a new page ──

  -- replace where C are held and T2 is not empty, after a ghost was removed or none
  room_replace : {k j : ℕ} (n : Mem) → Goes k j m n → 1 ≤ size n 2 → size n 1 + size n 2 ≡ capacity_of m → size n 1 + size n 3 < capacity_of m → size n 1 + size n 2 + size n 3 + size n 4 < 2 * capacity_of m
      → Made (Less (capacity_of m)) m (replace n false)
  room_replace n T h f l w = replace_out n T.proper false (λ _. h) (Made (Less (capacity_of m)) m) (λ k₀ j₀ r X F. record {
    vacant = X.vacant;
    quiet = quiet_then T.quiet X.quiet;
    makes = makes_after T.still X.makes;
    fits = record { left = omega (arith, F, l); most = omega (arith, F, w); held = omega (arith, F, f); filled = λ _. omega (arith, F, f) };
  })

  -- the back of B1 is removed
  pub third_goes : 1 ≤ size m 3 → Goes 3 0 m (clear (back m 3) m)
  third_goes h = ghost_goes m A.proper (back m 3) 3 (back_list m A.proper.seated.indexed A.proper.ordered 3 (omega arith) h) (omega arith) not3

  -- the back of B2 is removed
  pub fourth_goes : 1 ≤ size m 4 → Goes 4 0 m (clear (back m 4) m)
  fourth_goes h = ghost_goes m A.proper (back m 4) 4 (back_list m A.proper.seated.indexed A.proper.ordered 4 (omega arith) h) (omega arith) not4

  -- room is made where T1+B1 = C
  pub row_room : size m 1 + size m 3 ≡ capacity_of m → Made (Less (capacity_of m)) m (arc_full_row m)
  unfolding arc_full_row one_if
  row_room q = by_test (ltb (size m 1) (capacity_of m))
      (λ t. simp t (let l = ltb-true (size m 1) (capacity_of m) t in
      let f = A.filled (omega (arith, q)) in
      let T = third_goes (omega (arith, q)) in
      let F = T.sizes in
      room_replace (clear (back m 3) m) T (omega (arith, F, f)) (omega (arith, F, f)) (omega (arith, F, q)) (omega (arith, F, A.most))))
      (λ t. simp t (let l = ltb-false (size m 1) (capacity_of m) t in
      made_of (out_off m A.proper (back m 1) 1 (back_list m A.proper.seated.indexed A.proper.ordered 1 (omega arith) (omega (arith, A.some))) held1)
      (λ G. record { left = omega (arith, G, A.left); most = omega (arith, G, A.most); held = omega (arith, G, A.held, A.some); filled = λ _. omega (arith, G, A.held, A.some) })))

  -- room is made where T1+B1 is under C
  pub under_room : size m 1 + size m 3 < capacity_of m → Made (Less (capacity_of m)) m (arc_under m)
  unfolding arc_under full one_if
  under_room l =
      let two = held_sizes m A.proper.seated.indexed A.proper.ordered in
      by_test (leb (capacity_of m) (held m))
      (λ t. let f : size m 1 + size m 2 ≡ capacity_of m = omega (arith, leb-true (capacity_of m) (held m) t, two, A.held) in
      by_test (eqb (size m 1 + size m 2 + size m 3 + size m 4) (2 * capacity_of m))
      (λ s. simp (t, s) (
      let q = eqb-true (size m 1 + size m 2 + size m 3 + size m 4) (2 * capacity_of m) s in
      let T = fourth_goes (omega (arith, q, f, l)) in
      let F = T.sizes in
      room_replace (clear (back m 4) m) T (omega (arith, F, f, l)) (omega (arith, F, f)) (omega (arith, F, l)) (omega (arith, F, q))))
      (λ s. simp (t, s) (
      let q = eqb-false (size m 1 + size m 2 + size m 3 + size m 4) (2 * capacity_of m) s in
      let w : size m 1 + size m 2 + size m 3 + size m 4 < 2 * capacity_of m = omega (arith, q, A.most) in
      room_replace m (self_goes m A.proper) (omega (arith, f, l)) f l w)))
      (λ t. let f : size m 1 + size m 2 < capacity_of m = omega (arith, leb-false (capacity_of m) (held m) t, two) in
      let none : size m 3 + size m 4 ≡ 0 = split (size m 3 + size m 4) 0 (λ z _. z) (λ z _. absurd (omega (arith, f, A.filled (omega (arith, z))))) in
      simp (t, ne_eqb (size m 1 + size m 2 + size m 3 + size m 4) (2 * capacity_of m) (λ z. omega (arith, z, none, f)))
      (made_of (out_none m A.proper (omega (arith, f, two))) (λ G. record { left = omega (arith, G, l); most = omega (arith, G, none, f); held = omega (arith, G, f); filled = λ z. absurd (omega (arith, G, z, none)) })))

  -- a new page enters T1
  served_new : (p : ℕ) → p < NONE → ((i : ℕ) → m.pages i ≡ p → ⊥) → (r : Room) → Made (Less (capacity_of m)) m r → Served (λ n. Arc n × (Header m n × Calm m n)) m p (enters r p 1)
  unfolding one_if
  served_new p hp absent r D =
      let L = D.fits in let t2 = ap (λ (g : ℕ → ℕ). g 2) D.quiet.tops in
      entering (λ n. Arc n × (Header m n × Calm m n)) m p r D 1 (omega arith) held1 hp absent (omega (arith, L.most, A.all, t2))
      (λ x N G q. arc_same x N (record {
        left = omega (arith, G, L.left);
        most = omega (arith, G, L.most);
        held = omega (arith, G, L.held);
        filled = λ h. omega (arith, G, L.filled (omega (arith, h, G)));
      }) q)

  -- T1 or T2
  served_held : (p e k : ℕ) → m.pages e ≡ p → m.lists e ≡ k → is_held k ≡ true → ((n : Mem) → Resized k 2 m n → Fits (capacity_of m) n) → Served (λ n. Arc n × (Header m n × Calm m n)) m p (hit_at m e (to_front e 2 m))
  served_held p e k z l h fits =
      let T = front_goes m A.proper e k 2 l h (omega arith) held2 in
      served_hit (λ n. Arc n × (Header m n × Calm m n)) m p e (to_front e 2 m) z (ap is_held l ∙ h) T.still (arc_same (to_front e 2 m) T.proper (fits (to_front e 2 m) T.sizes) T.quiet)

  -- a request is served, and leaves the header but for the target, and the marks
  pub arc_served : (p : ℕ) → p < NONE → Served (λ n. Arc n × (Header m n × Calm m n)) m p (arc m p)
  unfolding arc one_if
  arc_served p hp =
      entry_cases m A.proper.seated.indexed p hp
      (λ e z w on. list_cases m A.proper.seated.indexed A.proper.ordered e (λ y. omega (arith, z, A.proper.ordered.idle e y))
      (λ l _. simp (w, ap is_held (on ∙ l) ∙ held1) (served_held p e 1 z l held1
      (λ n G. record { left = omega (arith, G, A.left); most = omega (arith, G, A.most); held = omega (arith, G, A.held); filled = λ g. omega (arith, G, A.filled (omega (arith, g, G))) })))
      (λ l _. simp (w, ap is_held (on ∙ l) ∙ held2) (served_held p e 2 z l held2
      (λ n G. record { left = omega (arith, G, A.left); most = omega (arith, G, A.most); held = omega (arith, G, A.held); filled = λ g. omega (arith, G, A.filled (omega (arith, g, G))) })))
      (λ l s. simp (w, ap is_held (on ∙ l) ∙ not3, eq-eqb (list_on m p) 3 (on ∙ l)) (served_b1 p e z l s))
      (λ l s. simp (w, ap is_held (on ∙ l) ∙ not4, ne_eqb (list_on m p) 3 (λ y. omega (arith, on, l, y)), eq-eqb (list_on m p) 4 (on ∙ l)) (served_b2 p e z l s)))
      (λ absent on. simp (ap is_held on ∙ free_held, ne_eqb (list_on m p) 3 (λ y. omega (arith, on, y)), ne_eqb (list_on m p) 4 (λ y. omega (arith, on, y)))
      (split (size m 1 + size m 3) (capacity_of m)
      (λ y t. simp t (served_new p hp absent (arc_full_row m) (row_room y)))
      (λ y t. simp t (served_new p hp absent (arc_under m) (under_room (omega (arith, y, A.left)))))))

-- ARC is a policy that never names the wrong slot
pub arc_steps : Steps Arc arc
arc_steps = steps_of (λ m A. A.proper.seated) arc_served
