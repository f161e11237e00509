-- ARC's step, from its parts.
use Prim.Native.Nat.{ℕ, ◌+◌, ◌*◌, ◌-◌, ◌/◌, ◌≤◌, ◌<◌, min}
use mathlib.Core.Path.{◌≡◌, refl, sym, ap, ap₂, ◌∙◌, subst}
use mathlib.Core.Bool.{Bool, true, false}
use mathlib.Core.List.{List}
use native.Mathlib.Nat.{div-le_self}
use native.Mathlib.Omega.{arith}
use lib.Dec.{eqb, ltb}
use borrow.Author.Tests.{eq-eqb, ne_eqb, lt-ltb, le-ltb, le-leb, lt-leb, leb-true}
use Rattle.meaning.specs.declared.Answer.{Answer}
use Rattle.lists.specs.Told.{Found}
use Rattle.std.specs.Prelude.{Option, Some}
use Rattle.meaning.specs.Base.{one_if}
use Rattle.meaning.specs.Neighbours.{NONE}
use Rattle.meaning.specs.Layout.{is_held, unit, cell_at, list_col}
use Rattle.meaning.specs.Mem.{Mem, word, held, full, size, back, list_on, with_word6, clear, capacity_in, capacity_of, target_of, word6_in}
use Rattle.meaning.specs.Room.{as_it_is}
use Rattle.meaning.specs.Arc.{step_of, most_target, grown, shrunk, from_t1, replace, arc_b1, arc_b2, arc_full_row, arc_under, arc}
use Rattle.invariants.specs.Places.{top, Repr, Ready, Turns, Says, Any}
use Rattle.invariants.specs.Proper.{Indexed}
use Rattle.invariants.specs.Assumed.{Arc}
use Rattle.invariants.proofs.Lists.{split}
use Rattle.invariants.proofs.Numbers.{by_test}
use Rattle.theorems.proofs.Operations.{free_held}
use Rattle.theorems.proofs.Rooms.{list_none}
use Rattle.theorems.proofs.Counts.{held_sizes, sized, list_cases}
use Rattle.theorems.proofs.Arc.{first_some, first_under, replace_out, step_some, third_goes, fourth_goes, row_room, under_room}
use Rattle.theorems.proofs.Word6.{word6_proper}
use Rattle.theorems.proofs.Going.{held1, held2, not3, not4}
use Rattle.lists.specs.Asked.{OnList}
use Rattle.lists.specs.Asked as asked
use Rattle.lists.specs.Told.{Gives, GivesOf, Answers}
use Rattle.rooms.specs.declared.freed.Freed.{Freed}
use Rattle.rooms.specs.Rooms.{Serves, Frees, asking, filling, entering, returning, hit_front, back_out, back_to, back_gone, Lined, HasBack, Then, Missing}
use Rattle.arc.specs.declared.Ghosts.{Ghosts}
use Rattle.arc.specs.declared.Ghosts.TheVariants.{B1, B2}
use Rattle.arc.specs.Inner.{list_of, is_b2, moved, arc_in, replacing, from_first, Replaces, NotEmpty, Ghost, Row, Under, shortened}
use Rattle.rooms.proofs.Rooming.{ready_as, frees_as, serves_as, turn_ready, turn_frees, turn_serves}
use Rattle.rooms.proofs.Spaces.{lined, out_ghost, space_made, found_list, hits}

-- ── The target ──

-- one slot, if the page's ghost list is at least the other
pub step_one : (mine other : ℕ) → other ≤ mine → other ≤ 1024 → (1 ≡ step_of mine other) × (1 ≤ 1024)
unfolding step_of
step_one mine other h k = (sym (simp (le-leb other mine h)), omega arith)

-- the other list by the page's own, if that is shorter
pub step_more : (mine other : ℕ) → mine < other → other ≤ 1024 → (unit * other / mine ≡ step_of mine other) × (unit * other / mine ≤ 1024)
unfolding step_of
step_more mine other h k = (sym (simp (lt-leb other mine h)), omega (arith, div-le_self (unit * other) mine))

-- the target is small enough for a sum
pub target_fits : {ws : List ℕ} {k p : ℕ} → p ≡ word6_in ws → Ready ws (NotEmpty k) → p ≤ 1024
target_fits e o = let A = o.meets.arc in omega (arith, e ∙ o.repr.holds.at (top 6) (omega arith), A.target, A.all, o.repr.fine.few)

module _ {ws ws' : List ℕ} {p b1 b2 d q : ℕ} (ep : p ≡ word6_in ws) (s1 : Says ws (GivesOf size 3 b1)) (s2 : Says ws (GivesOf size 4 b2)) (t : Turns ws ws' Any (with_word6 q)) where
  -- the code's new target is that of a page in B1
  pub grow_turns : {c : ℕ} {g : Ghosts} → c ≡ capacity_in ws → g ≡ B1 → d ≡ step_of b1 b2 → q ≡ min (unit * c) (p + d) → Turns ws ws' (NotEmpty (list_of g)) (moved g)
  unfolding grown
  grow_turns ec y ed eq = rw y (record {
    to = λ m R o.
        subst (λ (x : ℕ). Repr ws' (with_word6 x m))
        (eq ∙ ap₂ (λ (x y : ℕ). min (unit * x) y) (ec ∙ R.holds.at (top 1) (omega arith)) (ap₂ (λ (x y : ℕ). x + y) (ep ∙ R.holds.at (top 6) (omega arith)) (ed ∙ ap₂ step_of (s1.of m R).is (s2.of m R).is)))
        (t.to m R tt);
  })

  -- the code's new target is that of a page in B2
  pub shrink_turns : {g : Ghosts} → g ≡ B2 → d ≡ step_of b2 b1 → q ≡ p - d → Turns ws ws' (NotEmpty (list_of g)) (moved g)
  unfolding shrunk
  shrink_turns y ed eq = rw y (record {
    to = λ m R o.
        subst (λ (x : ℕ). Repr ws' (with_word6 x m))
        (eq ∙ ap₂ (λ (x y : ℕ). x - y) (ep ∙ R.holds.at (top 6) (omega arith)) (ed ∙ ap₂ step_of (s2.of m R).is (s1.of m R).is))
        (t.to m R tt);
  })

-- ── Replace ──

module _ {ws : List ℕ} {p t1 : ℕ} (b : Bool) (ep : p ≡ word6_in ws) (s : Says ws (GivesOf size 1 t1)) where
  target : (m : Mem) → Repr ws m → (p ≡ target_of m) × (t1 ≡ size m 1)
  target m R = (ep ∙ R.holds.at (top 6) (omega arith), (s.of m R).is)

  -- T1 is empty
  pub first_none : t1 ≡ 0 → Says ws (Gives (from_first b) false)
  unfolding from_first from_t1
  first_none z = record { of = λ m R. record { is = sym (simp (le-ltb 0 (size m 1) (omega (arith, target m R)))) } }

  -- T1 is over p
  pub first_over : (t1 ≡ 0 → ⊥) → p < unit * t1 → Says ws (Gives (from_first b) true)
  unfolding from_first from_t1
  first_over z h = record { of = λ m R. let k = target m R in record { is = sym (simp (lt-ltb 0 (size m 1) (omega (arith, k, z)), lt-ltb (target_of m) (unit * size m 1) (omega (arith, k)))) } }

  -- T1 may be p, and the page asked for is in B2
  pub first_tie : (t1 ≡ 0 → ⊥) → unit * t1 ≤ p → b ≡ true → Says ws (Gives (from_first b) (eqb (unit * t1) p))
  unfolding from_first from_t1
  first_tie z h y = record {
    of = λ m R.
        let k = target m R in
        record { is = ap₂ (λ (x v : ℕ). eqb (unit * x) v) k.1 k.0 ∙ sym (simp (y, lt-ltb 0 (size m 1) (omega (arith, k, z)), le-ltb (target_of m) (unit * size m 1) (omega (arith, k)))) };
  }

  -- T1 is not over p, and the page asked for is not in B2
  pub first_not : unit * t1 ≤ p → b ≡ false → Says ws (Gives (from_first b) false)
  unfolding from_first from_t1
  first_not h y = record {
    of = λ m R.
        let k = target m R in
        record { is = by_test (ltb 0 (size m 1)) (λ t. sym (simp (y, t, le-ltb (target_of m) (unit * size m 1) (omega (arith, k))))) (λ t. sym (simp t)) };
  }

module _ {ws : List ℕ} (b : Bool) {d : Bool} (s : Says ws (Gives (from_first b) d)) where
  from : (m : Mem) → Repr ws m → d ≡ from_t1 m b
  unfolding from_first
  from m R = (s.of m R).is

  takes : d ≡ true → (m : Mem) → Repr ws m → Replaces b m → HasBack 1 m
  takes z m R o = record { lined = o.lined; some = first_some m b (sym (from m R) ∙ z) }

  -- where T1's back is put out there is one
  pub replace_first : d ≡ true → Ready ws (Replaces b) → Ready ws (HasBack 1)
  replace_first z = ready_as (takes z)

  -- that is the room of replace
  pub replaced_first : {ws' : List ℕ} {f : Freed} → d ≡ true → Frees ws ws' (HasBack 1) (back_to 1 3) f → Frees ws ws' (Replaces b) (replacing b) f
  unfolding back_to replacing replace
  replaced_first z F = frees_as F (λ m R o. (takes z m R o, simp (sym (from m R) ∙ z)))

  leaves : d ≡ false → (m : Mem) → Repr ws m → Replaces b m → HasBack 2 m
  leaves z m R o = record { lined = o.lined; some = o.other (sym (from m R) ∙ z) }

  -- where T2's back is put out there is one
  pub replace_second : d ≡ false → Ready ws (Replaces b) → Ready ws (HasBack 2)
  replace_second z = ready_as (leaves z)

  -- that is the room of replace, too
  pub replaced_second : {ws' : List ℕ} {f : Freed} → d ≡ false → Frees ws ws' (HasBack 2) (back_to 2 4) f → Frees ws ws' (Replaces b) (replacing b) f
  unfolding back_to replacing replace
  replaced_second z F = frees_as F (λ m R o. (leaves z m R o, simp (sym (from m R) ∙ z)))

-- ── A ghost comes back ──

same_size : (m : Mem) (v k : ℕ) → size (with_word6 v m) k ≡ size m k
unfolding size with_word6
same_size m v k = refl

same_list : (m : Mem) (v e : ℕ) → (with_word6 v m).lists e ≡ m.lists e
unfolding with_word6
same_list m v e = refl

same_target : (m : Mem) (v : ℕ) → target_of (with_word6 v m) ≡ v
unfolding with_word6
same_target m v = refl

-- replace after word 6 became v
comes : (m : Mem) → Arc m → (b : Bool) (v e k : ℕ) → m.lists e ≡ k → (k ≡ 0 → ⊥) → is_held k ≡ false → (from_t1 (with_word6 v m) b ≡ false → 1 ≤ size m 2)
    → Then (Replaces b) (replacing b) (OnList e) (with_word6 v m)
unfolding replacing
comes m A b v e k l nz g other =
    let P = word6_proper m v A.proper in
    let o : from_t1 (with_word6 v m) b ≡ false → 1 ≤ size (with_word6 v m) 2 = λ t. omega (arith, other t, same_size m v 2) in
    record { asks = record { lined = lined P; other = o }; leaves = replace_out (with_word6 v m) P b o (λ r. OnList e r.mem) (λ k₀ j r X _. out_ghost X e (same_list m v e ∙ l) nz g) }

module _ (m : Mem) (e : ℕ) where
  some_b1 : Ghost 3 e m → NotEmpty 3 m
  some_b1 o = let P = o.arc.proper in record { arc = o.arc; some = sized m P.seated.indexed P.ordered e 3 (omega arith) o.on }

  some_b2 : Ghost 4 e m → NotEmpty 4 m
  some_b2 o = let P = o.arc.proper in record { arc = o.arc; some = sized m P.seated.indexed P.ordered e 4 (omega arith) o.on }

  comes_b1 : Ghost 3 e m → Then (Replaces false) (replacing false) (OnList e) (grown m)
  unfolding grown
  comes_b1 o =
      let A = o.arc in let s = (some_b1 o).some in
      comes m A false (min (most_target m) (target_of m + step_of (size m 3) (size m 4))) e 3 o.on (omega arith) not3 (λ _. omega (arith, A.filled (omega (arith, s)), s, A.left))

  comes_b2 : Ghost 4 e m → Then (Replaces true) (replacing true) (OnList e) (shrunk m)
  unfolding shrunk
  comes_b2 o =
      let A = o.arc in let s = (some_b2 o).some in let f = A.filled (omega (arith, s)) in
      let v = target_of m - step_of (size m 4) (size m 3) in let d = step_some (size m 4) (size m 3) s in
      comes m A true v e 4 o.on (omega arith) not4 (λ t. split (size m 1) 0
      (λ y _. omega (arith, y, f, A.some))
      (λ y _. omega (arith, first_under (with_word6 v m) true t (omega (arith, y, same_size m v 1)), same_size m v 1, same_target m v, d, f, A.target, A.some)))

some_in : (g : Ghosts) (m : Mem) (e : ℕ) → Ghost (list_of g) e m → NotEmpty (list_of g) m
some_in B1 m e o = some_b1 m e o
some_in B2 m e o = some_b2 m e o

comes_in : (g : Ghosts) (m : Mem) (e : ℕ) → Ghost (list_of g) e m → Then (Replaces (is_b2 g)) (replacing (is_b2 g)) (OnList e) (moved g m)
comes_in B1 m e o = comes_b1 m e o
comes_in B2 m e o = comes_b2 m e o

served_in : (g : Ghosts) (m : Mem) (e : ℕ) → filling (replacing (is_b2 g)) (returning e 2) (moved g m) ≡ asking (arc_in g) e m
unfolding filling replacing returning asking arc_b1 arc_b2
served_in B1 m e = refl
served_in B2 m e = refl

-- a ghost list that has the page is not empty
pub ghost_some : {ws : List ℕ} {e : ℕ} (g : Ghosts) → Ready ws (Ghost (list_of g) e) → Ready ws (NotEmpty (list_of g))
ghost_some {e = e} g = ready_as (λ m R o. some_in g m e o)

module _ {ws ws₁ : List ℕ} {e : ℕ} {b : Bool} (g : Ghosts) (z : b ≡ is_b2 g) (t : Turns ws ws₁ (NotEmpty (list_of g)) (moved g)) where
  -- after p moved, replace can make room, and the page is still on its ghost list
  pub ghost_ready : Ready ws (Ghost (list_of g) e) → Ready ws₁ (Then (Replaces b) (replacing b) (OnList e))
  ghost_ready o = rw z (turn_ready t (λ m R x. (some_in g m e x, comes_in g m e x)) o)

  -- so it is served as a page of that list
  pub ghost_serves : {ws₂ : List ℕ} {r : Answer} → Serves ws₁ ws₂ (Then (Replaces b) (replacing b) (OnList e)) (filling (replacing b) (returning e 2)) r → Serves ws ws₂ (Ghost (list_of g) e) (asking (arc_in g) e) r
  ghost_serves S = turn_serves t (rw z at S) (λ m R x. (some_in g m e x, comes_in g m e x, served_in g m e))

-- ── Room for a new page: T1+B1 = C ──

module _ (m : Mem) (o : Row m) where
  A : Arc m
  A = o.arc

  row_third_some : size m 1 < capacity_of m → 1 ≤ size m 3
  row_third_some h = omega (arith, o.row)

  -- once B1's back is gone replace can make room
  row_left : size m 1 < capacity_of m → Replaces false (clear (back m 3) m)
  unfolding one_if
  row_left h =
      let s = row_third_some h in let T = third_goes m A s in
      record { lined = lined T.proper; other = λ _. omega (arith, T.sizes, A.filled (omega (arith, s)), h) }

module _ {ws : List ℕ} {t1 c : ℕ} (s : Says ws (GivesOf size 1 t1)) (ec : c ≡ capacity_in ws) where
  row_under : t1 < c → (m : Mem) → Repr ws m → size m 1 < capacity_of m
  row_under h m R = omega (arith, (s.of m R).is, ec ∙ R.holds.at (top 1) (omega arith))

  row_over : c ≤ t1 → (m : Mem) → Repr ws m → capacity_of m ≤ size m 1
  row_over h m R = omega (arith, (s.of m R).is, ec ∙ R.holds.at (top 1) (omega arith))

  third : t1 < c → (m : Mem) → Repr ws m → Row m → HasBack 3 m
  third h m R o = record { lined = lined o.arc.proper; some = row_third_some m o (row_under h m R) }

  replaces : t1 < c → (m : Mem) → Repr ws m → Row m → Replaces false (clear (back m 3) m)
  replaces h m R o = row_left m o (row_under h m R)

  -- B1 has a back, if T1 is under C
  pub row_third : t1 < c → Ready ws Row → Ready ws (HasBack 3)
  row_third h = ready_as (third h)

  module _ {ws₁ : List ℕ} (h : t1 < c) (t : Turns ws ws₁ (HasBack 3) (back_gone 3)) where
    -- after it is gone replace can make room
    pub row_replaces : Ready ws Row → Ready ws₁ (Replaces false)
    unfolding back_gone
    row_replaces o = turn_ready t (λ m R g. (third h m R g, replaces h m R g)) o

    -- and that is the room
    pub row_replaced : {ws₂ : List ℕ} {f : Freed} → Frees ws₁ ws₂ (Replaces false) (replacing false) f → Frees ws ws₂ Row arc_full_row f
    unfolding back_gone replacing arc_full_row
    row_replaced F = turn_frees t F (λ m R g. (third h m R g, replaces h m R g, simp (lt-ltb (size m 1) (capacity_of m) (row_under h m R))))

  leads : c ≤ t1 → (m : Mem) → Repr ws m → Row m → HasBack 1 m
  leads h m R o = record { lined = lined o.arc.proper; some = omega (arith, row_over h m R, o.arc.some) }

  -- T1 has a back, if T1 is C
  pub row_first : c ≤ t1 → Ready ws Row → Ready ws (HasBack 1)
  row_first h = ready_as (leads h)

  -- and its back put out is the room
  pub row_out : {ws' : List ℕ} {f : Freed} → c ≤ t1 → Frees ws ws' (HasBack 1) (back_out 1) f → Frees ws ws' Row arc_full_row f
  unfolding back_out arc_full_row
  row_out h F = frees_as F (λ m R o. (leads h m R o, simp (le-ltb (size m 1) (capacity_of m) (row_over h m R))))

-- ── Room for a new page: T1+B1 under C ──

module _ (m : Mem) (o : Under m) where
  B : Arc m
  B = o.arc

  under_fourth : size m 1 + size m 2 + size m 3 + size m 4 ≡ 2 * capacity_of m → 1 ≤ size m 4
  under_fourth z = omega (arith, z, o.under, B.held)

  -- with at most one ghost removed the lists are right, and T2 is as long as before
  under_short : Lined (shortened m) × (size (shortened m) 2 ≡ size m 2)
  unfolding shortened one_if
  under_short = split (size m 1 + size m 2 + size m 3 + size m 4) (2 * capacity_of m)
      (λ z t. simp t (let T = fourth_goes m B (under_fourth z) in (lined T.proper, omega (arith, T.sizes))))
      (λ z t. simp t (lined B.proper, refl))

  -- so replace can make room
  under_left : full m ≡ true → Replaces false (shortened m)
  unfolding full
  under_left t =
      let S = under_short in
      record { lined = S.0; other = λ _. omega (arith, S.1, leb-true (capacity_of m) (held m) t, held_sizes m B.proper.seated.indexed B.proper.ordered, o.under) }

module _ {ws : List ℕ} {c n1 n2 n3 n4 : ℕ} (ec : c ≡ capacity_in ws) (s1 : Says ws (GivesOf size 1 n1)) (s2 : Says ws (GivesOf size 2 n2)) (s3 : Says ws (GivesOf size 3 n3)) (s4 : Says ws (GivesOf size 4 n4)) where
  sums : (m : Mem) → Repr ws m → (n1 + n2 + (n3 + n4) ≡ size m 1 + size m 2 + size m 3 + size m 4) × (c ≡ capacity_of m)
  sums m R = (omega (arith, (s1.of m R).is, (s2.of m R).is, (s3.of m R).is, (s4.of m R).is), ec ∙ R.holds.at (top 1) (omega arith))

  -- fewer than 2C, and nothing is removed
  pub shorten_none : (n1 + n2 + (n3 + n4) ≡ 2 * c → ⊥) → Turns ws ws Under shortened
  unfolding shortened
  shorten_none z = record { to = λ m R o. simp (ne_eqb (size m 1 + size m 2 + size m 3 + size m 4) (2 * capacity_of m) (λ y. z (omega (arith, y, sums m R)))) R }

  module _ (z : n1 + n2 + (n3 + n4) ≡ 2 * c) where
    total : (m : Mem) → Repr ws m → size m 1 + size m 2 + size m 3 + size m 4 ≡ 2 * capacity_of m
    total m R = omega (arith, z, sums m R)

    fourth : (m : Mem) → Repr ws m → Under m → HasBack 4 m
    fourth m R o = record { lined = lined o.arc.proper; some = under_fourth m o (total m R) }

    -- B2 has a back, if all four total 2C
    pub shorten_back : Ready ws Under → Ready ws (HasBack 4)
    shorten_back = ready_as fourth

    -- and its back is removed
    pub shorten_gone : {ws' : List ℕ} → Turns ws ws' (HasBack 4) (back_gone 4) → Turns ws ws' Under shortened
    unfolding shortened back_gone
    shorten_gone t = record { to = λ m R o. simp (eq-eqb (size m 1 + size m 2 + size m 3 + size m 4) (2 * capacity_of m) (total m R)) (t.to m R (fourth m R o)) }

-- 2C is a small number
pub twice_fits : {ws : List ℕ} {c : ℕ} → c ≡ capacity_in ws → Ready ws Under → 2 * c ≤ 1024
twice_fits ec o = omega (arith, ec ∙ o.repr.holds.at (top 1) (omega arith), o.meets.arc.all, o.repr.fine.few)

module _ {ws ws₁ : List ℕ} {b : Bool} (s : Says ws (Gives full b)) (t : Turns ws ws₁ Under shortened) where
  -- where C are held, replace can make room
  pub under_ready : b ≡ true → Ready ws Under → Ready ws₁ (Replaces false)
  under_ready z o = turn_ready t (λ m R u. (u, under_left m u (sym (s.of m R).is ∙ z))) o

  -- and that is the room
  pub under_swap : {ws₂ : List ℕ} {f : Freed} → b ≡ true → Frees ws₁ ws₂ (Replaces false) (replacing false) f → Frees ws ws₂ Under arc_under f
  unfolding replacing shortened arc_under
  under_swap z F = turn_frees t F (λ m R u. let k = sym (s.of m R).is ∙ z in (u, under_left m u k, simp k))

  -- where fewer are held there is room as it is
  pub under_none : {ws₂ : List ℕ} {f : Freed} → b ≡ false → Frees ws₁ ws₂ Any as_it_is f → Frees ws ws₂ Under arc_under f
  unfolding shortened arc_under
  under_none z F = turn_frees t F (λ m R u. (u, tt, simp (sym (s.of m R).is ∙ z)))

-- ── A page on none of the lists ──

module _ {ws : List ℕ} {c n1 n3 : ℕ} (ec : c ≡ capacity_in ws) (s1 : Says ws (GivesOf size 1 n1)) (s3 : Says ws (GivesOf size 3 n3)) where
  sizes : (m : Mem) → Repr ws m → (n1 ≡ size m 1) × (n3 ≡ size m 3) × (c ≡ capacity_of m)
  sizes m R = ((s1.of m R).is, (s3.of m R).is, ec ∙ R.holds.at (top 1) (omega arith))

  module _ {p : ℕ} where
    nowhere : (m : Mem) → Missing Arc p m → list_on m p ≡ 0
    nowhere m o = list_none m o.kind.proper.seated.indexed p o.real o.absent

    rows : n1 + n3 ≡ c → (m : Mem) → Repr ws m → Missing Arc p m → Then Row arc_full_row (asked.Admits p) m
    rows z m R o = let k : Row m = record { arc = o.kind; row = omega (arith, sizes m R) } in record { asks = k; leaves = space_made (row_room m o.kind k.row) p o.real o.absent (λ L. omega (arith, L, o.kind.all)) }

    -- T1+B1 = C, and room can be made
    pub new_row : n1 + n3 ≡ c → Ready ws (Missing Arc p) → Ready ws (Then Row arc_full_row (asked.Admits p))
    new_row z = ready_as (rows z)

    -- so a new page is served
    pub new_rowed : {ws' : List ℕ} {r : Answer} → n1 + n3 ≡ c → Serves ws ws' (Then Row arc_full_row (asked.Admits p)) (filling arc_full_row (entering p 1)) r → Serves ws ws' (Missing Arc p) (asking arc p) r
    unfolding asking filling entering arc
    new_rowed z S = serves_as S (λ m R o.
        let l = nowhere m o in
        (rows z m R o, simp (l, free_held, eq-eqb (size m 1 + size m 3) (capacity_of m) (omega (arith, sizes m R)))))

    unders : (n1 + n3 ≡ c → ⊥) → (m : Mem) → Repr ws m → Missing Arc p m → Then Under arc_under (asked.Admits p) m
    unders z m R o =
        let d : size m 1 + size m 3 ≡ capacity_of m → ⊥ = λ y. z (omega (arith, y, sizes m R)) in
        let k : Under m = record { arc = o.kind; under = omega (arith, d, o.kind.left) } in
        record { asks = k; leaves = space_made (under_room m o.kind k.under) p o.real o.absent (λ L. omega (arith, L, o.kind.all)) }

    -- T1+B1 is under C, and room can be made
    pub new_under : (n1 + n3 ≡ c → ⊥) → Ready ws (Missing Arc p) → Ready ws (Then Under arc_under (asked.Admits p))
    new_under z = ready_as (unders z)

    -- so a new page is served, too
    pub new_undered : {ws' : List ℕ} {r : Answer} → (n1 + n3 ≡ c → ⊥) → Serves ws ws' (Then Under arc_under (asked.Admits p)) (filling arc_under (entering p 1)) r → Serves ws ws' (Missing Arc p) (asking arc p) r
    unfolding asking filling entering arc
    new_undered z S = serves_as S (λ m R o.
        let l = nowhere m o in
        (unders z m R o, simp (l, free_held, ne_eqb (size m 1 + size m 3) (capacity_of m) (λ y. z (omega (arith, y, sizes m R))))))

-- ── The step ──

-- an ARC directory has its pages in the index
pub arc_indexed : (m : Mem) → Arc m → Indexed m
arc_indexed m L = L.proper.seated.indexed

-- and has lists
pub arc_lined : (m : Mem) → Arc m → Lined m
arc_lined m L = lined L.proper

module _ {ws : List ℕ} {p : ℕ} {f : Option Found} (hp : p < NONE) (a : Says ws (Answers p f)) where
  -- a page on list j
  module _ {found : Found} {j : ℕ} (z : f ≡ Some found) (ej : j ≡ word ws (cell_at found.entry list_col)) where
    -- a page that was found on list k
    pub arc_ghost : (k : ℕ) → j ≡ k → Ready ws Arc → Ready ws (Ghost k found.entry)
    arc_ghost k d = ready_as (λ m R o. record { arc = o; on = found_list a z ej m R ∙ d })

    -- a page in B1 is served
    pub arc_b1_lem : {ws' : List ℕ} {r : Answer} → j ≡ 3 → Serves ws ws' (Ghost 3 found.entry) (asking arc_b1 found.entry) r → Serves ws ws' Arc (asking arc p) r
    unfolding asking arc
    arc_b1_lem d S = serves_as S (λ m R L.
        let k = hits a z hp m R (lined L.proper) in let l = k.list ∙ found_list a z ej m R ∙ d in
        (record { arc = L; on = found_list a z ej m R ∙ d }, simp (k.entry, l, not3)))

    -- a page in B2 is served
    pub arc_b2_lem : {ws' : List ℕ} {r : Answer} → j ≡ 4 → Serves ws ws' (Ghost 4 found.entry) (asking arc_b2 found.entry) r → Serves ws ws' Arc (asking arc p) r
    unfolding asking arc
    arc_b2_lem d S = serves_as S (λ m R L.
        let k = hits a z hp m R (lined L.proper) in let l = k.list ∙ found_list a z ej m R ∙ d in
        (record { arc = L; on = found_list a z ej m R ∙ d }, simp (k.entry, l, not4)))

    -- a page in T1 or T2 is served
    pub arc_hit : {ws' : List ℕ} {r : Answer} → (j ≡ 3 → ⊥) → (j ≡ 4 → ⊥) → Serves ws ws' (OnList found.entry) (hit_front found.entry 2) r → Serves ws ws' Arc (asking arc p) r
    unfolding asking hit_front arc
    arc_hit d3 d4 S = serves_as S (λ m R L.
        let k = hits a z hp m R (lined L.proper) in
        let h : is_held (m.lists found.entry) ≡ true = list_cases m L.proper.seated.indexed L.proper.ordered found.entry k.used (λ y _. ap is_held y ∙ held1) (λ y _. ap is_held y ∙ held2) (λ y _. absurd (d3 (sym (found_list a z ej m R) ∙ y))) (λ y _. absurd (d4 (sym (found_list a z ej m R) ∙ y))) in
        (k.on, simp (k.entry, ap is_held k.list ∙ h)))
