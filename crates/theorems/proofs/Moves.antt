-- An entry that changes its list and its slot: put out to the ghosts, and back from them.
use Prim.Native.Nat.{ℕ, suc, ◌≤◌}
use mathlib.Core.Path.{◌≡◌, refl, sym, ap, ◌∙◌}
use mathlib.Core.Bool.{Bool, true, false}
use native.Mathlib.Omega.{arith}
use borrow.Author.Tests.{ne_eqb, ltb-true}
use Rattle.meaning.specs.Neighbours.{NONE, put}
use Rattle.meaning.specs.Layout.{is_held}
use Rattle.meaning.specs.Mem.{Mem, held, off, push, with_slot, to_front, move_to, entry_count}
use Rattle.invariants.specs.Proper.{Indexed, Ordered, Slotted, up_to, Proper}
use Rattle.invariants.specs.Vacant.{Vacant}
use Rattle.invariants.proofs.Numbered.{held_used}
use Rattle.invariants.proofs.Lists.{split, eqb_same, no_true}
use Rattle.invariants.proofs.Numbers.{tally_one}
use Rattle.invariants.proofs.Fine.{front_fine, slot_fine}
use Rattle.theorems.specs.Change.{Moved, Quiet}
use Rattle.theorems.proofs.Operations.{within, paged, front_ordered}
use Rattle.theorems.proofs.Rooms.{slotted_as, slots_full}

module _ (m : Mem) (I : Indexed m) (e j s : ℕ) (u : m.lists e ≡ 0 → ⊥) where
  -- move_to changes its entry alone
  pub move_moved : Moved e j m (move_to e j s m)
  unfolding move_to with_slot to_front push off
  move_moved = record { inside = within m I e u; size = refl; lists = λ i. split i e (λ z t. simp t) (λ z t. simp t); pages = λ i d. refl; slots = λ i d. simp (ne_eqb i e d) }

  -- an entry that moves keeps its page
  pub move_page : (move_to e j s m).pages e ≡ m.pages e
  unfolding move_to with_slot to_front push off
  move_page = refl

  -- an entry that moves gets its slot
  pub move_slot : (move_to e j s m).slots e ≡ s
  unfolding move_to with_slot to_front push off
  move_slot = simp (eqb_same e)

  -- move_to leaves the header and the marks
  pub move_quiet : Quiet m (move_to e j s m)
  unfolding move_to with_slot to_front push off
  move_quiet = record { tops = refl; marks = λ i. omega arith }

  move_at : (i : ℕ) → (i ≡ e → ⊥) → (move_to e j s m).lists i ≡ m.lists i
  move_at i d = move_moved.lists i ∙ simp (ne_eqb i e d)

  move_list : (move_to e j s m).lists e ≡ j
  move_list = move_moved.lists e ∙ simp (eqb_same e)

  module _ (O : Ordered m) (hj : (1 ≤ j) × (j ≤ 4)) where
    -- the pages and chains stay right
    move_indexed : (is_held j ≡ false → s ≡ NONE) → Indexed (move_to e j s m)
    move_indexed fit = record {
      fine = unfold move_to in slot_fine (to_front e j m) (front_fine m I.fine e j (O.listed e u) hj) e s;
      canonical = let K = I.canonical in unfold move_to with_slot to_front push off in record {
        tops = K.tops;
        pages = K.pages;
        marks = K.marks;
        slots = λ i h. let d : i ≡ e → ⊥ = λ z. omega (arith, z, within m I e u) in simp (ne_eqb i e d) (K.slots i h);
        lists = λ i h. let d : i ≡ e → ⊥ = λ z. omega (arith, z, within m I e u) in simp (ne_eqb i e d) (K.lists i h);
      };
      hung = unfold move_to with_slot to_front push off in I.hung;
      free = unfold move_to with_slot to_front push off in (λ i z. let d : i ≡ e → ⊥ = λ y. paged m I e u (ap m.pages (sym y) ∙ z) in simp (ne_eqb i e d) (I.free i z));
      ghost = unfold move_to with_slot to_front push off in (λ i z. split i e
          (λ y t. simp t (fit (simp t at z)))
          (λ y t. simp t (I.ghost i (simp t at z))));
    }

    -- and the lists
    move_ordered : Ordered (move_to e j s m)
    move_ordered = let P = front_ordered m I O e j u hj in record { listed = unfold move_to with_slot in P.listed; idle = unfold move_to with_slot in P.idle }

  -- put out: its slot is free
  move_out : is_held (m.lists e) ≡ true → is_held j ≡ false → (H : ℕ → Bool) → Slotted H m → Slotted (put H (m.slots e) false) (move_to e j s m)
  move_out h g H S = record {
    at = S.at;
    there = λ x k. split x (m.slots e)
        (λ z t. no_true (simp t at k))
        (λ z t. let w = S.there x (simp t at k) in
        let d : S.at x ≡ e → ⊥ = λ y. z (sym w.1 ∙ ap m.slots y) in
        (ap is_held (move_at (S.at x) d) ∙ w.0, move_moved.slots (S.at x) d ∙ w.1));
    back = λ i k. split i e
        (λ z t. no_true (sym g ∙ sym (ap is_held (ap (move_to e j s m).lists z ∙ move_list)) ∙ k))
        (λ z t. let w = S.back i (sym (ap is_held (move_at i z)) ∙ k) in
        let d : m.slots i ≡ m.slots e → ⊥ = λ y. z (sym w.1 ∙ ap S.at y ∙ (S.back e h).1) in
        let q = move_moved.slots i z in
        (ap (put H (m.slots e) false) q ∙ simp (ne_eqb (m.slots i) (m.slots e) d) w.0, ap S.at q ∙ w.1));
  }

  -- loaded again: its slot is taken
  move_in : is_held (m.lists e) ≡ false → is_held j ≡ true → (H : ℕ → Bool) → H s ≡ false → Slotted H m → Slotted (put H s true) (move_to e j s m)
  move_in h g H off S = record {
    at = put S.at s e;
    there = λ x k. split x s
        (λ z t. simp t (ap is_held move_list ∙ g, move_slot ∙ sym z))
        (λ z t. let w = S.there x (simp t at k) in
        let d : S.at x ≡ e → ⊥ = λ y. no_true (sym h ∙ ap (λ (i : ℕ). is_held (m.lists i)) (sym y) ∙ w.0) in
        simp t (ap is_held (move_at (S.at x) d) ∙ w.0, move_moved.slots (S.at x) d ∙ w.1));
    back = λ i k. split i e
        (λ z t. let q = ap (move_to e j s m).slots z ∙ move_slot in
        (ap (put H s true) q ∙ simp (eqb_same s), ap (put S.at s e) q ∙ simp (eqb_same s) (sym z)))
        (λ z t. let w = S.back i (sym (ap is_held (move_at i z)) ∙ k) in
        let d : m.slots i ≡ s → ⊥ = λ y. no_true (sym off ∙ ap H (sym y) ∙ w.0) in
        let q = move_moved.slots i z in
        (ap (put H s true) q ∙ simp (ne_eqb (m.slots i) s d) w.0, ap (put S.at s e) q ∙ simp (ne_eqb (m.slots i) s d) w.1));
  }

  -- one held page less
  held_down : is_held (m.lists e) ≡ true → is_held j ≡ false → held m ≡ suc (held (move_to e j s m))
  unfolding held
  held_down a b = rw move_quiet.tops (tally_one (entry_count m) (λ i. is_held (m.lists i)) (λ i. is_held ((move_to e j s m).lists i)) e (within m I e u) a (ap is_held move_list ∙ b) (λ i d. sym (ap is_held (move_at i d))))

  -- one more
  held_up : is_held (m.lists e) ≡ false → is_held j ≡ true → held (move_to e j s m) ≡ suc (held m)
  unfolding held
  held_up a b = rw move_quiet.tops (tally_one (entry_count m) (λ i. is_held ((move_to e j s m).lists i)) (λ i. is_held (m.lists i)) e (within m I e u) (ap is_held move_list ∙ b) a (λ i d. ap is_held (move_at i d)))

-- a held page put out to the ghosts
pub vacant_to : (m : Mem) → Proper m → (e j : ℕ) → is_held (m.lists e) ≡ true → (1 ≤ j) × (j ≤ 4) → is_held j ≡ false → Vacant (m.slots e) (move_to e j NONE m)
vacant_to m P e j h hj g =
    let I = P.seated.indexed in let O = P.ordered in let u = held_used (m.lists e) h in
    let n = held_down m I e j NONE u h g in
    record {
      gap = record {
        indexed = move_indexed m I e j NONE u O hj (λ _. refl);
        fits = omega (arith, n, ltb-true (m.slots e) (held m) (P.seated.slotted.back e h).0);
        slotted = slotted_as (move_to e j NONE m) (λ s. ap (λ (k : ℕ). put (up_to k) (m.slots e) false s) n) (move_out m I e j NONE u h g (up_to (held m)) P.seated.slotted);
      };
      ordered = move_ordered m I e j NONE u O hj;
    }

-- a ghost loaded where there is room
pub return_proper : (m : Mem) (s : ℕ) → Vacant s m → (e j : ℕ) → (m.lists e ≡ 0 → ⊥) → is_held (m.lists e) ≡ false → (1 ≤ j) × (j ≤ 4) → is_held j ≡ true → Proper (move_to e j s m)
return_proper m s W e j u h hj g =
    let I = W.gap.indexed in let O = W.ordered in
    record {
      seated = record {
        indexed = move_indexed m I e j s u O hj (λ z. no_true (sym z ∙ g));
        slotted = slotted_as (move_to e j s m) (slots_full W.gap.fits (held_up m I e j s u h g))
            (move_in m I e j s u h g (put (up_to (suc (held m))) s false) (simp (eqb_same s)) W.gap.slotted);
      };
      ordered = move_ordered m I e j s u O hj;
    }
