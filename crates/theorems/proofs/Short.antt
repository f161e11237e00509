-- 2Q's room for a page on A1out, made after the page was taken off, is the short form's: A1out cannot be over Kout there, so nothing is trimmed.
use Prim.Native.Nat.{ℕ, suc, ◌≤◌}
use mathlib.Core.Path.{◌≡◌, refl, sym, ap, ◌∙◌, subst, fun_ext}
use mathlib.Core.Bool.{Bool, true, false, not, ◌&&◌}
use mathlib.Core.List.{List, [], ◌∷◌}
use native.Mathlib.Omega.{arith}
use lib.Dec.{eqb, leb, ltb}
use lib.ListN.{length}
use borrow.Author.Tests.{ne_eqb, le-ltb, leb-true, ltb-true, ltb-false}
use Rattle.std.specs.Prelude.{if◌then◌else◌}
use Rattle.meaning.specs.Base.{first, some, tally}
use Rattle.meaning.specs.Neighbours.{NONE, put, has, remove, before, Nodup}
use Rattle.meaning.specs.Layout.{is_held}
use Rattle.meaning.specs.Mem.{Mem, held, full, size, back, taken, free_slot, off, push, unhang, with_slot, with_mark, blanked, to_front, move_to, clear, capacity_of, entry_count, first_of, second_of}
use Rattle.meaning.specs.Room.{loaded, swapped, Room, as_it_is, put_out, put_out_to, load, returns}
use Rattle.meaning.specs.TwoQ.{trimmed, trimmed_room, make_room}
use Rattle.invariants.specs.Assumed.{TwoQ}
use Rattle.invariants.proofs.Lists.{split, eqb_same, no_true, remove_absent}
use Rattle.invariants.proofs.Families.{not_so}
use Rattle.invariants.proofs.Numbers.{by_test}
use Rattle.invariants.proofs.Trip.{mem_eq}
use Rattle.theorems.specs.Short.{short_room}
use Rattle.theorems.proofs.Operations.{free_held}
use Rattle.theorems.proofs.Counts.{held_sizes, back_list}
use Rattle.theorems.proofs.Going.{not3}

-- a list without repeats is shorter by the one that is taken out
remove_length : (e : ℕ) (L : List ℕ) → has L e ≡ true → Nodup L → suc (length (remove e L)) ≡ length L
unfolding has remove Nodup
remove_length e [] h d = no_true h
remove_length e (y ∷ L) h d = split e y
    (λ z t. simp (t, remove_absent e L (rw z d.0)))
    (λ z t. simp t (ap suc (remove_length e L (sym (simp t) ∙ h) d.1)))

-- an answer to a page that comes back is settled by the slot, the page put out and the directory
returns_eq : (r x : Room) (e : ℕ) → r.slot ≡ x.slot → r.out ≡ x.out → move_to e 2 r.slot r.mem ≡ move_to e 2 x.slot x.mem → returns r e 2 ≡ returns x e 2
unfolding returns load
returns_eq r x e s o d = λ i. record { reply = record { kind = if eqb (o i) NONE then loaded else swapped; slot = s i; out = o i; cleared = 0 }; mem = d i }

module _ (m : Mem) (T : TwoQ m) (e : ℕ) (l : m.lists e ≡ 3) where
  -- the page was not held, so the same are held
  alike : ◌≡◌ {A = ℕ → Bool} (λ i. is_held (put m.lists e 0 i)) (λ i. is_held (m.lists i))
  alike = fun_ext (λ i. split i e (λ z t. simp t (free_held ∙ sym (ap (λ (x : ℕ). is_held (m.lists x)) z ∙ ap is_held l ∙ not3))) (λ z t. simp t))

  full_same : full (off e m) ≡ full m
  unfolding full held off
  full_same = ap (λ (h : ℕ → Bool). leb (capacity_of m) (tally (entry_count m) h)) alike

  slot_same : free_slot (off e m) ≡ free_slot m
  unfolding free_slot taken off
  slot_same = ap (λ (h : ℕ → Bool). first (λ s. not (some (entry_count m) (λ i. h i && eqb (m.slots i) s))) 0 (capacity_of m)) alike

  order_same : (j : ℕ) → (j ≡ 3 → ⊥) → (off e m).order j ≡ m.order j
  unfolding off
  order_same j d = simp (l, ne_eqb j 3 d)

  over_same : ltb (first_of (off e m)) (size (off e m) 1) ≡ ltb (first_of m) (size m 1)
  unfolding size
  over_same = ap (λ (L : List ℕ). ltb (first_of (off e m)) (length L)) (order_same 1 (omega arith)) ∙ unfold off in refl

  back_same : (j : ℕ) → (j ≡ 3 → ⊥) → back (off e m) j ≡ back m j
  unfolding back
  back_same j d = ap (λ (L : List ℕ). before L NONE) (order_same j d)

  -- list 0 has no order
  none : remove e (m.order 0) ≡ m.order 0
  none = remove_absent e (m.order 0) (not_so _ (λ h. omega (arith, (T.proper.seated.indexed.fine.range 0 e h).0)))

  -- the page comes to Am, where nothing was put out
  back_none : (s : ℕ) → move_to e 2 s (off e m) ≡ move_to e 2 s m
  unfolding move_to with_slot to_front push off
  back_none s = mem_eq (move_to e 2 s (off e m)) (move_to e 2 s m) refl refl
      (fun_ext (λ i. split i e (λ z t. simp t) (λ z t. simp t))) refl refl
      (fun_ext (λ j. split j 2 (λ z t. rw z (simp (l, eqb_same e))) (λ z2 t2. split j 0 (λ z t. rw z (simp (l, eqb_same e) none)) (λ z t. simp (l, eqb_same e, t2, t))))) refl

  module _ (b : ℕ) (d : e ≡ b → ⊥) where
    eb : eqb e b ≡ false
    eb = ne_eqb e b d

    be : eqb b e ≡ false
    be = ne_eqb b e (λ z. d (sym z))

    -- where the back of A1in was put out
    back_to_lem : (s : ℕ) → m.lists b ≡ 1 → move_to e 2 s (move_to b 3 NONE (off e m)) ≡ move_to e 2 s (move_to b 3 NONE m)
    unfolding move_to with_slot to_front push off remove
    back_to_lem s k = mem_eq (move_to e 2 s (move_to b 3 NONE (off e m))) (move_to e 2 s (move_to b 3 NONE m)) refl refl
        (fun_ext (λ i. split i e (λ z t. simp t) (λ z t. split i b (λ y u. simp (t, u)) (λ y u. simp (t, u))))) refl refl
        (fun_ext (λ j. split j 2 (λ z t. rw z (simp (l, k, eqb_same e, eb, be)))
        (λ z2 t2. split j 0 (λ z t. rw z (simp (l, k, eqb_same e, eb, be) none))
        (λ z0 t0. split j 3 (λ z t. rw z (simp (l, k, eqb_same e, eb, be)))
        (λ z3 t3. simp (l, k, eqb_same e, eb, be, t2, t0, t3)))))) refl

    -- where the back of Am was removed
    back_off : (s : ℕ) → m.lists b ≡ 2 → move_to e 2 s (clear b (off e m)) ≡ move_to e 2 s (clear b m)
    unfolding move_to with_slot to_front push off remove clear blanked with_mark unhang
    back_off s k = mem_eq (move_to e 2 s (clear b (off e m))) (move_to e 2 s (clear b m)) refl refl
        (fun_ext (λ i. split i e (λ z t. simp t) (λ z t. split i b (λ y u. simp (t, u)) (λ y u. simp (t, u))))) refl refl
        (fun_ext (λ j. split j 2 (λ z t. rw z (simp (l, k, eqb_same e, eb, be)))
        (λ z2 t2. split j 0 (λ z t. rw z (simp (l, k, eqb_same e, eb, be) none))
        (λ z0 t0. simp (l, k, eqb_same e, eb, be, t2, t0))))) refl

    -- A1out is as long as it was, with one page off and one page on
    order_3 : m.lists b ≡ 1 → (move_to b 3 NONE (off e m)).order 3 ≡ b ∷ remove e (m.order 3)
    unfolding move_to with_slot to_front push off
    order_3 k = simp (l, k, be)

    not_trimmed : m.lists b ≡ 1 → trimmed (move_to b 3 NONE (off e m)) ≡ move_to b 3 NONE (off e m)
    unfolding size trimmed
    not_trimmed k =
        let n = move_to b 3 NONE (off e m) in
        let t : second_of n ≡ second_of m = unfold move_to with_slot to_front push off in refl in
        simp (le-ltb (second_of n) (size n 3) (omega (arith, t, ap length (order_3 k) ∙ remove_length e (m.order 3) here (T.proper.seated.indexed.fine.linked.once 3), T.ghosts)))
      where
        here : has (m.order 3) e ≡ true
        here = subst (λ (x : ℕ). has (m.order x) e ≡ true) l (T.proper.ordered.listed e (λ y. omega (arith, y, l)))

  apart : (b k : ℕ) → m.lists b ≡ k → (k ≡ 3 → ⊥) → e ≡ b → ⊥
  apart b k z d y = d (sym z ∙ ap m.lists (sym y) ∙ l)

  room_free : full m ≡ false → returns (as_it_is (off e m)) e 2 ≡ returns (as_it_is m) e 2
  room_free f = returns_eq (as_it_is (off e m)) (as_it_is m) e (unfold as_it_is in slot_same) (unfold as_it_is in refl)
      (unfold as_it_is in ap (λ (s : ℕ). move_to e 2 s (off e m)) slot_same ∙ back_none (free_slot m))

  room_over : 1 ≤ size m 1 → returns (trimmed_room (put_out_to (off e m) (back m 1) 3)) e 2 ≡ returns (put_out_to m (back m 1) 3) e 2
  room_over h =
      let b = back m 1 in let k = back_list m T.proper.seated.indexed T.proper.ordered 1 (omega arith) h in let d = apart b 1 k (omega arith) in
      returns_eq (trimmed_room (put_out_to (off e m) b 3)) (put_out_to m b 3) e
      (unfold trimmed_room put_out_to off in refl) (unfold trimmed_room put_out_to off in refl)
      (unfold trimmed_room put_out_to in ap (λ (n : Mem). move_to e 2 ((off e m).slots b) n) (not_trimmed b d k) ∙ unfold off in back_to_lem b d (m.slots b) k)

  room_under : 1 ≤ size m 2 → returns (put_out (off e m) (back m 2)) e 2 ≡ returns (put_out m (back m 2)) e 2
  room_under h =
      let b = back m 2 in let k = back_list m T.proper.seated.indexed T.proper.ordered 2 (omega arith) h in let d = apart b 2 k (omega arith) in
      returns_eq (put_out (off e m) b) (put_out m b) e (unfold put_out off in refl) (unfold put_out off in refl)
      (unfold put_out off in back_off b d (m.slots b) k)

  -- a page on A1out comes back as by the short form
  pub short_returns : returns (make_room (off e m)) e 2 ≡ returns (short_room m) e 2
  unfolding make_room short_room
  short_returns = by_test (full m)
      (λ f. by_test (ltb (first_of m) (size m 1))
      (λ v. simp (full_same ∙ f, f, over_same ∙ v, v, back_same 1 (omega arith)) (room_over (omega (arith, ltb-true (first_of m) (size m 1) v))))
      (λ v. let h : capacity_of m ≤ held m = unfold full in leb-true (capacity_of m) (held m) f in
      simp (full_same ∙ f, f, over_same ∙ v, v, back_same 2 (omega arith)) (room_under (omega (arith, ltb-false (first_of m) (size m 1) v, held_sizes m T.proper.seated.indexed T.proper.ordered, T.kin)))))
      (λ f. simp (full_same ∙ f, f) (room_free f))
