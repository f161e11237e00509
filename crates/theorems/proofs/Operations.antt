-- What the operations of the policies keep: once for each operation, and not for each policy.
use Prim.Native.Nat.{ℕ, suc, ◌≤◌, ◌<◌}
use mathlib.Core.Path.{◌≡◌, refl, sym, ap, ◌∙◌}
use mathlib.Core.Bool.{Bool, true, false, not}
use mathlib.Core.List.{List, ◌∷◌}
use native.Mathlib.Omega.{arith}
use lib.Dec.{ltb}
use borrow.Author.Tests.{eq-eqb, ne_eqb, lt-ltb, le-ltb, ltb-true, ltb-false}
use Rattle.meaning.specs.Base.{tally}
use Rattle.meaning.specs.Neighbours.{NONE, put, has, remove}
use Rattle.meaning.specs.Layout.{is_held}
use Rattle.meaning.specs.Mem.{Mem, home, held, off, push, hang, unhang, with_slot, with_mark, blanked, to_front, clear, fill, lowest, taken, free_slot, capacity_of, entry_count}
use Rattle.invariants.specs.Places.{Fine}
use Rattle.invariants.specs.Proper.{Indexed, Ordered, Slotted, up_to, Seated, Sits}
use Rattle.invariants.proofs.Numbered.{held_used}
use Rattle.invariants.proofs.Lists.{split, eqb_same, no_true, has_remove}
use Rattle.invariants.proofs.Numbers.{by_test, find_hit, first_at, some_hit, some_miss, tally_ext, tally_one}
use Rattle.invariants.proofs.Fine.{unhang_fine, blanked_fine, front_fine}
use Rattle.theorems.specs.Change.{Moved, Quiet, placed}

-- what the lists of a changed family have: others than e stay where they are
module _ (ord : ℕ → List ℕ) (j e : ℕ) where
  left_has : (l i : ℕ) → (i ≡ e → ⊥) → has (put ord j (remove e (ord j)) l) i ≡ has (ord l) i
  left_has l i d = split l j
      (λ z t. simp t (has_remove e i (ord j) ∙ simp (ne_eqb i e d) (ap (λ (x : ℕ). has (ord x) i) (sym z))))
      (λ z t. simp t)

  joined_has : (l i : ℕ) → (i ≡ e → ⊥) → has (put ord j (e ∷ ord j) l) i ≡ has (ord l) i
  unfolding has
  joined_has l i d = split l j
      (λ z t. simp (t, ne_eqb i e d) (ap (λ (x : ℕ). has (ord x) i) (sym z)))
      (λ z t. simp t)

  joined_here : has (put ord j (e ∷ ord j) j) e ≡ true
  unfolding has
  joined_here = simp (eqb_same j, eqb_same e)

-- a free entry holds nothing
pub free_held : is_held 0 ≡ false
unfolding is_held
free_held = refl

module _ (m : Mem) (I : Indexed m) where
  -- an entry with a list is one of the directory's
  pub within : (i : ℕ) → (m.lists i ≡ 0 → ⊥) → i < entry_count m
  within i u = by_test (ltb i (entry_count m)) (λ t. ltb-true i (entry_count m) t) (λ t. absurd (u (I.canonical.lists i (ltb-false i (entry_count m) t))))

  -- an entry with a list has a page
  pub paged : (i : ℕ) → (m.lists i ≡ 0 → ⊥) → m.pages i ≡ NONE → ⊥
  paged i u z = u (I.free i z).0

  -- ── to_front ──
  module _ (O : Ordered m) (e j : ℕ) (u : m.lists e ≡ 0 → ⊥) (hj : (1 ≤ j) × (j ≤ 4)) where
    -- to_front changes the list of its entry alone
    pub front_moved : Moved e j m (to_front e j m)
    unfolding to_front push off
    front_moved = record { inside = within e u; size = refl; lists = λ i. split i e (λ z t. simp t) (λ z t. simp t); pages = λ i d. refl; slots = λ i d. refl }

    -- to_front keeps the pages and chains
    pub front_indexed : is_held j ≡ is_held (m.lists e) → Indexed (to_front e j m)
    front_indexed alike = record {
      fine = front_fine m I.fine e j (O.listed e u) hj;
      canonical = let K = I.canonical in unfold to_front push off in record {
        tops = K.tops;
        pages = K.pages;
        slots = K.slots;
        marks = K.marks;
        lists = λ i h. let d : i ≡ e → ⊥ = λ z. omega (arith, z, within e u) in simp (ne_eqb i e d) (K.lists i h);
      };
      hung = unfold to_front push off in I.hung;
      free = unfold to_front push off in (λ i z. let d : i ≡ e → ⊥ = λ y. paged e u (ap m.pages (sym y) ∙ z) in simp (ne_eqb i e d) (I.free i z));
      ghost = unfold to_front push off in (λ i z. split i e
          (λ y t. I.ghost i (ap (λ (x : ℕ). is_held (m.lists x)) y ∙ sym alike ∙ (simp t at z)))
          (λ y t. I.ghost i (simp t at z)));
    }

    -- to_front keeps the lists
    pub front_ordered : Ordered (to_front e j m)
    front_ordered = record {
      listed = unfold to_front push off in (λ i z. split i e
          (λ y t. simp (y, eqb_same e) (joined_here (put m.order (m.lists e) (remove e (m.order (m.lists e)))) j e))
          (λ y t. simp t (joined_has (put m.order (m.lists e) (remove e (m.order (m.lists e)))) j e (m.lists i) i y
          ∙ left_has m.order (m.lists e) e (m.lists i) i y ∙ O.listed i (simp t at z))));
      idle = unfold to_front push off in (λ i z. split i e
          (λ y t. absurd (omega (arith, simp t at z)))
          (λ y t. O.idle i (simp t at z)));
    }

    -- to_front keeps the slots
    pub front_slotted : (H : ℕ → Bool) → is_held j ≡ is_held (m.lists e) → Slotted H m → Slotted H (to_front e j m)
    front_slotted H alike S = unfold to_front push off in record {
      at = S.at;
      there = λ s h. let k = S.there s h in (same (S.at s) ∙ k.0, k.1);
      back = λ i h. S.back i (sym (same i) ∙ h);
    }
      where
        same : (i : ℕ) → is_held (put (put m.lists e 0) e j i) ≡ is_held (m.lists i)
        same i = split i e (λ z t. simp t (alike ∙ ap (λ (x : ℕ). is_held (m.lists x)) (sym z))) (λ z t. simp t)

    -- to_front keeps the number of held pages
    pub front_held : is_held j ≡ is_held (m.lists e) → held (to_front e j m) ≡ held m
    unfolding held
    front_held alike = unfold to_front push off in tally_ext (entry_count m) _ _ (λ i l. split i e
        (λ z t. simp t (alike ∙ ap (λ (x : ℕ). is_held (m.lists x)) (sym z))) (λ z t. simp t))

  -- ── clear ──
  module _ (e : ℕ) (u : m.lists e ≡ 0 → ⊥) where
    -- clear frees its entry, and changes no other
    pub clear_moved : Moved e 0 m (clear e m)
    unfolding clear blanked with_mark with_slot unhang off
    clear_moved = record { inside = within e u; size = refl; lists = λ i. refl; pages = λ i d. simp (ne_eqb i e d); slots = λ i d. simp (ne_eqb i e d) }

    -- a cleared entry has no page
    pub clear_bare : (clear e m).pages e ≡ NONE
    unfolding clear blanked with_mark with_slot unhang off
    clear_bare = simp (eqb_same e)

    -- clear leaves the header, and raises no mark
    pub clear_quiet : Quiet m (clear e m)
    unfolding clear blanked with_mark with_slot unhang off
    clear_quiet = record { tops = refl; marks = λ i. split i e (λ z t. simp t (omega arith)) (λ z t. simp t (omega arith)) }

    -- clear keeps the pages and chains, with or without orders
    pub clear_indexed : Fine (off e m) → Indexed (clear e m)
    clear_indexed F = record {
      fine = unfold clear in blanked_fine (unhang e (off e m)) (unhang_fine (off e m) F e (unfold off in I.hung e (paged e u))) e;
      canonical = let K = I.canonical in unfold clear blanked with_mark with_slot unhang off in record {
        tops = K.tops;
        pages = λ i h. split i e (λ z t. simp t) (λ z t. simp t (K.pages i h));
        lists = λ i h. split i e (λ z t. simp t) (λ z t. simp t (K.lists i h));
        slots = λ i h. split i e (λ z t. simp t) (λ z t. simp t (K.slots i h));
        marks = λ i h. split i e (λ z t. simp t) (λ z t. simp t (K.marks i h));
      };
      hung = unfold clear blanked with_mark with_slot unhang off in (λ i z. split i e
          (λ y t. absurd (z (simp t)))
          (λ y t. simp t (left_has m.chained (home m (m.pages e)) e (home m (m.pages i)) i y ∙ I.hung i (simp t at z))));
      free = unfold clear blanked with_mark with_slot unhang off in (λ i z. split i e
          (λ y t. simp t (refl, refl))
          (λ y t. simp t (I.free i (simp t at z))));
      ghost = unfold clear blanked with_mark with_slot unhang off in (λ i z. split i e
          (λ y t. simp t)
          (λ y t. simp t (I.ghost i (simp t at z))));
    }

    -- after clear an entry without a list has no page, as before
    pub clear_idle : ((i : ℕ) → m.lists i ≡ 0 → m.pages i ≡ NONE) → (i : ℕ) → (clear e m).lists i ≡ 0 → (clear e m).pages i ≡ NONE
    clear_idle idle = unfold clear blanked with_mark with_slot unhang off in (λ i z. split i e
        (λ y t. simp t)
        (λ y t. simp t (idle i (simp t at z))))

    -- clear keeps the lists
    pub clear_ordered : Ordered m → Ordered (clear e m)
    clear_ordered O = record {
      listed = unfold clear blanked with_mark with_slot unhang off in (λ i z. split i e
          (λ y t. absurd (z (simp t)))
          (λ y t. simp t (left_has m.order (m.lists e) e (m.lists i) i y ∙ O.listed i (simp t at z))));
      idle = clear_idle O.idle;
    }

    -- a held page that is removed leaves its slot
    pub clear_slotted : (H : ℕ → Bool) → is_held (m.lists e) ≡ true → Slotted H m → Slotted (put H (m.slots e) false) (clear e m)
    clear_slotted H h S = unfold clear blanked with_mark with_slot unhang off is_held in record {
      at = S.at;
      there = λ s g. split s (m.slots e)
          (λ z t. no_true (simp t at g))
          (λ z t. let k = S.there s (simp t at g) in
          let d : S.at s ≡ e → ⊥ = λ y. z (sym k.1 ∙ ap m.slots y) in
          (simp (ne_eqb (S.at s) e d) k.0, simp (ne_eqb (S.at s) e d) k.1));
      back = λ i g. split i e
          (λ z t. no_true (simp t at g))
          (λ z t. let k = S.back i (simp t at g) in
          let d : m.slots i ≡ m.slots e → ⊥ = λ y. z (sym k.1 ∙ ap S.at y ∙ (S.back e h).1) in
          (simp (t, ne_eqb (m.slots i) (m.slots e) d) k.0, simp t k.1));
    }

    -- clearing a held page leaves one held page less
    pub clear_held : is_held (m.lists e) ≡ true → held m ≡ suc (held (clear e m))
    unfolding held is_held
    clear_held h = unfold clear blanked with_mark with_slot unhang off in
        tally_one (entry_count m) (λ i. is_held (m.lists i)) (λ i. is_held (put m.lists e 0 i)) e (within e u) h (simp (eqb_same e)) (λ i d. simp (ne_eqb i e d))

    -- ── a ghost removed ──
    module _ (g : is_held (m.lists e) ≡ false) where
      alike : (i : ℕ) → is_held ((clear e m).lists i) ≡ is_held (m.lists i)
      alike i = ap is_held (clear_moved.lists i) ∙ split i e
          (λ z t. simp t (free_held ∙ sym (ap (λ (x : ℕ). is_held (m.lists x)) z ∙ g)))
          (λ z t. simp t)

      other : (i : ℕ) → is_held (m.lists i) ≡ true → i ≡ e → ⊥
      other i h y = no_true (sym g ∙ ap (λ (x : ℕ). is_held (m.lists x)) (sym y) ∙ h)

      -- a ghost that is removed changes no slot
      pub ghost_slotted : (H : ℕ → Bool) → Slotted H m → Slotted H (clear e m)
      ghost_slotted H S = record {
        at = S.at;
        there = λ s h. let k = S.there s h in (alike (S.at s) ∙ k.0, clear_moved.slots (S.at s) (other (S.at s) k.0) ∙ k.1);
        back = λ i h.
            let g = sym (alike i) ∙ h in let k = S.back i g in
            let q = clear_moved.slots i (other i g) in
            (ap H q ∙ k.0, ap S.at q ∙ k.1);
      }

      -- removing a ghost leaves as many held pages
      pub ghost_held : held (clear e m) ≡ held m
      unfolding held
      ghost_held = ap (λ (f : ℕ → ℕ). tally (f 2) (λ i. is_held ((clear e m).lists i))) clear_quiet.tops
          ∙ tally_ext (entry_count m) (λ i. is_held ((clear e m).lists i)) (λ i. is_held (m.lists i)) (λ i l. alike i)

  -- ── placed: an entry that is free gets a page that no entry has ──
  module _ (e p j s : ℕ) (o : ℕ → List ℕ) (he : e < entry_count m) (idle : m.lists e ≡ 0) (hp : p < NONE) (hj : 1 ≤ j) (hh : is_held j ≡ true) where
    -- a new page changes its entry alone
    pub placed_moved : Moved e j m (placed e p j s o m)
    unfolding placed
    placed_moved = record { inside = he; size = refl; lists = λ i. refl; pages = λ i d. simp (ne_eqb i e d); slots = λ i d. simp (ne_eqb i e d) }

    -- a new page keeps the pages and chains right, with or without orders
    pub placed_indexed : Fine (placed e p j s o m) → Indexed (placed e p j s o m)
    placed_indexed F = record {
      fine = F;
      canonical = let K = I.canonical in unfold placed in record {
        tops = K.tops;
        marks = K.marks;
        pages = λ i h. let d : i ≡ e → ⊥ = λ z. omega (arith, z) in simp (ne_eqb i e d) (K.pages i h);
        lists = λ i h. let d : i ≡ e → ⊥ = λ z. omega (arith, z) in simp (ne_eqb i e d) (K.lists i h);
        slots = λ i h. let d : i ≡ e → ⊥ = λ z. omega (arith, z) in simp (ne_eqb i e d) (K.slots i h);
      };
      hung = unfold placed in (λ i z. split i e
          (λ y t. simp (y, eqb_same e) (joined_here m.chained (home m p) e))
          (λ y t. simp t (joined_has m.chained (home m p) e (home m (m.pages i)) i y ∙ I.hung i (simp t at z))));
      free = unfold placed in (λ i z. split i e
          (λ y t. absurd (omega (arith, simp t at z)))
          (λ y t. simp t (I.free i (simp t at z))));
      ghost = unfold placed in (λ i z. split i e
          (λ y t. no_true (sym (simp t at z) ∙ hh))
          (λ y t. simp t (I.ghost i (simp t at z))));
    }

    -- after a new page an entry without a list has no page, as before
    pub placed_idle : ((i : ℕ) → m.lists i ≡ 0 → m.pages i ≡ NONE) → (i : ℕ) → (placed e p j s o m).lists i ≡ 0 → (placed e p j s o m).pages i ≡ NONE
    placed_idle rest = unfold placed in (λ i z. split i e
        (λ y t. absurd (omega (arith, simp t at z)))
        (λ y t. simp t (rest i (simp t at z))))

    free_not : is_held (m.lists e) ≡ false
    free_not = ap is_held idle ∙ free_held

    -- a new page takes its slot
    pub placed_slotted : (H : ℕ → Bool) → H s ≡ false → Slotted H m → Slotted (put H s true) (placed e p j s o m)
    placed_slotted H off S = unfold placed in record {
      at = put S.at s e;
      there = λ x g. split x s
          (λ z t. simp (t, eqb_same e) (hh, sym z))
          (λ z t. let k = S.there x (simp t at g) in
          let d : S.at x ≡ e → ⊥ = λ y. no_true (sym free_not ∙ ap (λ (i : ℕ). is_held (m.lists i)) (sym y) ∙ k.0) in
          simp (t, ne_eqb (S.at x) e d) k);
      back = λ i g. split i e
          (λ z t. simp (t, eqb_same s) (refl, sym z))
          (λ z t. let k = S.back i (simp t at g) in
          let d : m.slots i ≡ s → ⊥ = λ y. no_true (sym off ∙ ap H (sym y) ∙ k.0) in
          simp (t, ne_eqb (m.slots i) s d) k);
    }

    -- a new page is one held page more
    pub placed_held : held (placed e p j s o m) ≡ suc (held m)
    unfolding held
    placed_held = unfold placed in
        tally_one (entry_count m) (λ i. is_held (put m.lists e j i)) (λ i. is_held (m.lists i)) e he (simp (eqb_same e) hh) free_not (λ i d. simp (ne_eqb i e d))

-- a new page joins its list
pub fill_ordered : (m : Mem) → Ordered m → (e p j s : ℕ) → 1 ≤ j → Ordered (fill e p j s m)
fill_ordered m O e p j s hj = record {
  listed = unfold fill push with_slot hang in (λ i z. split i e
      (λ y t. simp (y, eqb_same e) (joined_here m.order j e))
      (λ y t. simp t (joined_has m.order j e (m.lists i) i y ∙ O.listed i (simp t at z))));
  idle = unfold fill push with_slot hang in (λ i z. split i e
      (λ y t. absurd (omega (arith, simp t at z)))
      (λ y t. simp t (O.idle i (simp t at z))));
}

-- ── What a seated directory has ──

module _ (m : Mem) (P : Seated m) where
  -- no two held pages share a slot
  pub slots_apart : {q r s : ℕ} → Sits q s m → Sits r s m → q ≡ r
  slots_apart a b =
      let S = P.slotted in
      sym a.page ∙ ap m.pages (sym (S.back a.entry a.held).1 ∙ ap S.at (a.slot ∙ sym b.slot) ∙ (S.back b.entry b.held).1) ∙ b.page

  -- no page is in two slots
  pub pages_apart : {q s t : ℕ} → Sits q s m → Sits q t m → s ≡ t
  pages_apart a b =
      sym a.slot ∙ ap m.slots (P.indexed.fine.apart a.entry b.entry (paged m P.indexed a.entry (held_used _ a.held)) (a.page ∙ sym b.page)) ∙ b.slot

  -- NONE is never held
  pub real : {q s : ℕ} → Sits q s m → q ≡ NONE → ⊥
  real a z = paged m P.indexed a.entry (held_used _ a.held) (a.page ∙ z)

  taken_below : (s : ℕ) → s < held m → taken m s ≡ true
  unfolding taken
  taken_below s h =
      let k = P.slotted.there s (lt-ltb s (held m) h) in
      let i = P.slotted.at s in
      some_hit (entry_count m) _ i (within m P.indexed i (held_used _ k.0)) (simp (k.0, eq-eqb (m.slots i) s k.1))

  free_above : (s : ℕ) → held m ≤ s → taken m s ≡ false
  unfolding taken
  free_above s h = some_miss (entry_count m) _ (λ i l. by_test (is_held (m.lists i))
      (λ g. let d : m.slots i ≡ s → ⊥ = λ z. no_true (sym (le-ltb s (held m) h) ∙ ap (up_to (held m)) (sym z) ∙ (P.slotted.back i g).0) in
      simp (g, ne_eqb (m.slots i) s d))
      (λ g. simp g))

  -- the lowest free slot is the number of held pages
  pub free_slot_lem : held m ≤ capacity_of m → free_slot m ≡ held m
  unfolding free_slot
  free_slot_lem h = first_at (λ s. not (taken m s)) 0 (capacity_of m) (held m) (omega arith) (omega arith)
      (λ s l g. simp (taken_below s g)) (λ l. simp (free_above (held m) (omega arith)))

-- where some entry is free, the lowest is, and has no page
pub lowest_free : (m : Mem) (e : ℕ) → e < entry_count m → m.lists e ≡ 0 → (lowest m < entry_count m) × (m.lists (lowest m) ≡ 0)
unfolding lowest
lowest_free m e h z = let k = find_hit (entry_count m) m.lists 0 e h z in (k.1, k.0)
