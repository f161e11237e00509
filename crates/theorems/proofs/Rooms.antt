-- Room for a page, and what comes there: from the operations, for every policy.
use Prim.Native.Nat.{ℕ, suc, ◌≤◌, ◌<◌}
use mathlib.Core.Path.{◌≡◌, refl, sym, ap, ◌∙◌}
use mathlib.Core.Bool.{Bool, true, false}
use mathlib.Core.List.{List, [], ◌∷◌}
use native.Mathlib.Omega.{arith}
use lib.Dec.{ltb}
use borrow.Author.Tests.{lt-ltb, le-ltb, ltb-true, ltb-false}
use Rattle.meaning.specs.Neighbours.{NONE, put, has, ahead, before}
use Rattle.meaning.specs.Layout.{is_held}
use Rattle.meaning.specs.Mem.{Mem, held, entry_of, list_on, off, push, hang, with_slot, to_front, clear, fill, enter, lowest, free_slot, back, capacity_of, entry_count}
use Rattle.invariants.specs.Places.{Fine}
use Rattle.invariants.specs.Proper.{Indexed, Ordered, Slotted, up_to, Seated, Proper}
use Rattle.invariants.specs.Vacant.{Gap, Vacant}
use Rattle.invariants.proofs.Numbered.{held_used}
use Rattle.invariants.proofs.Lists.{split, eqb_same, no_true}
use Rattle.invariants.proofs.Numbers.{by_test}
use Rattle.invariants.proofs.Entry.{entry_at, entry_none}
use Rattle.invariants.proofs.Ends.{last_in_lem}
use Rattle.invariants.proofs.Fine.{off_fine, fill_fine}
use Rattle.theorems.specs.Change.{placed}
use Rattle.theorems.proofs.Operations.{front_indexed, front_ordered, front_slotted, front_held, clear_indexed, clear_ordered, clear_slotted, clear_held, ghost_slotted, ghost_held, placed_indexed, placed_slotted, placed_held, fill_ordered, free_slot_lem, lowest_free}

-- slots in use, by another test that says the same
pub slotted_as : {G H : ℕ → Bool} (m : Mem) → ((s : ℕ) → G s ≡ H s) → Slotted G m → Slotted H m
slotted_as {G} {H} m e S = record {
  at = S.at;
  there = λ s h. S.there s (e s ∙ h);
  back = λ i h. (sym (e (m.slots i)) ∙ (S.back i h).0, (S.back i h).1);
}

-- a page that is held, to the front of a list of held pages
pub front_proper : (m : Mem) → Proper m → (e j : ℕ) → (m.lists e ≡ 0 → ⊥) → (1 ≤ j) × (j ≤ 4) → is_held j ≡ is_held (m.lists e) → Proper (to_front e j m)
front_proper m P e j u hj alike =
    let I = P.seated.indexed in let O = P.ordered in
    record {
      seated = record {
        indexed = front_indexed m I O e j u hj alike;
        slotted = slotted_as (to_front e j m) (λ s. ap (λ (n : ℕ). up_to n s) (sym (front_held m I O e j u hj alike))) (front_slotted m I O e j u hj (up_to (held m)) alike P.seated.slotted);
      };
      ordered = front_ordered m I O e j u hj;
    }

-- ── Room ──

-- nothing put out: the lowest free slot
pub gap_as_is : (m : Mem) → Seated m → held m ≤ capacity_of m → Gap (free_slot m) m
gap_as_is m P h = rw (free_slot_lem m P h) (record {
  indexed = P.indexed;
  fits = omega arith;
  slotted = slotted_as m (λ s. split s (held m)
      (λ z t. simp t (le-ltb s (held m) (omega (arith, z))))
      (λ z t. simp t (by_lt s (held m) z))) P.slotted;
})
  where
    by_lt : (s n : ℕ) → (s ≡ n → ⊥) → ltb s n ≡ ltb s (suc n)
    by_lt s n z = by_test (ltb s n)
        (λ t. t ∙ sym (lt-ltb s (suc n) (omega (arith, ltb-true s n t))))
        (λ t. t ∙ sym (le-ltb s (suc n) (omega (arith, z, ltb-false s n t))))

-- a held entry put out and removed
pub gap_out : (m : Mem) → Seated m → (e : ℕ) → is_held (m.lists e) ≡ true → Fine (off e m) → Gap (m.slots e) (clear e m)
gap_out m P e h F =
    let I = P.indexed in let u = held_used (m.lists e) h in
    let n = clear_held m I e u h in
    record {
      indexed = clear_indexed m I e u F;
      fits = omega (arith, n, ltb-true (m.slots e) (held m) (P.slotted.back e h).0);
      slotted = slotted_as (clear e m) (λ s. ap (λ (k : ℕ). put (up_to k) (m.slots e) false s) n) (clear_slotted m I e u (up_to (held m)) h P.slotted);
    }

-- a held entry put out and removed, in a directory with lists
pub vacant_out : (m : Mem) → Proper m → (e : ℕ) → is_held (m.lists e) ≡ true → Vacant (m.slots e) (clear e m)
vacant_out m P e h =
    let u = held_used (m.lists e) h in
    let I = P.seated.indexed in
    record { gap = gap_out m P.seated e h (off_fine m I.fine e (P.ordered.listed e u)); ordered = clear_ordered m I e u P.ordered }

-- ── A ghost removed ──

module _ (m : Mem) (I : Indexed m) (O : Ordered m) (e : ℕ) (u : m.lists e ≡ 0 → ⊥) where
  -- a removed entry leaves the pages and chains right
  pub removed : Indexed (clear e m)
  removed = clear_indexed m I e u (off_fine m I.fine e (O.listed e u))

-- a ghost removed from a directory with lists
pub ghost_gone : (m : Mem) → Proper m → (e : ℕ) → (m.lists e ≡ 0 → ⊥) → is_held (m.lists e) ≡ false → Proper (clear e m)
ghost_gone m P e u g =
    let I = P.seated.indexed in
    record {
      seated = record {
        indexed = removed m I P.ordered e u;
        slotted = slotted_as (clear e m) (λ s. ap (λ (n : ℕ). up_to n s) (sym (ghost_held m I e u g))) (ghost_slotted m I e u g (up_to (held m)) P.seated.slotted);
      };
      ordered = clear_ordered m I e u P.ordered;
    }

-- a ghost removed from a directory with room
pub trim_vacant : (m : Mem) (s : ℕ) → Vacant s m → (e : ℕ) → (m.lists e ≡ 0 → ⊥) → is_held (m.lists e) ≡ false → Vacant s (clear e m)
trim_vacant m s W e u g =
    let I = W.gap.indexed in let n = ghost_held m I e u g in
    record {
      gap = record {
        indexed = removed m I W.ordered e u;
        fits = rw n W.gap.fits;
        slotted = slotted_as (clear e m) (λ x. ap (λ (k : ℕ). put (up_to (suc k)) s false x) (sym n)) (ghost_slotted m I e u g (put (up_to (suc (held m))) s false) W.gap.slotted);
      };
      ordered = clear_ordered m I e u W.ordered;
    }

-- ── A new page where there is room ──

-- the slots are full again
pub slots_full : {s h k : ℕ} → s ≤ h → k ≡ suc h → (x : ℕ) → put (put (up_to (suc h)) s false) s true x ≡ up_to k x
slots_full {s} {h} {k} fits n x = split x s
    (λ z t. simp t (sym (rw n (lt-ltb x (suc h) (omega (arith, fits, z))))))
    (λ z t. simp t (ap (λ (y : ℕ). ltb x y) (sym n)))

-- a new page where there is room, with or without orders
pub placed_seated : (m : Mem) (e p j s : ℕ) (o : ℕ → List ℕ) → Gap s m → e < entry_count m → m.lists e ≡ 0 → p < NONE → 1 ≤ j → is_held j ≡ true
    → Fine (placed e p j s o m) → Seated (placed e p j s o m)
placed_seated m e p j s o G he idle hp hj hh F =
    let I = G.indexed in
    record {
      indexed = placed_indexed m I e p j s o he idle hp hj hh F;
      slotted = slotted_as (placed e p j s o m) (slots_full G.fits (placed_held m I e p j s o he idle hp hj hh))
          (placed_slotted m I e p j s o he idle hp hj hh (put (up_to (suc (held m))) s false) (simp (eqb_same s)) G.slotted);
    }

-- a new page where there is room, at the front of a list
pub enter_proper : (m : Mem) (s p j f : ℕ) → Vacant s m → f < entry_count m → m.lists f ≡ 0 → p < NONE → ((i : ℕ) → m.pages i ≡ p → ⊥) → (1 ≤ j) × (j ≤ 4) → is_held j ≡ true → Proper (enter p j s m)
unfolding enter placed
enter_proper m s p j f W hf free hp absent hj hh =
    let k = lowest_free m f hf free in let e = lowest m in
    let S = placed_seated m e p j s (put m.order j (e ∷ m.order j)) W.gap k.0 k.1 hp hj.0 hh
    (unfold fill push with_slot hang in fill_fine m W.gap.indexed.fine e p j s k.0 k.1 (W.ordered.idle e k.1) hp absent hj) in
    record { seated = unfold fill push with_slot hang in S; ordered = fill_ordered m W.ordered e p j s hj.0 }

-- ── The entry of a page ──

module _ (m : Mem) (I : Indexed m) (p : ℕ) (hp : p < NONE) where
  -- an entry with a page is one of the directory's
  inside : (i : ℕ) → m.pages i ≡ p → i < entry_count m
  inside i z = by_test (ltb i (entry_count m)) (λ t. ltb-true i (entry_count m) t) (λ t. absurd (omega (arith, z, I.canonical.pages i (ltb-false i (entry_count m) t))))

  -- the entry of a page is the one that has it
  pub entry_is : (e : ℕ) → m.pages e ≡ p → entry_of m p ≡ e
  entry_is e z = entry_at m I.fine p e (λ y. omega arith) (inside e z) z

  -- the list of a page is that of its entry
  pub list_is : (e : ℕ) → m.pages e ≡ p → list_on m p ≡ m.lists e
  unfolding list_on
  list_is e z = ap m.lists (entry_is e z)

  -- the list of a page that no entry has is 0
  pub list_none : ((i : ℕ) → m.pages i ≡ p → ⊥) → list_on m p ≡ 0
  unfolding list_on
  list_none a = ap m.lists (entry_none m p (λ i l. a i)) ∙ I.canonical.lists (entry_count m) (omega arith)

  -- an entry has the page, or none has it
  pub entry_cases : {Q : Type 0} → ((e : ℕ) → m.pages e ≡ p → entry_of m p ≡ e → list_on m p ≡ m.lists e → Q) → (((i : ℕ) → m.pages i ≡ p → ⊥) → list_on m p ≡ 0 → Q) → Q
  entry_cases {Q} f g = split (m.pages (entry_of m p)) p
      (λ z t. f (entry_of m p) z refl (list_is (entry_of m p) z))
      (λ z t. let a : (i : ℕ) → m.pages i ≡ p → ⊥ = λ i y. z (ap m.pages (entry_is i y) ∙ y) in g a (list_none a))

-- ── The back of a list ──

-- the back of a list that has something is on it
pub back_on : (m : Mem) → Indexed m → (j x : ℕ) → has (m.order j) x ≡ true → has (m.order j) (back m j) ≡ true
unfolding back has ahead
back_on m I j x h = go (m.order j) h none_in
  where
    none_in : has (m.order j) NONE ≡ false
    none_in = by_test (has (m.order j) NONE) (λ t. absurd (omega (arith, I.fine.few, (I.fine.linked.member j NONE t).0))) (λ t. t)

    go : (L : List ℕ) → has L x ≡ true → has L NONE ≡ false → has L (before L NONE) ≡ true
    go [] t n = no_true t
    go (y ∷ L) t n = split NONE y
        (λ z s. no_true (sym n ∙ simp s))
        (λ z s. simp s (last_in_lem y L (sym (simp s) ∙ n)))
