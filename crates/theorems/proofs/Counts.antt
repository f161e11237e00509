-- How many entries are on each list, and how that changes: one law for all operations.
use Prim.Native.Nat.{ℕ, zero, suc, ◌+◌, ◌≤◌, ◌<◌}
use mathlib.Core.Path.{◌≡◌, refl, sym, ap, ◌∙◌, subst}
use mathlib.Core.Bool.{Bool, true, false, cond}
use native.Mathlib.Nat.{not-suc-le-zero}
use native.Mathlib.Omega.{arith}
use lib.Dec.{eqb}
use borrow.Author.Tests.{eq-eqb, ne_eqb}
use Rattle.meaning.specs.Base.{tally, one_if}
use Rattle.meaning.specs.Neighbours.{has}
use Rattle.meaning.specs.Layout.{is_held}
use Rattle.meaning.specs.Mem.{Mem, held, size, back, entry_count}
use Rattle.invariants.specs.Proper.{Indexed, Ordered}
use Rattle.invariants.specs.Whole.{members}
use Rattle.invariants.proofs.Lists.{split, eqb_same, no_true}
use Rattle.invariants.proofs.Families.{not_so}
use Rattle.invariants.proofs.Counted.{tally_has, tally_or}
use Rattle.invariants.proofs.Numbers.{by_test, tally_le, tally_ext, tally_one}
use Rattle.theorems.specs.Change.{Moved}
use Rattle.theorems.specs.Sizes.{Resized}
use Rattle.theorems.proofs.Operations.{within}
use Rattle.theorems.proofs.Rooms.{back_on}

-- a test that changes at e alone
tally_put : (n : ℕ) (f g : ℕ → Bool) (e : ℕ) → e < n → ((i : ℕ) → (i ≡ e → ⊥) → f i ≡ g i) → tally n g + one_if (f e) ≡ tally n f + one_if (g e)
unfolding one_if
tally_put n f g e h d = by_test (f e)
    (λ a. by_test (g e)
    (λ b. simp (a, b) (omega (arith, same (a ∙ sym b))))
    (λ b. simp (a, b) (omega (arith, tally_one n f g e h a b d))))
    (λ a. by_test (g e)
    (λ b. simp (a, b) (omega (arith, tally_one n g f e h b a (λ i z. sym (d i z)))))
    (λ b. simp (a, b) (omega (arith, same (a ∙ sym b)))))
  where
    same : f e ≡ g e → tally n f ≡ tally n g
    same z = tally_ext n f g (λ i l. split i e (λ y t. ap f y ∙ z ∙ ap g (sym y)) (λ y t. d i y))

-- an entry goes from list k to list j
members_after : {e j : ℕ} {m n : Mem} → Moved e j m n → (k : ℕ) → m.lists e ≡ k → (x : ℕ) → members n x + one_if (eqb k x) ≡ members m x + one_if (eqb j x)
unfolding members
members_after {e} {j} {m} {n} r k z x =
    rw r.size
    (subst (λ (y : ℕ). tally (entry_count m) (λ i. eqb (n.lists i) x) + one_if (eqb y x) ≡ tally (entry_count m) (λ i. eqb (m.lists i) x) + one_if (eqb j x)) z
    (subst (λ (y : ℕ). tally (entry_count m) (λ i. eqb (n.lists i) x) + one_if (eqb (m.lists e) x) ≡ tally (entry_count m) (λ i. eqb (m.lists i) x) + one_if (eqb y x)) (r.lists e ∙ simp (eqb_same e))
    (tally_put (entry_count m) (λ i. eqb (m.lists i) x) (λ i. eqb (n.lists i) x) e r.inside (λ i d. sym (ap (λ (y : ℕ). eqb y x) (r.lists i ∙ simp (ne_eqb i e d)))))))

-- the held pages are those on lists 1 and 2
pub held_members : (m : Mem) → held m ≡ members m 1 + members m 2
unfolding held is_held members
held_members m = sym (tally_or (entry_count m) (λ i. eqb (m.lists i) 1) (λ i. eqb (m.lists i) 2) (λ i t. split (m.lists i) 1 (λ z s. rw z refl) (λ z s. no_true (sym s ∙ t))))

-- each entry is on one of the four lists or free
tally_five : (n : ℕ) (l : ℕ → ℕ) → ((i : ℕ) → l i ≤ 4)
    → tally n (λ i. eqb (l i) 0) + tally n (λ i. eqb (l i) 1) + tally n (λ i. eqb (l i) 2) + tally n (λ i. eqb (l i) 3) + tally n (λ i. eqb (l i) 4) ≡ n
unfolding tally one_if
tally_five zero l h = refl
tally_five (suc n) l h = go (l n) (h n) (tally_five n l h)
  where
    go : (x : ℕ) → x ≤ 4 → tally n (λ i. eqb (l i) 0) + tally n (λ i. eqb (l i) 1) + tally n (λ i. eqb (l i) 2) + tally n (λ i. eqb (l i) 3) + tally n (λ i. eqb (l i) 4) ≡ n
        → tally n (λ i. eqb (l i) 0) + one_if (eqb x 0) + (tally n (λ i. eqb (l i) 1) + one_if (eqb x 1)) + (tally n (λ i. eqb (l i) 2) + one_if (eqb x 2)) + (tally n (λ i. eqb (l i) 3) + one_if (eqb x 3)) + (tally n (λ i. eqb (l i) 4) + one_if (eqb x 4)) ≡ suc n
    go zero b ih = omega arith
    go (suc zero) b ih = omega arith
    go (suc (suc zero)) b ih = omega arith
    go (suc (suc (suc zero))) b ih = omega arith
    go (suc (suc (suc (suc zero)))) b ih = omega arith
    go (suc (suc (suc (suc (suc x))))) b ih = absurd (omega arith)

tally_some : (n : ℕ) (f : ℕ → Bool) → 1 ≤ tally n f → (i : ℕ) × (i < n) × (f i ≡ true)
unfolding tally one_if
tally_some zero f h = absurd (not-suc-le-zero h)
tally_some (suc n) f h = by_test (f n)
    (λ t. (n, omega arith, t))
    (λ t. let k = tally_some n f (omega (arith, simp t at h)) in (k.0, omega (arith, k.1), k.2))

-- one that passes is counted
pub tally_pos : (n : ℕ) (f : ℕ → Bool) (e : ℕ) → e < n → f e ≡ true → 1 ≤ tally n f
tally_pos n f e h t = omega (arith, tally_one n f (λ i. cond (eqb i e) false (f i)) e h t (simp (eqb_same e)) (λ i d. simp (ne_eqb i e d)))

-- no more pages are held than there are entries
pub held_most : (m : Mem) → held m ≤ entry_count m
unfolding held
held_most m = tally_le (entry_count m) (λ i. is_held (m.lists i))

-- ── Where the lists have orders ──
module _ (m : Mem) (I : Indexed m) (O : Ordered m) where
  -- the size of a list is how many entries have its number
  pub size_members : (j : ℕ) → (j ≡ 0 → ⊥) → size m j ≡ members m j
  unfolding size members
  size_members j nz =
      sym (tally_has (entry_count m) (m.order j) (I.fine.linked.once j) (λ i t. (I.fine.linked.member j i t).0))
      ∙ tally_ext (entry_count m) (has (m.order j)) (λ i. eqb (m.lists i) j) (λ i l. split (m.lists i) j
      (λ z t. simp t (subst (λ (x : ℕ). has (m.order x) i ≡ true) z (O.listed i (λ y. nz (sym z ∙ y)))))
      (λ z t. simp t (not_so _ (λ k. z (I.fine.linked.member j i k).1))))

  -- the held pages, by the sizes
  pub held_sizes : held m ≡ size m 1 + size m 2
  held_sizes = omega (arith, held_members m, size_members 1 (omega arith), size_members 2 (omega arith))

  -- list numbers are 0 to 4
  lists_le : (i : ℕ) → m.lists i ≤ 4
  lists_le i = split (m.lists i) 0 (λ z t. omega (arith, z)) (λ z t. omega (arith, I.fine.range (m.lists i) i (O.listed i z)))

  -- a list that no entry is on is empty
  pub unlisted : (x : ℕ) → (x ≡ 0 → ⊥) → ((i : ℕ) → m.lists i ≡ x → ⊥) → size m x ≡ 0
  unfolding members
  unlisted x nz a = split (size m x) 0 (λ z t. z) (λ z t.
      let k = tally_some (entry_count m) (λ i. eqb (m.lists i) x) (omega (arith, size_members x nz, z)) in
      absurd (a k.0 (split (m.lists k.0) x (λ y s. y) (λ y s. no_true (sym s ∙ k.2)))))

  -- a list that an entry is on is not empty
  pub sized : (i x : ℕ) → (x ≡ 0 → ⊥) → m.lists i ≡ x → 1 ≤ size m x
  unfolding members
  sized i x nz z = omega (arith, size_members x nz, tally_pos (entry_count m) (λ y. eqb (m.lists y) x) i (within m I i (λ y. nz (sym z ∙ y))) (eq-eqb (m.lists i) x z))

  -- the back of a list that is not empty is on it
  pub back_list : (j : ℕ) → 1 ≤ j → 1 ≤ size m j → m.lists (back m j) ≡ j
  unfolding members
  back_list j hj h =
      let k = tally_some (entry_count m) (λ i. eqb (m.lists i) j) (omega (arith, size_members j (omega arith))) in
      let on : m.lists k.0 ≡ j = split (m.lists k.0) j (λ z t. z) (λ z t. no_true (sym t ∙ k.2)) in
      (I.fine.linked.member j (back m j) (back_on m I j k.0 (subst (λ (x : ℕ). has (m.order x) k.0 ≡ true) on (O.listed k.0 (λ z. omega (arith, z, on)))))).1

  -- where the lists have fewer entries than there are, one is free
  pub spare : size m 1 + size m 2 + size m 3 + size m 4 < entry_count m → (i : ℕ) × (i < entry_count m) × (m.lists i ≡ 0)
  unfolding members
  spare h =
      let five = tally_five (entry_count m) m.lists lists_le in
      let k = tally_some (entry_count m) (λ i. eqb (m.lists i) 0) (omega (arith, five, size_members 1 (omega arith), size_members 2 (omega arith), size_members 3 (omega arith), size_members 4 (omega arith))) in
      (k.0, k.1, split (m.lists k.0) 0 (λ z t. z) (λ z t. no_true (sym t ∙ k.2)))

  -- an entry is on one of four lists, of those that are not empty
  pub list_cases : {Q : Type 0} (i : ℕ) → (m.lists i ≡ 0 → ⊥) → (m.lists i ≡ 1 → 1 ≤ size m 1 → Q) → (m.lists i ≡ 2 → 1 ≤ size m 2 → Q) → (m.lists i ≡ 3 → 1 ≤ size m 3 → Q) → (m.lists i ≡ 4 → 1 ≤ size m 4 → Q) → Q
  list_cases {Q} i u a b c d = go (m.lists i) refl
    where
      go : (x : ℕ) → m.lists i ≡ x → Q
      go zero z = absurd (u z)
      go (suc zero) z = a z (sized i 1 (omega arith) z)
      go (suc (suc zero)) z = b z (sized i 2 (omega arith) z)
      go (suc (suc (suc zero))) z = c z (sized i 3 (omega arith) z)
      go (suc (suc (suc (suc zero)))) z = d z (sized i 4 (omega arith) z)
      go (suc (suc (suc (suc (suc x))))) z = absurd (omega (arith, lists_le i))

-- the four sizes after an entry goes from list k to list j
pub resized_after : {m n : Mem} → Indexed m → Ordered m → Indexed n → Ordered n → {e j : ℕ} → Moved e j m n → (k : ℕ) → m.lists e ≡ k → Resized k j m n
resized_after {m} {n} I O J Q {e} {j} r k z = record { s1 = at 1 (omega arith); s2 = at 2 (omega arith); s3 = at 3 (omega arith); s4 = at 4 (omega arith) }
  where
    at : (x : ℕ) → (x ≡ 0 → ⊥) → size n x + one_if (eqb k x) ≡ size m x + one_if (eqb j x)
    at x nz = rw (size_members m I O x nz, size_members n J Q x nz) (members_after r k z x)
