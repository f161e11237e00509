-- The way back: the words of a whole directory are sound.
use mathlib.Core.Path.{◌≡◌, refl, ap, sym, subst, ◌∙◌}
use mathlib.Core.Bool.{Bool, true, false, not}
use mathlib.Core.List.{List, [], ◌∷◌}
use Prim.Native.Nat.{ℕ, ◌+◌, ◌*◌, ◌^◌, ◌≤◌, ◌<◌, zero-le}
use native.Mathlib.Omega.{arith}
use lib.ListN.{length, get_or}
use lib.Dec.{eqb, ltb}
use borrow.Author.Tests.{eq-eqb, ne_eqb, le-leb, lt-ltb}
use Rattle.meaning.specs.Base.{every, last_or}
use Rattle.meaning.specs.Neighbours.{NONE, has, behind, ahead, before, Nodup}
use Rattle.meaning.specs.Layout.{Settings, is_clock, is_held, entries_of, bits_of, length_for, settings_refusal, unit, cell_at, bucket_at}
use Rattle.meaning.specs.Mem.{Mem, home, word, words, linked, empty, settings_top, fresh, E, bits_in, capacity_in, capacity_of, entry_count, first_in, index_bits, policy_in, policy_of, second_in, second_of, word6_in}
use Rattle.invariants.specs.Places.{top, head, tail, end, cell, list, prev, next, chain, mark, spare, Holds, image, bwd, fwd, Repr, Fine}
use Rattle.meaning.specs.Rules.{slot_in, previous_in, used, holds, on, held_count, list_from, bucket_from, bucket_in, of_bucket, free_words, unlike, rule_a, word6_fits, rule_b, is_free, is_taken, entry_right, rule_c, within, backwards, list_right, clock_right, end_none, rule_d, page_new, rule_e, slot_right, rule_f, chain_right, chained, rule_g, arc_sizes, sizes_right, rule_h, broken, sound}
use Rattle.invariants.specs.Whole.{Whole, members}
use Rattle.invariants.proofs.Lists.{split, eqb_same, no_true, beside_absent}
use Rattle.invariants.proofs.Numbers.{by_test, tally_ext}
use Rattle.invariants.proofs.Families.{not_so}
use Rattle.invariants.proofs.Chained.{bucket_lt, holes}
use Rattle.invariants.proofs.Unique.{order_read, chain_read}
use Rattle.invariants.proofs.Trip.{words_hold}
use Rattle.invariants.proofs.Fresh.{fresh_proper}
use Rattle.invariants.proofs.Tests.{both, imp_yes, imp_skip}
use Rattle.invariants.proofs.Counted.{every_all, all_all, before_last, tally_none, tally_has}
use Rattle.invariants.proofs.Read.{size, real, near, list_is, page_is, slot_is, count_is, held_is}
use Rattle.invariants.proofs.Accepted.{accepted, few_entries, some_capacity}
use Rattle.invariants.proofs.Listed.{Kept, is_keeps, Listed, is_right}

eight : (f : ℕ → Bool) → f 0 ≡ true → f 1 ≡ true → f 2 ≡ true → f 3 ≡ true → f 4 ≡ true → f 5 ≡ true → f 6 ≡ true → f 7 ≡ true → every 8 f ≡ true
eight f a b c d e g h i = simp (a, b, c, d, e, g, h, i)

-- previous leads backwards through a list whose entries have the one before them there
back : (ws : List ℕ) (p : ℕ) (L : List ℕ) → Nodup L → ((i : ℕ) → has L i ≡ true → previous_in ws i ≡ ahead p L i) → backwards ws p L ≡ true
unfolding has ahead Nodup
back ws p [] d h = refl
back ws p (x ∷ L) d h =
    both (eq-eqb _ _ (h x (simp (eqb_same x)) ∙ simp (eqb_same x)))
    (back ws x L d.1 (λ i k. split i x
    (λ q t. no_true (sym d.0 ∙ ap (has L) (sym q) ∙ k))
    (λ q t. h i (simp t k) ∙ simp t)))

module _ (m : Mem) (W : Whole m) (ws : List ℕ) (H : Holds (entry_count m) (index_bits m) ws (image m)) where
  fine : Fine m
  fine = W.stocked.seated.indexed.fine

  repr : Repr ws m
  repr = record { holds = H; fine = fine }

  -- a
  is_a : rule_a ws ≡ true
  unfolding rule_a length_for
  is_a =
      let b = W.headed.bits in
      let h0 : policy_in ws ≡ policy_of m = H.at (top 0) (omega arith) in
      let h1 : capacity_in ws ≡ capacity_of m = H.at (top 1) (omega arith) in
      let h5 : second_in ws ≡ second_of m = H.at (top 5) (omega arith) in
      let far : 16 ≤ length ws = omega (arith, H.size) in
      let accepted : settings_refusal (policy_in ws) (capacity_in ws) (first_in ws) (second_in ws) ≡ 0 = rw (h0, h1, H.at (top 4) (omega arith), h5) W.headed.settings in
      let entries : E ws ≡ entries_of (policy_in ws) (capacity_in ws) (second_in ws) = rw (size m ws H, h0, h1, h5) W.headed.entries in
      let bits : bits_in ws ≡ bits_of (E ws) = rw (H.at (top 3) (omega arith), size m ws H) b in
      let long : length ws ≡ 16 + 8 * E ws + 2 ^ bits_of (E ws) = rw (size m ws H, ← b) H.size in
      both (both (both (both (le-leb _ _ far) (eq-eqb _ _ accepted)) (eq-eqb _ _ entries)) (eq-eqb _ _ bits)) (eq-eqb _ _ long)

  -- b
  is_b : rule_b ws ≡ true
  unfolding rule_b
  is_b =
      let six : word6_fits (policy_in ws) (capacity_in ws) (word6_in ws) ≡ true = rw (H.at (top 0) (omega arith), H.at (top 1) (omega arith), H.at (top 6) (omega arith)) W.headed.word6 in
      both six (eq-eqb _ _ (H.at end tt))

  -- c
  free : (i : ℕ) → i < E ws → m.lists i ≡ 0 → is_free ws i ≡ true
  unfolding is_free is_held
  free i l z =
      let none = W.stocked.idle i z in
      let i_none : eqb i NONE ≡ false = ne_eqb i NONE (omega (arith, size m ws H, fine.few)) in
      let off : has (m.order (m.lists i)) i ≡ false = not_so _ (λ h. omega (arith, (fine.range (m.lists i) i h).0)) in
      let un : has (m.chained (home m (m.pages i))) i ≡ false = not_so _ (λ h. fine.used _ i h none) in
      eight (λ f. eqb (word ws (cell_at i f)) (get_or free_words f 0))
      (eq-eqb _ _ (page_is m ws H l ∙ none))
      (eq-eqb _ _ (list_is m ws H l ∙ z))
      (eq-eqb _ _ (slot_is m ws H l ∙ W.stocked.seated.indexed.ghost i (simp z)))
      (eq-eqb _ _ (H.at (cell prev i) (real m ws H l) ∙ beside_absent bwd _ i i_none off))
      (eq-eqb _ _ (H.at (cell next i) (real m ws H l) ∙ beside_absent fwd _ i i_none off))
      (eq-eqb _ _ (H.at (cell chain i) (real m ws H l) ∙ beside_absent fwd _ i i_none un))
      (eq-eqb _ _ (H.at (cell mark i) (real m ws H l) ∙ (W.stocked.seated.indexed.free i none).1))
      (eq-eqb _ _ (H.at (cell spare i) (real m ws H l)))

  taken : (i : ℕ) → i < E ws → (m.lists i ≡ 0 → ⊥) → is_taken ws i ≡ true
  unfolding is_taken
  taken i l u =
      both (both (ap not (ne_eqb _ _ (λ z. u (W.stocked.seated.indexed.free i (sym (page_is m ws H l) ∙ z)).0)))
      (rw (list_is m ws H l, H.at (top 0) (omega arith)) (W.stocked.uses i u)))
      (both (eq-eqb _ _ (H.at (cell spare i) (real m ws H l))) (rw (H.at (cell mark i) (real m ws H l), H.at (top 0) (omega arith)) (le-leb _ _ (W.stocked.marks i))))

  is_c : rule_c ws ≡ true
  unfolding rule_c entry_right
  is_c = every_all (E ws) (entry_right ws) (λ i l. split (m.lists i) 0 (λ z t. simp (free i l z)) (λ z t. by_test (is_free ws i) (λ y. simp y) (λ y. simp y (taken i l z))))

  -- a list or a chain, read off the words
  kept : (f : ℕ → Bool) (L : List ℕ) → Nodup L → ((i : ℕ) → has L i ≡ true → (i < entry_count m) × (f i ≡ true)) → Kept (E ws) f L
  kept f L d h = record {
    once = d;
    only = all_all (within (E ws) f) L (λ i k. both (lt-ltb i (E ws) (omega (arith, size m ws H, (h i k).0))) (h i k).1);
    ends = omega (arith, size m ws H, holes (entry_count m) L d (λ i k. (h i k).0));
  }

  -- d
  module _ (ordered : is_clock (policy_of m) ≡ false) (j : ℕ) (four : (1 ≤ j) × (j ≤ 4)) where
    whole : list_from ws j ≡ m.order j
    whole = order_read ws m repr j four

    on_is : (i : ℕ) → i < E ws → on ws j i ≡ has (m.order j) i
    on_is i l = by_test (has (m.order j) i)
        (λ h. eq-eqb _ _ (list_is m ws H l ∙ (fine.linked.member j i h).1) ∙ sym h)
        (λ h. ne_eqb _ _ (λ z. let e = sym (list_is m ws H l) ∙ z in
        no_true (sym h ∙ subst (λ (k : ℕ). has (m.order k) i ≡ true) e (W.listed ordered i (λ y. omega (arith, four.0))))) ∙ sym h)

    listed : Listed ws j
    listed = record {
      kept = rw whole (kept (on ws j) (m.order j) (fine.linked.once j) (λ i h.
          let k = fine.linked.member j i h in
          (k.0, eq-eqb _ _ (H.at (cell list i) k.0 ∙ k.1))));
      exact = ap length whole ∙ sym (tally_ext (E ws) (on ws j) (has (m.order j)) on_is
          ∙ tally_has (E ws) (m.order j) (fine.linked.once j) (λ i h. omega (arith, size m ws H, (fine.linked.member j i h).0)));
      tail = H.at (tail j) four ∙ before_last NONE (m.order j) (not_so _ (λ h. omega (arith, fine.few, (fine.linked.member j NONE h).0))) ∙ ap (last_or NONE) (sym whole);
      back = rw whole (back ws NONE (m.order j) (fine.linked.once j) (λ i h.
          let k = fine.linked.member j i h in
          H.at (cell prev i) k.0 ∙ ap (λ (x : ℕ). before (m.order x) i) k.1));
    }

  module _ (k : is_clock (policy_of m) ≡ true) where
    bare : (j : ℕ) → m.order j ≡ []
    bare = (W.clock k).bare

    ends : every 8 (end_none ws) ≡ true
    unfolding end_none behind ahead
    ends =
        eight (end_none ws)
        (eq-eqb _ _ (H.at (head 1) (omega arith) ∙ simp (bare 1))) (eq-eqb _ _ (H.at (tail 1) (omega arith) ∙ simp (bare 1)))
        (eq-eqb _ _ (H.at (head 2) (omega arith) ∙ simp (bare 2))) (eq-eqb _ _ (H.at (tail 2) (omega arith) ∙ simp (bare 2)))
        (eq-eqb _ _ (H.at (head 3) (omega arith) ∙ simp (bare 3))) (eq-eqb _ _ (H.at (tail 3) (omega arith) ∙ simp (bare 3)))
        (eq-eqb _ _ (H.at (head 4) (omega arith) ∙ simp (bare 4))) (eq-eqb _ _ (H.at (tail 4) (omega arith) ∙ simp (bare 4)))

    clocked : (i : ℕ) → i < E ws → clock_right ws i ≡ true
    unfolding clock_right behind ahead
    clocked i l =
        both (both (eq-eqb _ _ (H.at (cell prev i) (real m ws H l) ∙ simp (bare (m.lists i), ne_eqb i NONE (omega (arith, size m ws H, fine.few)))))
        (eq-eqb _ _ (H.at (cell next i) (real m ws H l) ∙ simp (bare (m.lists i)))))
        (by_test (used ws i)
        (λ u. simp u (eq-eqb _ _ (slot_is m ws H l ∙ (W.clock k).own i (λ z. no_true (sym (simp (list_is m ws H l, z)) ∙ u)))))
        (λ u. simp u))

  is_d : rule_d ws ≡ true
  unfolding rule_d
  is_d = rw (H.at (top 0) (omega arith)) (by_test (is_clock (policy_of m))
      (λ k. simp k (both (ends k) (every_all (E ws) (clock_right ws) (clocked k))))
      (λ k. simp k (every_all 4 (λ j. list_right ws (j + 1)) (λ j l. is_right (listed k (j + 1) (omega arith))))))

  -- e
  in_use : {i : ℕ} → i < E ws → used ws i ≡ true → m.pages i ≡ NONE → ⊥
  in_use {i} l u z = no_true (sym (simp (list_is m ws H l, (W.stocked.seated.indexed.free i z).0)) ∙ u)

  -- no earlier entry that passes has the same word f
  apart : (test : ℕ → Bool) (f i : ℕ) → i < E ws → ((h : ℕ) → h < i → test h ≡ true → word ws (cell_at h f) ≡ word ws (cell_at i f) → ⊥) → unlike ws test f i ≡ true
  apart test f i l g = every_all i _ (λ h k. by_test (test h) (λ t. imp_yes t (ne_eqb _ _ (g h k t))) (λ t. imp_skip _ t))

  is_e : rule_e ws ≡ true
  unfolding rule_e page_new
  is_e = every_all (E ws) (page_new ws) (λ i l. by_test (used ws i)
      (λ u. simp u (apart (used ws) 0 i l (λ h k t z.
      let lh : h < E ws = omega arith in
      omega (arith, fine.apart i h (in_use l u) (sym (page_is m ws H l) ∙ sym z ∙ page_is m ws H lh)))))
      (λ u. simp u))

  -- f
  slotted : (i : ℕ) → i < E ws → slot_right ws (held_count ws) i ≡ true
  unfolding slot_right
  slotted i l = by_test (holds ws i)
      (λ h. let s = W.stocked.seated.slotted.back i (ap is_held (sym (list_is m ws H l)) ∙ h) in
      let low : ltb (slot_in ws i) (held_count ws) ≡ true = rw (held_is m ws H, slot_is m ws H l) s.0 in
      simp h (both low (apart (holds ws) 2 i l (λ g k t z.
      let lg : g < E ws = omega arith in
      let r = W.stocked.seated.slotted.back g (ap is_held (sym (list_is m ws H lg)) ∙ t) in
      let e : m.slots g ≡ m.slots i = sym (slot_is m ws H lg) ∙ z ∙ slot_is m ws H l in
      omega (arith, sym r.1 ∙ ap W.stocked.seated.slotted.at e ∙ s.1)))))
      (λ h. simp h (by_test (used ws i) (λ u. simp u (eq-eqb _ _ (slot_is m ws H l ∙ W.stocked.seated.indexed.ghost i (ap is_held (sym (list_is m ws H l)) ∙ h)))) (λ u. simp u)))

  is_f : rule_f ws ≡ true
  unfolding rule_f
  is_f = every_all (E ws) (slot_right ws (held_count ws)) slotted

  -- g
  bucket_is : {i : ℕ} → i < E ws → bucket_in ws i ≡ home m (m.pages i)
  bucket_is l = rw (H.at (top 3) (omega arith), page_is m ws H l)

  hung : (b : ℕ) → b < 2 ^ index_bits m → bucket_from ws b ≡ m.chained b
  hung b l = ap (λ (n : ℕ). linked ws 5 (word ws (bucket_at n b))) (size m ws H) ∙ chain_read ws m repr b l

  of : (b i : ℕ) → has (m.chained b) i ≡ true → i < E ws → home m (m.pages i) ≡ b → of_bucket ws b i ≡ true
  of b i h l e = both (ap not (ne_eqb _ 0 (λ z. fine.used b i h (W.stocked.idle i (sym (list_is m ws H l) ∙ z))))) (eq-eqb _ _ (bucket_is l ∙ e))

  is_g : rule_g ws ≡ true
  unfolding rule_g chain_right chained
  is_g = both
      (every_all (2 ^ bits_in ws) (chain_right ws) (λ b l. is_keeps (subst (Kept (E ws) (of_bucket ws b)) (sym (hung b (rw (H.at (top 3) (omega arith)) at l)))
      (kept (of_bucket ws b) (m.chained b) (fine.chains.once b) (λ i h. let k = fine.chains.member b i h in (k.0, of b i h (near m ws H k.0) k.1))))))
      (every_all (E ws) (chained ws) (λ i l. by_test (used ws i)
      (λ u. simp u (ap (λ (b : ℕ). has (bucket_from ws b) i) (bucket_is l)
      ∙ ap (λ (L : List ℕ). has L i) (hung (home m (m.pages i)) (bucket_lt (index_bits m) (m.pages i) fine.bits))
      ∙ W.stocked.seated.indexed.hung i (in_use l u)))
      (λ u. simp u)))

  -- h
  is_h : rule_h ws ≡ true
  unfolding rule_h
  is_h = rw (H.at (top 0) (omega arith), H.at (top 1) (omega arith), H.at (top 4) (omega arith), H.at (top 5) (omega arith), count_is m ws H 1, count_is m ws H 2, count_is m ws H 3, count_is m ws H 4) W.sizes

  holding_sound : sound ws ≡ true
  unfolding sound broken
  holding_sound = simp (is_a, is_b, is_c, is_d, is_e, is_f, is_g, is_h)

-- The words of a whole directory are sound.
pub whole_sound : (m : Mem) → Whole m → sound (words m) ≡ true
whole_sound m W = holding_sound m W (words m) (words_hold m)

-- 0 fits word 6, and no pages fit every policy
zero_fits : (p C : ℕ) → 1 ≤ C → word6_fits p C 0 ≡ true
unfolding word6_fits
zero_fits p C h = by_test (eqb p 5) (λ t. simp t (le-leb 0 (unit * C) zero-le)) (λ t. simp t (by_test (eqb p 2) (λ u. simp u (lt-ltb 0 C h)) (λ u. simp u)))

none_fit : (p C f s : ℕ) → sizes_right p C f s 0 0 0 0 ≡ true
unfolding sizes_right arc_sizes
none_fit p C f s = both (le-leb 0 C zero-le) (by_test (eqb p 3)
    (λ t. simp t (le-leb 0 f zero-le))
    (λ t. simp t (by_test (eqb p 4)
    (λ u. simp u (le-leb 0 s zero-le))
    (λ u. simp u (by_test (eqb p 5) (λ v. simp (v, le-leb 0 C zero-le, le-leb 0 (2 * C) zero-le)) (λ v. simp v))))))

empty_members : (s : Settings) (j : ℕ) → 1 ≤ j → members (fresh s) j ≡ 0
unfolding members fresh empty
empty_members s j h = tally_none _ _ (λ i l. ne_eqb 0 j (omega arith))

-- A fresh directory of accepted settings is whole.
pub fresh_whole : (s : Settings) → settings_refusal s.policy s.C s.first s.second ≡ 0 → Whole (fresh s)
unfolding fresh empty settings_top
fresh_whole s a =
    let p = fresh_proper s (few_entries s.policy s.C s.first s.second a) in
    record {
      headed = record { settings = a; entries = refl; bits = refl; word6 = zero_fits s.policy s.C (omega (arith, some_capacity s.policy, (accepted s.policy s.C s.first s.second a).least)) };
      stocked = record {
        seated = p.seated;
        idle = λ i z. refl;
        uses = λ i z. absurd (z refl);
        marks = λ i. zero-le;
      };
      listed = λ k i z. absurd (z refl);
      clock = λ k. record { bare = λ j. refl; own = λ i z. absurd (z refl) };
      sizes = rw (empty_members s 1 (omega arith), empty_members s 2 (omega arith), empty_members s 3 (omega arith), empty_members s 4 (omega arith)) (none_fit s.policy s.C s.first s.second);
    }

-- So its words are sound.
pub fresh_sound : (s : Settings) → settings_refusal s.policy s.C s.first s.second ≡ 0 → sound (words (fresh s)) ≡ true
fresh_sound s a = whole_sound (fresh s) (fresh_whole s a)
