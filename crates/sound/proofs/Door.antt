-- The door: sound words stand for their directory, and that directory is whole.
use mathlib.Core.Path.{◌≡◌, refl, ap, sym, ◌∙◌}
use mathlib.Core.Bool.{true, false}
use mathlib.Core.List.{List, [], ◌∷◌}
use Prim.Native.Nat.{ℕ, ◌+◌, ◌^◌, ◌≤◌, ◌<◌, zero-le}
use native.Mathlib.Omega.{arith}
use lib.ListN.{get_or}
use lib.Dec.{eqb, lit<}
use borrow.Author.Tests.{eq-eqb, eqb-true, eqb-false, ne_eqb, ltb-true, lt-ltb, le-ltb, le-leb, lt-leb, not-true}
use Rattle.meaning.specs.Base.{first, tally}
use Rattle.meaning.specs.Neighbours.{NONE, has, ahead, after, before, Nodup}
use Rattle.meaning.specs.Layout.{is_clock, is_held, bucket_of, cell_at, head_at, tail_at, bucket_at}
use Rattle.meaning.specs.Mem.{word, words, field, top_of, list_of, chain_of, decode, held, sits, E, bits_in, capacity_in, end_in, policy_in, word6_in}
use Rattle.invariants.specs.Places.{Place, top, head, tail, bucket, end, cell, page, list, slot, prev, next, chain, mark, spare, Valid, addr, image, bwd, fwd, Fine, Repr}
use Rattle.invariants.specs.Shape.{Canonical}
use Rattle.invariants.specs.Proper.{Indexed, Slotted, up_to}
use Rattle.meaning.specs.Rules.{list_in, slot_in, previous_in, next_in, used, holds, on, held_count, list_from, bucket_from, bucket_in, of_bucket, free_words, word6_fits, rule_b, backwards, chain_right, rule_h, sound}
use Rattle.invariants.specs.Whole.{Headed, Whole}
use Rattle.invariants.proofs.Lists.{split, no_true, beside_absent}
use Rattle.invariants.proofs.Numbers.{by_test, first_hit}
use Rattle.invariants.proofs.Families.{not_so}
use Rattle.invariants.proofs.Unique.{below}
use Rattle.invariants.proofs.Trip.{repr_words}
use Rattle.readers.specs.Sized.{Sized, chain_in}
use Rattle.invariants.proofs.Numbered.{list_fits, held_used}
use Rattle.invariants.proofs.Tests.{and_left, and_right, both, every_at}
use Rattle.invariants.proofs.Counted.{before_last, tally_has, tally_same, each_value}
use Rattle.invariants.proofs.Walks.{walk_stop, walk_front, walk_after}
use Rattle.readers.proofs.Sizes.{rule_a_lem, sized}
use Rattle.invariants.proofs.Listed.{Kept, keeps_is, visited, Listed, right_is}
use Rattle.invariants.proofs.Read.{held_tally, count_is, held_is}
use Rattle.readers.proofs.Rules.{Rules, all_rules, Taken, free_words_lem, taken, lists_right, ends_none, clock_entry, one_page, slot_below, one_slot, ghost_slot, bucket_fits, chains_right, on_chain}

-- previous is what stands before
link_before : (ws : List ℕ) (p : ℕ) (L : List ℕ) → backwards ws p L ≡ true → (i : ℕ) → has L i ≡ true → previous_in ws i ≡ ahead p L i
unfolding has ahead
link_before ws p [] k i h = no_true h
link_before ws p (y ∷ L) k i h = split i y
    (λ q t. simp t (ap (previous_in ws) q ∙ eqb-true _ _ (and_left (eqb (previous_in ws y) p) (backwards ws y L) k)))
    (λ q t. simp t (link_before ws y L (and_right (eqb (previous_in ws y) p) (backwards ws y L) k) i (simp t at h)))

nobody : (i : ℕ) → has [] i ≡ false
unfolding has
nobody i = refl

module _ (ws : List ℕ) (R : Rules ws) where
  fits : Sized ws
  fits = sized ws R.a

  in_field : (f d i : ℕ) → i < E ws → field ws f d i ≡ word ws (cell_at i f)
  unfolding field
  in_field f d i l = simp (lt-ltb i (E ws) l)

  out_field : (f d i : ℕ) → E ws ≤ i → field ws f d i ≡ d
  unfolding field
  out_field f d i l = simp (le-ltb i (E ws) l)

  -- an entry past the last, a free one, a used one
  by_entry : {P : Type 0} (i : ℕ) → (E ws ≤ i → P) → (i < E ws → list_in ws i ≡ 0 → ((f : ℕ) → f < 8 → word ws (cell_at i f) ≡ get_or free_words f 0) → P)
      → (i < E ws → (list_in ws i ≡ 0 → ⊥) → Taken ws i → P) → P
  by_entry i a b c = below i (E ws) (λ l. split (list_in ws i) 0 (λ z t. b l z (free_words_lem ws R.c i l z)) (λ z t. c l z (taken ws R.c i l z))) a

  -- a list that is empty, or is read off the words; CLOCK's are empty
  order_at : (j : ℕ) → (1 ≤ j) × (j ≤ 4) → list_of ws j ≡ list_from ws j
  unfolding list_of
  order_at j h = simp (le-leb 1 j h.0, le-leb j 4 h.1)

  by_list : {P : Type 0} (j : ℕ) → (list_of ws j ≡ [] → ((1 ≤ j) × (j ≤ 4) → is_clock (policy_in ws) ≡ true) → P) → ((1 ≤ j) × (j ≤ 4) → list_of ws j ≡ list_from ws j → Listed ws j → P) → P
  unfolding list_of
  by_list j a b =
      below j 1 (λ h. a (simp (lt-leb 1 j h)) (λ g. absurd (omega arith))) (λ h.
      below 4 j (λ g. a (simp (le-leb 1 j h, lt-leb j 4 g)) (λ k. absurd (omega arith))) (λ g.
      by_test (is_clock (policy_in ws))
      (λ k. a (order_at j (h, g) ∙ walk_stop (next_in ws) (E ws + 1) (word ws (head_at j)) (ends_none ws R.d k j (h, g)).0) (λ _. k))
      (λ k. b (h, g) (order_at j (h, g)) (right_is ws j (lists_right ws R.d k j (h, g))))))

  -- a chain that is empty, or is read off the words
  chain_at : (b : ℕ) → b < 2 ^ bits_in ws → chain_of ws b ≡ bucket_from ws b
  unfolding chain_of
  chain_at b h = simp (lt-ltb b (2 ^ bits_in ws) h)

  chain_kept : (b : ℕ) → b < 2 ^ bits_in ws → Kept (E ws) (of_bucket ws b) (bucket_from ws b)
  unfolding chain_right
  chain_kept b h = keeps_is _ _ _ (every_at (2 ^ bits_in ws) (chain_right ws) (chains_right ws R.g) b h)

  by_chain : {P : Type 0} (b : ℕ) → (chain_of ws b ≡ [] → P) → (chain_of ws b ≡ bucket_from ws b → Kept (E ws) (of_bucket ws b) (bucket_from ws b) → P) → P
  unfolding chain_of
  by_chain b none some = below b (2 ^ bits_in ws) (λ h. some (chain_at b h) (chain_kept b h)) (λ h. none (simp (le-ltb b (2 ^ bits_in ws) h)))

  -- who is on a list, and who is on a chain
  on_list : (j i : ℕ) → has (list_of ws j) i ≡ true → (i < E ws) × (list_in ws i ≡ j) × ((1 ≤ j) × (j ≤ 4))
  unfolding has
  on_list j i h = by_list j (λ e c. no_true (rw e at h)) (λ g e k. let v = visited k.kept i (rw e at h) in (v.0, eqb-true _ _ v.1, g))

  on_chains : (b i : ℕ) → has (chain_of ws b) i ≡ true → (i < E ws) × (bucket_in ws i ≡ b) × (list_in ws i ≡ 0 → ⊥)
  unfolding has
  on_chains b i h = by_chain b (λ e. no_true (rw e at h)) (λ e k.
      let v = visited k i (rw e at h) in
      (v.0, eqb-true _ _ (and_right (used ws i) _ v.1), eqb-false _ _ (not-true (eqb (list_in ws i) 0) (and_left _ _ v.1))))

  has_page : (i : ℕ) → (field ws 0 NONE i ≡ NONE → ⊥) → (i < E ws) × (list_in ws i ≡ 0 → ⊥)
  has_page i z = by_entry i (λ o. absurd (z (out_field 0 NONE i o))) (λ l y w. absurd (z (in_field 0 NONE i l ∙ w 0 (lit< tt)))) (λ l u t. (l, u))

  bucket_at_lem : (i : ℕ) → i < E ws → bucket_of (bits_in ws) (field ws 0 NONE i) ≡ bucket_in ws i
  bucket_at_lem i l = ap (bucket_of (bits_in ws)) (in_field 0 NONE i l)

  fine : Fine (decode ws)
  unfolding decode top_of Nodup
  fine = record {
    few = fits.few;
    bits = omega (arith, fits.bits);
    linked = record {
      once = λ l. by_list l (λ e c. rw e tt) (λ g e k. rw e k.kept.once);
      member = λ l i h. let k = on_list l i h in (k.0, in_field 1 0 i k.0 ∙ k.1);
    };
    chains = record {
      once = λ b. by_chain b (λ e. rw e tt) (λ e k. rw e k.once);
      member = λ b i h. let k = on_chains b i h in (k.0, bucket_at_lem i k.0 ∙ k.1);
    };
    range = λ j i h. (on_list j i h).2;
    used = λ b i h z. let k = on_chains b i h in (taken ws R.c i k.0 k.2).page (sym (in_field 0 NONE i k.0) ∙ z);
    apart = λ i h z w.
        let a = has_page i z in
        let b = has_page h (λ y. z (w ∙ y)) in
        one_page ws R.e i h a.0 b.0 a.1 b.1 (sym (in_field 0 NONE i a.0) ∙ w ∙ in_field 0 NONE h b.0);
  }

  -- ── the words are the directory's ──

  not_none : (i : ℕ) → i < E ws → eqb i NONE ≡ false
  not_none i l = ne_eqb i NONE (omega (arith, fits.few))

  -- a used entry is visited by its list, and by its chain
  on_its_list : (j i : ℕ) → Listed ws j → i < E ws → list_in ws i ≡ j → has (list_from ws j) i ≡ true
  on_its_list j i k l e =
      let L = list_from ws j in
      let t = tally_has (E ws) L k.kept.once (λ x h. (visited k.kept x h).0) in
      tally_same (E ws) (has L) (on ws j) (λ x b h. (visited k.kept x h).1) (omega (arith, t, k.exact)) i l (eq-eqb _ _ e)

  no_order : (i : ℕ) → i < E ws → ((1 ≤ list_in ws i) × (list_in ws i ≤ 4) → is_clock (policy_in ws) ≡ true) → (previous_in ws i ≡ NONE) × (next_in ws i ≡ NONE)
  no_order i l c = split (list_in ws i) 0
      (λ z t. let w = free_words_lem ws R.c i l z in (w 3 (lit< tt), w 4 (lit< tt)))
      (λ z t. let k = clock_entry ws R.d (c (list_fits (policy_in ws) (list_in ws i) (taken ws R.c i l z).list)) i l in (k.previous, k.next))

  prev_is : (i : ℕ) → i < E ws → previous_in ws i ≡ before (list_of ws (list_in ws i)) i
  prev_is i l = by_list (list_in ws i)
      (λ e c. (no_order i l c).0 ∙ sym (rw e (beside_absent bwd [] i (not_none i l) (nobody i))))
      (λ g e k. rw e (link_before ws NONE (list_from ws (list_in ws i)) k.back i (on_its_list (list_in ws i) i k l refl)))

  next_is : (i : ℕ) → i < E ws → next_in ws i ≡ after (list_of ws (list_in ws i)) i
  next_is i l = by_list (list_in ws i)
      (λ e c. (no_order i l c).1 ∙ sym (rw e (beside_absent fwd [] i (not_none i l) (nobody i))))
      (λ g e k. rw e (sym (walk_after (next_in ws) (E ws + 1) NONE (word ws (head_at (list_in ws i))) i (omega (arith, k.kept.ends)) (not_none i l) (on_its_list (list_in ws i) i k l refl))))

  chain_is : (i : ℕ) → i < E ws → chain_in ws i ≡ after (chain_of ws (bucket_in ws i)) i
  chain_is i l = by_entry i (λ o. absurd (omega arith))
      (λ _ z w. w 5 (lit< tt) ∙ sym (beside_absent fwd _ i (not_none i l) (not_so _ (λ h. (on_chains (bucket_in ws i) i h).2 z))))
      (λ _ u t. rw (chain_at (bucket_in ws i) (bucket_fits ws fits i)) (sym (walk_after (chain_in ws) (E ws + 1) NONE (word ws (bucket_at (E ws) (bucket_in ws i))) i
      (omega (arith, (chain_kept (bucket_in ws i) (bucket_fits ws fits i)).ends)) (not_none i l) (on_chain ws R.g i l u))))

  tail_is : (j : ℕ) → (1 ≤ j) × (j ≤ 4) → word ws (tail_at j) ≡ before (list_of ws j) NONE
  unfolding ahead
  tail_is j h = by_list j
      (λ e c. (ends_none ws R.d (c h) j h).1 ∙ sym (rw e))
      (λ g e k. rw e (k.tail ∙ sym (before_last NONE (list_from ws j) (not_so _ (λ x. omega (arith, (visited k.kept NONE x).0, fits.few))))))

  at_place : (q : Place) → Valid (E ws) (bits_in ws) q → word ws (addr (E ws) q) ≡ image (decode ws) q
  unfolding decode top_of rule_b
  at_place (top t) h = sym (simp (lt-ltb t 7 h))
  at_place (head j) h = rw (order_at j h) (sym (walk_front (next_in ws) (E ws + 1) NONE (word ws (head_at j)) (omega arith)))
  at_place (tail j) h = tail_is j h
  at_place (bucket b) h = rw (chain_at b h) (sym (walk_front (chain_in ws) (E ws + 1) NONE (word ws (bucket_at (E ws) b)) (omega arith)))
  at_place end h = eqb-true _ _ (and_right (word6_fits (policy_in ws) (capacity_in ws) (word6_in ws)) _ R.b)
  at_place (cell page i) h = sym (in_field 0 NONE i h)
  at_place (cell list i) h = sym (in_field 1 0 i h)
  at_place (cell slot i) h = sym (in_field 2 NONE i h)
  at_place (cell prev i) h = rw (in_field 1 0 i h) (prev_is i h)
  at_place (cell next i) h = rw (in_field 1 0 i h) (next_is i h)
  at_place (cell chain i) h = rw (bucket_at_lem i h) (chain_is i h)
  at_place (cell mark i) h = sym (in_field 6 0 i h)
  at_place (cell spare i) h = by_entry i (λ o. absurd (omega arith)) (λ l z w. w 7 (lit< tt)) (λ l u t. t.last)

  repr : Repr ws (decode ws)
  unfolding decode top_of
  repr = record { holds = record { size = sym fits.fits; at = at_place }; fine = fine }

  -- ── the directory is whole ──

  headed : Headed (decode ws)
  unfolding decode top_of rule_b
  headed =
      let r = rule_a_lem ws R.a in
      record { settings = r.settings; entries = r.entries; bits = r.bits; word6 = and_left _ (eqb (end_in ws) 0) R.b }

  canonical : Canonical (decode ws)
  unfolding decode top_of
  canonical = record {
    tops = λ t h. simp (le-ltb t 7 h);
    pages = out_field 0 NONE;
    lists = out_field 1 0;
    slots = out_field 2 NONE;
    marks = out_field 6 0;
  }

  indexed : Indexed (decode ws)
  unfolding decode top_of
  indexed = record {
    fine = fine;
    canonical = canonical;
    hung = λ i z. let k = has_page i z in rw (bucket_at_lem i k.0, chain_at (bucket_in ws i) (bucket_fits ws fits i)) (on_chain ws R.g i k.0 k.1);
    free = λ i z. by_entry i
        (λ o. (out_field 1 0 i o, out_field 6 0 i o))
        (λ l y w. (in_field 1 0 i l ∙ y, in_field 6 0 i l ∙ w 6 (lit< tt)))
        (λ l u t. absurd (t.page (sym (in_field 0 NONE i l) ∙ z)));
    ghost = λ i z. by_entry i
        (λ o. out_field 2 NONE i o)
        (λ l y w. in_field 2 NONE i l ∙ w 2 (lit< tt))
        (λ l u t. in_field 2 NONE i l ∙ ghost_slot ws R.f i l u (ap is_held (sym (in_field 1 0 i l)) ∙ z));
  }

  -- ── the slots ──

  -- a held entry
  holding : (i : ℕ) → is_held (field ws 1 0 i) ≡ true → (i < E ws) × (holds ws i ≡ true)
  holding i h = below i (E ws) (λ l. (l, ap is_held (sym (in_field 1 0 i l)) ∙ h)) (λ l. absurd (held_used _ h (out_field 1 0 i l)))

  -- the entry that has the slot s
  seat : ℕ → ℕ
  seat s = first (sits (decode ws) s) 0 (E ws)

  seated : (s i : ℕ) → i < E ws → holds ws i ≡ true → slot_in ws i ≡ s → (sits (decode ws) s (seat s) ≡ true) × (seat s < E ws)
  unfolding seat decode
  seated s i l h e =
      let k = first_hit (sits (decode ws) s) 0 (E ws) i zero-le (omega arith) (both (ap is_held (in_field 1 0 i l) ∙ h) (eq-eqb _ _ (in_field 2 NONE i l ∙ e))) in
      (k.0, omega (arith, k.1))

  slotted : Slotted (up_to (held (decode ws))) (decode ws)
  unfolding decode
  slotted = record {
    at = seat;
    there = λ s h.
        let lt : s < tally (E ws) (holds ws) = omega (arith, ltb-true s (held (decode ws)) h, held_is (decode ws) ws repr.holds, held_tally ws) in
        let k = each_value (E ws) (holds ws) (slot_in ws) (one_slot ws R.f) (λ i l g. omega (arith, ltb-true (slot_in ws i) (held_count ws) (slot_below ws R.f i l g), held_tally ws)) s lt in
        let g = (seated s k.0 k.1 k.2 k.3).0 in
        (and_left _ _ g, eqb-true _ _ (and_right (is_held (field ws 1 0 (seat s))) _ g));
    back = λ i h.
        let k = holding i h in
        let e = in_field 2 NONE i k.0 in
        let s = seated (field ws 2 NONE i) i k.0 k.1 (sym e) in
        let g = holding (seat (field ws 2 NONE i)) (and_left _ _ s.0) in
        let same = eqb-true _ _ (and_right (is_held (field ws 1 0 (seat (field ws 2 NONE i)))) _ s.0) in (
          rw (← held_is (decode ws) ws repr.holds, e) (slot_below ws R.f i k.0 k.1),
          one_slot ws R.f (seat (field ws 2 NONE i)) i g.0 k.0 g.1 k.1 (sym (in_field 2 NONE _ g.0) ∙ same ∙ e),
        );
  }

  whole : Whole (decode ws)
  unfolding decode top_of rule_h
  whole = record {
    headed = headed;
    stocked = record {
      seated = record { indexed = indexed; slotted = slotted };
      idle = λ i z. by_entry i (out_field 0 NONE i) (λ l y w. in_field 0 NONE i l ∙ w 0 (lit< tt)) (λ l u t. absurd (u (sym (in_field 1 0 i l) ∙ z)));
      uses = λ i z. by_entry i (λ o. absurd (z (out_field 1 0 i o))) (λ l y w. absurd (z (in_field 1 0 i l ∙ y))) (λ l u t. rw (in_field 1 0 i l) t.list);
      marks = λ i. by_entry i (λ o. rw (out_field 6 0 i o) zero-le) (λ l y w. rw (in_field 6 0 i l, w 6 (lit< tt)) zero-le) (λ l u t. rw (in_field 6 0 i l) t.mark);
    };
    listed = λ k i z. by_entry i (λ o. absurd (z (out_field 1 0 i o))) (λ l y w. absurd (z (in_field 1 0 i l ∙ y))) (λ l u t.
        let f = list_fits (policy_in ws) (list_in ws i) t.list in
        rw (in_field 1 0 i l, order_at (list_in ws i) f) (on_its_list (list_in ws i) i (right_is ws (list_in ws i) (lists_right ws R.d k (list_in ws i) f)) l refl));
    clock = λ k. record {
      bare = λ j. by_list j (λ e c. e) (λ g e r. e ∙ walk_stop (next_in ws) (E ws + 1) (word ws (head_at j)) (ends_none ws R.d k j g).0);
      own = λ i z. by_entry i (λ o. absurd (z (out_field 1 0 i o))) (λ l y w. absurd (z (in_field 1 0 i l ∙ y))) (λ l u t. in_field 2 NONE i l ∙ (clock_entry ws R.d k i l).own u);
    };
    sizes = rw (← count_is (decode ws) ws repr.holds 1, ← count_is (decode ws) ws repr.holds 2, ← count_is (decode ws) ws repr.holds 3, ← count_is (decode ws) ws repr.holds 4) R.h;
  }

-- Sound words stand for the directory that they decode to, and it is whole.
pub door : (ws : List ℕ) → sound ws ≡ true → Repr ws (decode ws) × Whole (decode ws)
door ws s = let R = all_rules ws s in (repr ws R, whole ws R)

-- So that directory's words are these.
pub sound_words : (ws : List ℕ) → sound ws ≡ true → words (decode ws) ≡ ws
sound_words ws s = repr_words ws (decode ws) (door ws s).0
