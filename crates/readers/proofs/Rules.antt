-- Where words are sound every rule holds, and what the rules say of single entries.
use mathlib.Core.Path.{◌≡◌, refl, sym, subst, ◌∙◌}
use mathlib.Core.Bool.{Bool, true, false, not, ◌&&◌, ◌||◌}
use mathlib.Core.List.{List}
use Prim.Native.Nat.{ℕ, suc, ◌+◌, ◌*◌, ◌-◌, ◌^◌, ◌≤◌, ◌<◌}
use native.Mathlib.Omega.{arith}
use lib.ListN.{get_or}
use lib.Dec.{eqb, leb, ltb, lit<}
use borrow.Author.Tests.{eqb-true, eqb-false, ne_eqb, leb-true, lt-leb, not-true}
use Rattle.std.specs.Prelude.{if◌then◌else◌}
use Rattle.meaning.specs.Base.{every, ◌⇒◌}
use Rattle.meaning.specs.Neighbours.{NONE, has}
use Rattle.meaning.specs.Layout.{is_clock, is_list, mark_limit, cell_at, head_at, tail_at}
use Rattle.meaning.specs.Mem.{word, bits_in, policy_in, E}
use Rattle.meaning.specs.Rules.{page_in, list_in, slot_in, previous_in, next_in, mark_in, last_in, used, holds, held_count, bucket_from, bucket_in, rule_a, rule_b, rule_c, rule_d, rule_e, rule_f, rule_g, rule_h, broken, sound, free_words, is_free, is_taken, entry_right, list_right, clock_right, end_none, unlike, page_new, slot_right, chain_right, chained}
use Rattle.invariants.proofs.Lists.{no_true}
use Rattle.invariants.proofs.Unique.{below}
use Rattle.invariants.proofs.Tests.{and_left, and_right, three, every_at}
use Rattle.invariants.proofs.Chained.{bucket_lt}
use Rattle.readers.specs.Sized.{Sized}

-- Every rule holds.
pub record Rules (ws : List ℕ) : Type 0 where
  pub a : rule_a ws ≡ true
  pub b : rule_b ws ≡ true
  pub c : rule_c ws ≡ true
  pub d : rule_d ws ≡ true
  pub e : rule_e ws ≡ true
  pub f : rule_f ws ≡ true
  pub g : rule_g ws ≡ true
  pub h : rule_h ws ≡ true

-- one rule at a time: it holds, and the rest of the chain gives 0
one : (t : Bool) (n rest : ℕ) → (if not t then suc n else rest) ≡ 0 → (t ≡ true) × (rest ≡ 0)
one true n rest h = (refl, h)
one false n rest h = absurd (omega arith)

-- Of sound words every rule holds.
pub all_rules : (ws : List ℕ) → sound ws ≡ true → Rules ws
unfolding sound broken
all_rules ws s =
    let pa = one (rule_a ws) 0 _ (eqb-true _ _ s) in let pb = one (rule_b ws) 1 _ pa.1 in let pc = one (rule_c ws) 2 _ pb.1 in
    let pd = one (rule_d ws) 3 _ pc.1 in let pe = one (rule_e ws) 4 _ pd.1 in let pf = one (rule_f ws) 5 _ pe.1 in
    let pg = one (rule_g ws) 6 _ pf.1 in let ph = one (rule_h ws) 7 _ pg.1 in
    record { a = pa.0; b = pb.0; c = pc.0; d = pd.0; e = pe.0; f = pf.0; g = pg.0; h = ph.0 }

imp_out : (s : Bool) {e : Bool} → (s ⇒ e) ≡ true → s ≡ true → e ≡ true
imp_out true h k = h
imp_out false h k = no_true k

if_in : (b x y : Bool) → (if b then x else y) ≡ true → b ≡ true → x ≡ true
if_in true x y h k = h
if_in false x y h k = no_true k

if_out : (b x y : Bool) → (if b then x else y) ≡ true → b ≡ false → y ≡ true
if_out false x y h k = h
if_out true x y h k = no_true (sym k)

in_use : (x : ℕ) → (x ≡ 0 → ⊥) → not (eqb x 0) ≡ true
in_use x z = simp (ne_eqb x 0 z)

-- ── c ──

-- A used entry.
pub record Taken (ws : List ℕ) (i : ℕ) : Type 0 where
  pub page : page_in ws i ≡ NONE → ⊥
  pub list : is_list (policy_in ws) (list_in ws i) ≡ true
  pub last : last_in ws i ≡ 0
  pub mark : mark_in ws i ≤ mark_limit (policy_in ws)

module _ (ws : List ℕ) (r : rule_c ws ≡ true) (i : ℕ) (l : i < E ws) where
  free_or_taken : {P : Type 0} → (((f : ℕ) → f < 8 → word ws (cell_at i f) ≡ get_or free_words f 0) → P) → (Taken ws i → P) → P
  unfolding rule_c entry_right is_free is_taken
  free_or_taken {P} free taken = go (is_free ws i) refl (every_at (E ws) (entry_right ws) r i l)
    where
      go : (b : Bool) → is_free ws i ≡ b → (b || is_taken ws i) ≡ true → P
      go true e h = free (λ f k. eqb-true _ _ (every_at 8 (λ g. eqb (word ws (cell_at i g)) (get_or free_words g 0)) e f k))
      go false e h =
          let p = and_left (not (eqb (page_in ws i) NONE) && is_list (policy_in ws) (list_in ws i)) (eqb (last_in ws i) 0 && leb (mark_in ws i) (mark_limit (policy_in ws))) h in
          let q = and_right (not (eqb (page_in ws i) NONE) && is_list (policy_in ws) (list_in ws i)) (eqb (last_in ws i) 0 && leb (mark_in ws i) (mark_limit (policy_in ws))) h in
          taken (record {
            page = eqb-false _ _ (not-true (eqb (page_in ws i) NONE) (and_left _ _ p));
            list = and_right (not (eqb (page_in ws i) NONE)) _ p;
            last = eqb-true _ _ (and_left _ _ q);
            mark = leb-true _ _ (and_right (eqb (last_in ws i) 0) _ q);
          })

  -- an entry on list 0 is free, word for word
  pub free_words_lem : list_in ws i ≡ 0 → (f : ℕ) → f < 8 → word ws (cell_at i f) ≡ get_or free_words f 0
  unfolding is_list
  free_words_lem z = free_or_taken (λ h. h) (λ t. no_true (sym (simp (lt-leb 1 (list_in ws i) (omega arith))) ∙ t.list))

  -- any other is taken
  pub taken : (list_in ws i ≡ 0 → ⊥) → Taken ws i
  taken z = free_or_taken (λ h. absurd (z (h 1 (lit< tt)))) (λ t. t)

-- ── d ──

-- An entry of CLOCK.
pub record ClockEntry (ws : List ℕ) (i : ℕ) : Type 0 where
  pub previous : previous_in ws i ≡ NONE
  pub next : next_in ws i ≡ NONE
  pub own : (list_in ws i ≡ 0 → ⊥) → slot_in ws i ≡ i

module _ (ws : List ℕ) (d : rule_d ws ≡ true) where
  clocks : is_clock (policy_in ws) ≡ true → (every 8 (end_none ws) && every (E ws) (clock_right ws)) ≡ true
  unfolding rule_d
  clocks k = if_in (is_clock (policy_in ws)) _ (every 4 (λ j. list_right ws (j + 1))) d k

  -- rule d of list j
  pub lists_right : is_clock (policy_in ws) ≡ false → (j : ℕ) → (1 ≤ j) × (j ≤ 4) → list_right ws j ≡ true
  unfolding rule_d
  lists_right k j h =
      let e : j - 1 + 1 ≡ j = omega arith in
      subst (λ (i : ℕ). list_right ws i ≡ true) e
      (every_at 4 (λ i. list_right ws (i + 1)) (if_out (is_clock (policy_in ws)) (every 8 (end_none ws) && every (E ws) (clock_right ws)) _ d k) (j - 1) (omega arith))

  -- the head and the tail of list j
  pub ends_none : is_clock (policy_in ws) ≡ true → (j : ℕ) → (1 ≤ j) × (j ≤ 4) → (word ws (head_at j) ≡ NONE) × (word ws (tail_at j) ≡ NONE)
  unfolding end_none
  ends_none k j h =
      let head : 7 + (2 * j - 2) ≡ head_at j = omega arith in
      let tail : 7 + (2 * j - 1) ≡ tail_at j = omega arith in
      let at : (x : ℕ) → x < 8 → word ws (7 + x) ≡ NONE = λ x l. eqb-true _ _ (every_at 8 (end_none ws) (and_left _ (every (E ws) (clock_right ws)) (clocks k)) x l) in
      (subst (λ (a : ℕ). word ws a ≡ NONE) head (at (2 * j - 2) (omega arith)), subst (λ (a : ℕ). word ws a ≡ NONE) tail (at (2 * j - 1) (omega arith)))

  -- an entry of CLOCK
  pub clock_entry : is_clock (policy_in ws) ≡ true → (i : ℕ) → i < E ws → ClockEntry ws i
  unfolding clock_right
  clock_entry k i l =
      let p = three (eqb (previous_in ws i) NONE) (eqb (next_in ws i) NONE) (used ws i ⇒ eqb (slot_in ws i) i)
      (every_at (E ws) (clock_right ws) (and_right (every 8 (end_none ws)) _ (clocks k)) i l) in
      record { previous = eqb-true _ _ p.0; next = eqb-true _ _ p.1; own = λ z. eqb-true _ _ (imp_out (used ws i) p.2 (in_use _ z)) }

-- ── e and f ──

-- two entries that pass the test and have the same word f are one entry
unlike_same : (ws : List ℕ) (test : ℕ → Bool) (f : ℕ) → ((i : ℕ) → i < E ws → test i ≡ true → unlike ws test f i ≡ true)
    → (i h : ℕ) → i < E ws → h < E ws → test i ≡ true → test h ≡ true → word ws (cell_at i f) ≡ word ws (cell_at h f) → i ≡ h
unlike_same ws test f u i h bi bh fi fh q =
    below i h (λ l. absurd (earlier i h l bh fi fh q)) (λ l. below h i (λ k. absurd (earlier h i k bi fh fi (sym q))) (λ k. omega arith))
  where
    earlier : (x y : ℕ) → x < y → y < E ws → test x ≡ true → test y ≡ true → word ws (cell_at x f) ≡ word ws (cell_at y f) → ⊥
    earlier x y l by tx ty e =
        eqb-false _ _ (not-true _ (imp_out (test x) (every_at y (λ z. test z ⇒ not (eqb (word ws (cell_at z f)) (word ws (cell_at y f)))) (u y by ty) x l) tx)) e

-- two used entries with one page are one entry
pub one_page : (ws : List ℕ) → rule_e ws ≡ true → (i h : ℕ) → i < E ws → h < E ws → (list_in ws i ≡ 0 → ⊥) → (list_in ws h ≡ 0 → ⊥) → page_in ws i ≡ page_in ws h → i ≡ h
unfolding rule_e page_new
one_page ws r i h bi bh ui uh =
    unlike_same ws (used ws) 0 (λ i b u. imp_out (used ws i) (every_at (E ws) (page_new ws) r i b) u) i h bi bh (in_use _ ui) (in_use _ uh)

module _ (ws : List ℕ) (r : rule_f ws ≡ true) where
  at_slot : (i : ℕ) → i < E ws → slot_right ws (held_count ws) i ≡ true
  unfolding rule_f
  at_slot i b = every_at (E ws) (slot_right ws (held_count ws)) r i b

  at_held : (i : ℕ) → i < E ws → holds ws i ≡ true → (ltb (slot_in ws i) (held_count ws) && unlike ws (holds ws) 2 i) ≡ true
  unfolding slot_right
  at_held i b h = if_in (holds ws i) (ltb (slot_in ws i) (held_count ws) && unlike ws (holds ws) 2 i) (used ws i ⇒ eqb (slot_in ws i) NONE) (at_slot i b) h

  -- with n held pages, a slot is below n
  pub slot_below : (i : ℕ) → i < E ws → holds ws i ≡ true → ltb (slot_in ws i) (held_count ws) ≡ true
  slot_below i b h = and_left _ (unlike ws (holds ws) 2 i) (at_held i b h)

  -- two held entries with one slot are one entry
  pub one_slot : (i h : ℕ) → i < E ws → h < E ws → holds ws i ≡ true → holds ws h ≡ true → slot_in ws i ≡ slot_in ws h → i ≡ h
  one_slot = unlike_same ws (holds ws) 2 (λ i b h. and_right (ltb (slot_in ws i) (held_count ws)) (unlike ws (holds ws) 2 i) (at_held i b h))

  -- a ghost has no slot
  pub ghost_slot : (i : ℕ) → i < E ws → (list_in ws i ≡ 0 → ⊥) → holds ws i ≡ false → slot_in ws i ≡ NONE
  unfolding slot_right
  ghost_slot i b u h = eqb-true _ _ (imp_out (used ws i) (if_out (holds ws i) (ltb (slot_in ws i) (held_count ws) && unlike ws (holds ws) 2 i) (used ws i ⇒ eqb (slot_in ws i) NONE) (at_slot i b) h) (in_use _ u))

-- ── g ──

-- the bucket of an entry's page is one of those that are there
pub bucket_fits : (ws : List ℕ) → Sized ws → (i : ℕ) → bucket_in ws i < 2 ^ bits_in ws
bucket_fits ws fits i = bucket_lt (bits_in ws) (page_in ws i) (omega (arith, fits.bits))

module _ (ws : List ℕ) (r : rule_g ws ≡ true) where
  -- each chain is right
  pub chains_right : every (2 ^ bits_in ws) (chain_right ws) ≡ true
  unfolding rule_g
  chains_right = and_left _ (every (E ws) (chained ws)) r

  -- a used entry is on its chain
  pub on_chain : (i : ℕ) → i < E ws → (list_in ws i ≡ 0 → ⊥) → has (bucket_from ws (bucket_in ws i)) i ≡ true
  unfolding rule_g chained
  on_chain i l u = imp_out (used ws i) (every_at (E ws) (chained ws) (and_right (every (2 ^ bits_in ws) (chain_right ws)) _ r) i l) (in_use _ u)
