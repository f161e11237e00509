-- A directory comes back from its words, and words from their directory.
use Prim.Native.Nat.{ℕ, zero, suc, ◌+◌, ◌*◌, ◌^◌, ◌≤◌, ◌<◌}
use mathlib.Core.Path.{◌≡◌, refl, ap, sym, ◌∙◌, fun_ext}
use mathlib.Core.Bool.{true}
use mathlib.Core.List.{List, [], ◌∷◌, ◌++◌}
use native.Mathlib.Nat.{le_of_suc-le-suc, not-suc-le-zero, zero-add, add-zero}
use native.Mathlib.Omega.{arith}
use lib.ListN.{length, get_or, get_or-append}
use lib.Seq.{get_or-append-add}
use lib.Dec.{lit<}
use borrow.Author.Tests.{lt-ltb, le-ltb, le-leb, lt-leb}
use Rattle.meaning.specs.Base.{walk}
use Rattle.meaning.specs.Neighbours.{NONE, has, after, before}
use Rattle.meaning.specs.Mem.{Mem, entry_words, entries_from, buckets_from, head_tail, words, field, top_of, list_of, chain_of, decode, capacity_of, entry_count, first_of, index_bits, policy_of, second_of, word6_of}
use Rattle.invariants.specs.Places.{page, list, slot, prev, next, chain, mark, spare, Place, top, head, tail, bucket, end, cell, Valid, addr, Holds, image, Fine, Repr}
use Rattle.invariants.specs.Proper.{Indexed}
use Rattle.invariants.specs.Shape.{Canonical, Shaped}
use Rattle.invariants.proofs.Lists.{eqb_same}
use Rattle.invariants.proofs.Chained.{bucket_lt}
use Rattle.invariants.proofs.Unique.{below, order_read, chain_read, settles}

-- ── Where the words of a directory stand ──

-- word f of entry i
entries_at : (m : Mem) (k n : ℕ) (rest : List ℕ) (i f : ℕ) → i < n → f < 8
    → get_or (entries_from m k n rest) (8 * i + f) 0 ≡ get_or (entry_words m (k + i) []) f 0
unfolding entries_from entry_words
entries_at m k zero rest i f h b = absurd (not-suc-le-zero h)
entries_at m k (suc n) rest zero f h b =
    ap (λ (z : ℕ). get_or (entries_from m k (suc n) rest) z 0) (zero-add f)
    ∙ get_or-append (entry_words m k []) (entries_from m (suc k) n rest) 0 f b
    ∙ ap (λ (z : ℕ). get_or (entry_words m z []) f 0) (sym (add-zero k))
entries_at m k (suc n) rest (suc i) f h b =
    let e : 8 * suc i + f ≡ 8 + (8 * i + f) = omega arith in
    let s : suc k + i ≡ k + suc i = omega arith in
    ap (λ (z : ℕ). get_or (entries_from m k (suc n) rest) z 0) e
    ∙ get_or-append-add (entry_words m k []) (entries_from m (suc k) n rest) (8 * i + f) 0
    ∙ entries_at m (suc k) n rest i f (le_of_suc-le-suc h) b
    ∙ ap (λ (z : ℕ). get_or (entry_words m z []) f 0) s

past_entries : (m : Mem) (k n : ℕ) (rest : List ℕ) (b : ℕ) → get_or (entries_from m k n rest) (8 * n + b) 0 ≡ get_or rest b 0
unfolding entries_from entry_words
past_entries m k zero rest b = ap (λ (z : ℕ). get_or rest z 0) (zero-add b)
past_entries m k (suc n) rest b =
    let e : 8 * suc n + b ≡ 8 + (8 * n + b) = omega arith in
    ap (λ (z : ℕ). get_or (entries_from m k (suc n) rest) z 0) e
    ∙ get_or-append-add (entry_words m k []) (entries_from m (suc k) n rest) (8 * n + b) 0
    ∙ past_entries m (suc k) n rest b

length_entries : (m : Mem) (k n : ℕ) (rest : List ℕ) → length (entries_from m k n rest) ≡ 8 * n + length rest
unfolding entries_from entry_words
length_entries m k zero rest = omega arith
length_entries m k (suc n) rest = omega (arith, length_entries m (suc k) n rest)

length_buckets : (m : Mem) (b n : ℕ) → length (buckets_from m b n) ≡ n
unfolding buckets_from
length_buckets m b zero = refl
length_buckets m b (suc n) = ap suc (length_buckets m (suc b) n)

buckets_at : (m : Mem) (k n b : ℕ) → b < n → get_or (buckets_from m k n) b 0 ≡ after (m.chained (k + b)) NONE
unfolding buckets_from
buckets_at m k zero b h = absurd (not-suc-le-zero h)
buckets_at m k (suc n) zero h = ap (λ (z : ℕ). after (m.chained z) NONE) (sym (add-zero k))
buckets_at m k (suc n) (suc b) h = buckets_at m (suc k) n b (le_of_suc-le-suc h) ∙ ap (λ (z : ℕ). after (m.chained z) NONE) (omega arith)

module _ (m : Mem) where
  body : List ℕ
  body = entries_from m 0 (entry_count m) (buckets_from m 0 (2 ^ index_bits m))

  front : List ℕ
  front =
      policy_of m ∷ capacity_of m ∷ entry_count m ∷ index_bits m ∷ first_of m ∷ second_of m ∷ word6_of m
      ∷ after (m.order 1) NONE ∷ before (m.order 1) NONE ∷ after (m.order 2) NONE ∷ before (m.order 2) NONE
      ∷ after (m.order 3) NONE ∷ before (m.order 3) NONE ∷ after (m.order 4) NONE ∷ before (m.order 4) NONE ∷ 0 ∷ []

  words_split : words m ≡ front ++ body
  unfolding words front body head_tail
  words_split = refl

  word_field : (i f : ℕ) → i < entry_count m → f < 8 → get_or (words m) (16 + 8 * i + f) 0 ≡ get_or (entry_words m i []) f 0
  unfolding front body
  word_field i f h b =
      let e : 16 + 8 * i + f ≡ 16 + (8 * i + f) = omega arith in
      ap (λ (z : ℕ). get_or (words m) z 0) e
      ∙ ap (λ (l : List ℕ). get_or l (16 + (8 * i + f)) 0) words_split
      ∙ get_or-append-add front body (8 * i + f) 0
      ∙ entries_at m 0 (entry_count m) (buckets_from m 0 (2 ^ index_bits m)) i f h b
      ∙ ap (λ (z : ℕ). get_or (entry_words m z []) f 0) (zero-add i)

  word_bucket : (b : ℕ) → b < 2 ^ index_bits m → get_or (words m) (16 + 8 * entry_count m + b) 0 ≡ after (m.chained b) NONE
  unfolding front body
  word_bucket b h =
      let e : 16 + 8 * entry_count m + b ≡ 16 + (8 * entry_count m + b) = omega arith in
      ap (λ (z : ℕ). get_or (words m) z 0) e
      ∙ ap (λ (l : List ℕ). get_or l (16 + (8 * entry_count m + b)) 0) words_split
      ∙ get_or-append-add front body (8 * entry_count m + b) 0
      ∙ past_entries m 0 (entry_count m) (buckets_from m 0 (2 ^ index_bits m)) b
      ∙ buckets_at m 0 (2 ^ index_bits m) b h
      ∙ ap (λ (z : ℕ). after (m.chained z) NONE) (zero-add b)

  at_top : (t : ℕ) → t < 7 → get_or (words m) t 0 ≡ m.tops t
  unfolding words head_tail
  at_top zero h = refl
  at_top (suc zero) h = refl
  at_top (suc (suc zero)) h = refl
  at_top (suc (suc (suc zero))) h = refl
  at_top (suc (suc (suc (suc zero)))) h = refl
  at_top (suc (suc (suc (suc (suc zero))))) h = refl
  at_top (suc (suc (suc (suc (suc (suc zero)))))) h = refl
  at_top (suc (suc (suc (suc (suc (suc (suc t))))))) h = absurd (omega arith)

  at_head : (j : ℕ) → (1 ≤ j) × (j ≤ 4) → (get_or (words m) (5 + 2 * j) 0 ≡ after (m.order j) NONE) × (get_or (words m) (6 + 2 * j) 0 ≡ before (m.order j) NONE)
  unfolding words head_tail
  at_head zero h = absurd (omega arith)
  at_head (suc zero) h = (refl, refl)
  at_head (suc (suc zero)) h = (refl, refl)
  at_head (suc (suc (suc zero))) h = (refl, refl)
  at_head (suc (suc (suc (suc zero)))) h = (refl, refl)
  at_head (suc (suc (suc (suc (suc j))))) h = absurd (omega arith)

  at_place : (q : Place) → Valid (entry_count m) (index_bits m) q → get_or (words m) (addr (entry_count m) q) 0 ≡ image m q
  unfolding entry_words
  at_place (top t) h = at_top t h
  at_place (head j) h = (at_head j h).0
  at_place (tail j) h = (at_head j h).1
  at_place (bucket b) h = word_bucket b h
  at_place end h = unfold words head_tail in refl
  at_place (cell page i) h = word_field i 0 h (lit< tt)
  at_place (cell list i) h = word_field i 1 h (lit< tt)
  at_place (cell slot i) h = word_field i 2 h (lit< tt)
  at_place (cell prev i) h = word_field i 3 h (lit< tt)
  at_place (cell next i) h = word_field i 4 h (lit< tt)
  at_place (cell chain i) h = word_field i 5 h (lit< tt)
  at_place (cell mark i) h = word_field i 6 h (lit< tt)
  at_place (cell spare i) h = word_field i 7 h (lit< tt)

  words_length : length (words m) ≡ 16 + 8 * entry_count m + 2 ^ index_bits m
  unfolding words head_tail
  words_length = omega (arith, length_entries m 0 (entry_count m) (buckets_from m 0 (2 ^ index_bits m)), length_buckets m 0 (2 ^ index_bits m))

  pub words_hold : Holds (entry_count m) (index_bits m) (words m) (image m)
  words_hold = record { size = words_length; at = at_place }

-- ── The directory of words ──

no_members : (L : List ℕ) → ((i : ℕ) → has L i ≡ true → ⊥) → L ≡ []
unfolding has
no_members [] h = refl
no_members (x ∷ L) h = absurd (h x (simp (eqb_same x)))

-- two directories are equal if they are field by field
pub mem_eq : (a b : Mem) → a.tops ≡ b.tops → a.pages ≡ b.pages → a.lists ≡ b.lists → a.slots ≡ b.slots → a.marks ≡ b.marks → a.order ≡ b.order → a.chained ≡ b.chained → a ≡ b
mem_eq a b t p l s k o c = λ i. record { tops = t i; pages = p i; lists = l i; slots = s i; marks = k i; order = o i; chained = c i }

module _ (ws : List ℕ) (m : Mem) (R : Repr ws m) (K : Canonical m) where
  E-word : get_or ws 2 0 ≡ entry_count m
  E-word = R.holds.at (top 2) (omega arith)

  field_back : (f d : ℕ) (g : ℕ → ℕ) → ((i : ℕ) → i < entry_count m → get_or ws (16 + 8 * i + f) 0 ≡ g i) → ((i : ℕ) → entry_count m ≤ i → g i ≡ d) → field ws f d ≡ g
  unfolding field
  field_back f d g a c = fun_ext (λ i. below i (entry_count m)
      (λ h. simp (E-word, lt-ltb i (entry_count m) h) (a i h))
      (λ h. simp (E-word, le-ltb i (entry_count m) h) (sym (c i h))))

  tops_back : top_of ws ≡ m.tops
  unfolding top_of
  tops_back = fun_ext (λ t. below t 7 (λ h. simp (lt-ltb t 7 h) (R.holds.at (top t) h)) (λ h. simp (le-ltb t 7 h) (sym (K.tops t h))))

  order_back : list_of ws ≡ m.order
  unfolding list_of
  order_back = fun_ext (λ j. below j 1
      (λ h. simp (lt-leb 1 j h) (sym (no_members (m.order j) (λ i g. omega (arith, R.fine.range j i g)))))
      (λ h. below 4 j
      (λ g. simp (le-leb 1 j h, lt-leb j 4 g) (sym (no_members (m.order j) (λ i k. omega (arith, R.fine.range j i k)))))
      (λ g. simp (le-leb 1 j h, le-leb j 4 g) (order_read ws m R j (h, g)))))

  chained_back : chain_of ws ≡ m.chained
  unfolding chain_of
  chained_back = fun_ext (λ b. below b (2 ^ index_bits m)
      (λ h. simp (R.holds.at (top 3) (omega arith), lt-ltb b (2 ^ index_bits m) h) (ap (λ (n : ℕ). walk NONE (get_or ws 2 0 + 1) (λ i. get_or ws (16 + 8 * i + 5) 0) (get_or ws (16 + 8 * n + b) 0)) E-word ∙ chain_read ws m R b h))
      (λ h. simp (R.holds.at (top 3) (omega arith), le-ltb b (2 ^ index_bits m) h)
      (sym (no_members (m.chained b) (λ i k. omega (arith, (R.fine.chains.member b i k).1, bucket_lt (index_bits m) (m.pages i) R.fine.bits))))))

  -- words stand for one canonical directory only
  pub decode_repr : decode ws ≡ m
  unfolding decode
  decode_repr = mem_eq (decode ws) m tops_back
      (field_back 0 NONE m.pages (λ i h. R.holds.at (cell page i) h) K.pages)
      (field_back 1 0 m.lists (λ i h. R.holds.at (cell list i) h) K.lists)
      (field_back 2 NONE m.slots (λ i h. R.holds.at (cell slot i) h) K.slots)
      (field_back 6 0 m.marks (λ i h. R.holds.at (cell mark i) h) K.marks)
      order_back chained_back

pub words_repr : (m : Mem) → Fine m → Repr (words m) m
words_repr m F = record { holds = words_hold m; fine = F }

-- a directory comes back from its words
pub decode_words : (m : Mem) → Shaped m → decode (words m) ≡ m
decode_words m s = decode_repr (words m) m (words_repr m s.fine) s.canonical

-- so does one whose page index is right
pub decode_indexed : (m : Mem) → Indexed m → decode (words m) ≡ m
decode_indexed m I = decode_words m (record { fine = I.fine; canonical = I.canonical })

-- the words that stand for a directory are its words
pub repr_words : (ws : List ℕ) (m : Mem) → Repr ws m → words m ≡ ws
repr_words ws m R = settles (entry_count m) (index_bits m) (words m) ws (image m) (words_hold m) R.holds
