-- A directory settles every word: two slices that are one directory are equal. And a slice is one directory at most, as far as its lists go.
use Prim.Native.Nat.{ℕ, zero, suc, ◌+◌, ◌*◌, ◌-◌, ◌/◌, ◌%◌, ◌^◌, ◌≤◌, ◌<◌}
use mathlib.Core.Path.{◌≡◌, refl, sym, ap, ◌∙◌, subst}
use mathlib.Core.List.{List, [], ◌∷◌, ◌++◌, append_assoc}
use native.Mathlib.Omega.{arith}
use native.Mathlib.Decide.{dec_lt}
use lib.ListN.{length, get_or}
use lib.Seq.{ext_get_or}
use borrow.Author.Tests.{ne_eqb}
use Rattle.meaning.specs.Neighbours.{NONE, has, behind, after}
use Rattle.invariants.specs.Places.{Col, page, list, slot, prev, next, chain, mark, spare, num, Place, top, head, tail, bucket, end, cell, Image, Valid, addr, Holds, Family, Repr}
use Rattle.meaning.specs.Mem.{Mem, home, entry_count, index_bits}
use Rattle.invariants.proofs.Chained.{has_mid, behind_at, holes}
use Rattle.invariants.proofs.Lists.{split}
use Rattle.meaning.specs.Base.{walk}

record Somewhere (n k a : ℕ) : Type 0 where
  place : Place
  valid : Valid n k place
  here : addr n place ≡ a

col : (f : ℕ) → f < 8 → (c : Col) × (num c ≡ f)
col zero h = (page, refl)
col (suc zero) h = (list, refl)
col (suc (suc zero)) h = (slot, refl)
col (suc (suc (suc zero))) h = (prev, refl)
col (suc (suc (suc (suc zero)))) h = (next, refl)
col (suc (suc (suc (suc (suc zero))))) h = (chain, refl)
col (suc (suc (suc (suc (suc (suc zero)))))) h = (mark, refl)
col (suc (suc (suc (suc (suc (suc (suc zero))))))) h = (spare, refl)
col (suc (suc (suc (suc (suc (suc (suc (suc f)))))))) h = absurd (omega arith)

pub below : {P : Type 0} (a b : ℕ) → (a < b → P) → (b ≤ a → P) → P
below {P} a b f g = go (dec_lt a b)
  where
    go : Dec (a < b) → P
    go (yes h) = f h
    go (no h) = g (omega arith)

-- every address is some place's
cover : (n k a : ℕ) → a < 16 + 8 * n + 2 ^ k → Somewhere n k a
cover n k a h =
    below a 7 (λ p. record { place = top a; valid = p; here = refl }) (λ p.
    below a 15 (λ q. split (a % 2) 1
    (λ e t. record { place = head ((a - 5) / 2); valid = omega arith; here = omega arith })
    (λ e t. record { place = tail ((a - 6) / 2); valid = omega arith; here = omega arith })) (λ q.
    below a 16 (λ r. record { place = end; valid = tt; here = omega arith }) (λ r.
    below a (16 + 8 * n) (λ s. let c = col ((a - 16) % 8) (omega arith) in record { place = cell c.0 ((a - 16) / 8); valid = omega arith; here = omega (arith, c.1) })
    (λ s. record { place = bucket (a - (16 + 8 * n)); valid = omega arith; here = omega arith }))))

pub settles : (n k : ℕ) (ws ws' : List ℕ) (w : Image) → Holds n k ws w → Holds n k ws' w → ws ≡ ws'
settles n k ws ws' w H H' = ext_get_or 0 ws ws' (H.size ∙ sym H'.size) (λ a h.
    let s = cover n k a (rw H.size at h) in
    subst (λ (b : ℕ). get_or ws b 0 ≡ get_or ws' b 0) s.here (H.at s.place s.valid ∙ sym (H'.at s.place s.valid)))

-- the numbers from e on, by the links in field f, at most k of them
abbrev linked_from : List ℕ → ℕ → ℕ → ℕ → List ℕ
linked_from ws f k e = walk NONE k (λ i. get_or ws (16 + 8 * i + f) 0) e

module _ (ws : List ℕ) (f n : ℕ) (few : n ≤ 1024) (ord : ℕ → List ℕ) (key : ℕ → ℕ) (F : Family n ord key)
    (word : (i : ℕ) → i < n → get_or ws (16 + 8 * i + f) 0 ≡ after (ord (key i)) i) (l : ℕ) where
  from : (passed rest : List ℕ) (k : ℕ) → ord l ≡ passed ++ rest → length rest ≤ k → linked_from ws f k (after rest NONE) ≡ rest
  unfolding walk behind
  from passed [] zero e h = refl
  from passed [] (suc k) e h = refl
  from passed (x ∷ r) zero e h = absurd (omega arith)
  from passed (x ∷ r) (suc k) e h =
      let on = F.member l x (ap (λ (L : List ℕ). has L x) e ∙ has_mid passed x r) in
      let on_to : get_or ws (16 + 8 * x + f) 0 ≡ after r NONE = word x on.0 ∙ ap (λ (b : ℕ). after (ord b) x) on.1 ∙ ap (λ (L : List ℕ). after L x) e
      ∙ behind_at NONE passed x r (rw e at (F.once l)) (ne_eqb x NONE (omega (arith, on.0))) in
      simp (ne_eqb x NONE (omega (arith, on.0)), on_to)
      (ap (λ (L : List ℕ). x ∷ L) (from (passed ++ (x ∷ [])) r k (e ∙ sym (append_assoc passed (x ∷ []) r)) (omega arith)))

  pub read_back : walk NONE (n + 1) (λ i. get_or ws (16 + 8 * i + f) 0) (after (ord l) NONE) ≡ ord l
  read_back = from [] (ord l) (n + 1) refl (omega (arith, holes n (ord l) (F.once l) (λ i g. (F.member l i g).0)))

-- a list of a directory, read off the words
pub order_read : (ws : List ℕ) (m : Mem) → Repr ws m → (j : ℕ) → (1 ≤ j) × (j ≤ 4) → walk NONE (get_or ws 2 0 + 1) (λ i. get_or ws (16 + 8 * i + 4) 0) (get_or ws (5 + 2 * j) 0) ≡ m.order j
order_read ws m R j hj = rw (R.holds.at (top 2) (omega arith), R.holds.at (head j) hj)
    (read_back ws 4 (entry_count m) R.fine.few m.order m.lists R.fine.linked (λ i h. R.holds.at (cell next i) h) j)

pub chain_read : (ws : List ℕ) (m : Mem) → Repr ws m → (b : ℕ) → b < 2 ^ index_bits m → walk NONE (get_or ws 2 0 + 1) (λ i. get_or ws (16 + 8 * i + 5) 0) (get_or ws (16 + 8 * entry_count m + b) 0) ≡ m.chained b
chain_read ws m R b hb = rw (R.holds.at (top 2) (omega arith), R.holds.at (bucket b) hb)
    (read_back ws 5 (entry_count m) R.fine.few m.chained (λ i. home m (m.pages i)) R.fine.chains (λ i h. R.holds.at (cell chain i) h) b)
