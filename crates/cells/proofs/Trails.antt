-- One step along a trail.
use Prim.Native.Nat.{ℕ, zero, suc, ◌+◌, ◌*◌, ◌-◌, ◌≤◌, ◌<◌}
use mathlib.Core.Path.{◌≡◌, refl, sym, ap, subst, ◌∙◌}
use mathlib.Core.List.{List, [], ◌∷◌}
use native.Mathlib.Omega.{arith}
use lib.ListN.{length, get_or}
use borrow.Author.Tests.{eq-eqb, ne_eqb}
use Rattle.meaning.specs.Neighbours.{NONE, after}
use Rattle.meaning.specs.Layout.{cell_at}
use Rattle.meaning.specs.Mem.{word}
use Rattle.invariants.specs.Places.{Family}
use Rattle.invariants.proofs.Lists.{split}
use Rattle.cells.specs.Trail.{trail, Readable}
use Rattle.cells.proofs.Ways.{Way, start, onward, step, none_left, all_passed}

module _ (ws : List ℕ) (f : ℕ) where
  pub trail_none : (k i : ℕ) → i ≡ NONE → trail ws f k i ≡ []
  unfolding trail
  trail_none zero i e = refl
  trail_none (suc k) i e = simp (eq-eqb i NONE e)

  pub trail_over : (k i : ℕ) → k ≡ 0 → trail ws f k i ≡ []
  unfolding trail
  trail_over zero i e = refl
  trail_over (suc k) i e = absurd (omega arith)

  pub trail_step : (k i : ℕ) {i' k' : ℕ} → (k ≡ 0 → ⊥) → (i ≡ NONE → ⊥) → i' ≡ get_or ws (cell_at i f) 0 → k' ≡ k - 1 → trail ws f k i ≡ i ∷ trail ws f k' i'
  unfolding trail
  trail_step zero i z n e e' = absurd (z refl)
  trail_step (suc k) i {k' = k'} z n e e' = let u : k' ≡ k = omega arith in rw (e, u) (simp (ne_eqb i NONE n))

-- the words of what stands in front may be read, and of what is behind it
pub readable_head : (ws : List ℕ) {i : ℕ} {L M : List ℕ} → L ≡ i ∷ M → Readable ws L → 16 + 8 * i + 8 ≤ length ws
readable_head ws e r = subst (Readable ws) e r 0 (omega arith)

pub readable_tail : (ws : List ℕ) {i : ℕ} {L M : List ℕ} → L ≡ i ∷ M → Readable ws L → Readable ws M
readable_tail ws e r k h = subst (Readable ws) e r (suc k) (omega arith)

pub readable_more : (ws : List ℕ) (i : ℕ) (L : List ℕ) → 16 + 8 * i + 8 ≤ length ws → Readable ws L → Readable ws (i ∷ L)
readable_more ws i L h r zero g = h
readable_more ws i L h r (suc k) g = r k (omega arith)

-- as many as may be passed, at most
pub trail_short : (ws : List ℕ) (f k i : ℕ) → length (trail ws f k i) ≤ k
unfolding trail
trail_short ws f zero i = omega arith
trail_short ws f (suc k) i = split i NONE
    (λ p t. simp t (omega arith))
    (λ p t. simp t (omega (arith, trail_short ws f k (get_or ws (cell_at i f) 0))))

-- what is left of a list of a family once k numbers of it were passed
module _ (ws : List ℕ) (f n : ℕ) (few : n ≤ 1024) (long : 16 + 8 * n ≤ length ws) (ord : ℕ → List ℕ) (key : ℕ → ℕ) (F : Family n ord key)
    (link : (i : ℕ) → i < n → word ws (cell_at i f) ≡ after (ord (key i)) i) (l : ℕ) where
  trail_left : (j : ℕ) {i k : ℕ} (w : Way (ord l) i k) → k + j ≡ n → (trail ws f j i ≡ w.rest) × Readable ws (trail ws f j i)
  unfolding trail
  trail_left zero w e = (sym (all_passed ws f n few ord key F link l w (omega (arith, e))), λ k h. absurd (omega arith))
  trail_left (suc j) {i} {k} w e = split i NONE
      (λ p t. simp t (sym (none_left ws f n few ord key F link l w p), λ k h. absurd (omega arith)))
      (λ p t. let s = step ws f n few ord key F link l w p in let more = trail_left j (onward w s refl) (omega (arith, e)) in
      simp t (ap (λ (r : List ℕ). i ∷ r) more.0 ∙ sym s.is, readable_more ws i _ (omega (arith, s.real, long)) more.1))

  pub trail_whole : {i : ℕ} → i ≡ after (ord l) NONE → (trail ws f n i ≡ ord l) × Readable ws (trail ws f n i)
  trail_whole e = trail_left n (start e) (omega arith)
