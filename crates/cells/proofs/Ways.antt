-- A walk along a list of a family, by its links.
use Prim.Native.Nat.{ℕ, ◌+◌, ◌≤◌, ◌<◌}
use mathlib.Core.Path.{◌≡◌, refl, sym, ap, ◌∙◌}
use mathlib.Core.List.{List, [], ◌∷◌, ◌++◌, append_assoc}
use native.Mathlib.Omega.{arith}
use lib.ListN.{length, length-append}
use borrow.Author.Tests.{ne_eqb}
use Rattle.meaning.specs.Neighbours.{NONE, has, behind, after}
use Rattle.meaning.specs.Layout.{cell_at}
use Rattle.meaning.specs.Mem.{word}
use Rattle.invariants.specs.Places.{Family}
use Rattle.invariants.proofs.Chained.{holes, has_mid, behind_at}

-- k numbers of L were passed, and the next is i
pub record Way (L : List ℕ) (i k : ℕ) : Type 0 where
  pub passed : List ℕ
  pub rest : List ℕ
  pub whole : L ≡ passed ++ rest
  pub here : i ≡ after rest NONE
  pub done : length passed ≡ k

abbrev pub start : {L : List ℕ} {i : ℕ} → i ≡ after L NONE → Way L i 0
start {L} e = record { passed = []; rest = L; whole = refl; here = e; done = refl }

-- i is the first of the rest, an entry, and its word f leads to what is behind it
pub record Step (ws : List ℕ) (f n : ℕ) (rest : List ℕ) (i : ℕ) : Type 0 where
  pub more : List ℕ
  pub is : rest ≡ i ∷ more
  pub real : i < n
  pub next : word ws (cell_at i f) ≡ after more NONE

abbrev pub onward : {ws : List ℕ} {f n : ℕ} {L : List ℕ} {i i' k : ℕ} (w : Way L i k) → Step ws f n w.rest i → i' ≡ word ws (cell_at i f) → Way L i' (k + 1)
onward {i = i} w s e = record {
  passed = w.passed ++ (i ∷ []);
  rest = s.more;
  whole = w.whole ∙ ap (λ (r : List ℕ). w.passed ++ r) s.is ∙ sym (append_assoc w.passed (i ∷ []) s.more);
  here = e ∙ s.next;
  done = length-append w.passed (i ∷ []) ∙ ap (λ (x : ℕ). x + 1) w.done;
}

module _ (ws : List ℕ) (f n : ℕ) (few : n ≤ 1024) (ord : ℕ → List ℕ) (key : ℕ → ℕ) (F : Family n ord key)
    (link : (i : ℕ) → i < n → word ws (cell_at i f) ≡ after (ord (key i)) i) (l : ℕ) where
  pub step : {i k : ℕ} (w : Way (ord l) i k) → (i ≡ NONE → ⊥) → Step ws f n w.rest i
  unfolding behind
  step {i} w real = go w.rest w.whole w.here
    where
      go : (r : List ℕ) → ord l ≡ w.passed ++ r → i ≡ after r NONE → Step ws f n r i
      go [] u h = absurd (real h)
      go (x ∷ r) u h =
          let u' : ord l ≡ w.passed ++ i ∷ r = rw h u in
          let on = F.member l i (ap (λ (L : List ℕ). has L i) u' ∙ has_mid w.passed i r) in
          record {
            more = r;
            is = ap (λ (z : ℕ). z ∷ r) (sym h);
            real = on.0;
            next = link i on.0
                ∙ ap (λ (b : ℕ). after (ord b) i) on.1
                ∙ ap (λ (L : List ℕ). after L i) u'
                ∙ behind_at NONE w.passed i r (rw u' at (F.once l)) (ne_eqb i NONE (omega (arith, on.0)));
          }

  pub none_left : {i k : ℕ} (w : Way (ord l) i k) → i ≡ NONE → w.rest ≡ []
  unfolding behind
  none_left w z = go w.rest w.whole (sym z ∙ w.here)
    where
      go : (r : List ℕ) → ord l ≡ w.passed ++ r → NONE ≡ after r NONE → r ≡ []
      go [] u h = refl
      go (x ∷ r) u h = absurd (omega (arith, h, (F.member l x (ap (λ (L : List ℕ). has L x) u ∙ has_mid w.passed x r)).0))

  pub all_passed : {i k : ℕ} (w : Way (ord l) i k) → n ≤ k → w.rest ≡ []
  all_passed w h = go w.rest (ap length w.whole ∙ length-append w.passed w.rest)
    where
      go : (r : List ℕ) → length (ord l) ≡ length w.passed + length r → r ≡ []
      go [] e = refl
      go (x ∷ r) e = absurd (omega (arith, e, w.done, holes n (ord l) (F.once l) (λ z g. (F.member l z g).0)))
