-- The pages of a list, written over the front of a buffer.
use Prim.Native.Nat.{ℕ, suc, ◌+◌, ◌*◌, ◌≤◌, ◌<◌}
use mathlib.Core.Path.{◌≡◌, refl, sym, ap, ap₂, subst, ◌∙◌}
use mathlib.Core.Bool.{true, or-true}
use mathlib.Core.List.{List, [], ◌∷◌, ◌++◌, append_assoc, map, map-append}
use native.Mathlib.Omega.{arith}
use lib.ListN.{length, get_or, drop, set, length-append, length-map}
use lib.Seq.{drop-cons, set-append_seam}
use Rattle.std.proofs.Math.Nat.{zero-add}
use Rattle.std.specs.declared.iter.Enumerate.{Enumerate}
use Rattle.std.specs.List.{enumerate_from}
use Rattle.std.specs.Prelude.{Option, Some}
use Rattle.std.specs.Iterator.{Yields, YieldsFirstBy}
use Rattle.std.specs.Iterator.Adapters.{enumerate_steps}
use Rattle.std.proofs.lemmas.Iterator.{YieldsList}
use Rattle.std.proofs.lemmas.Iterator.Consumers.{YieldsList-from_first, YieldsList-from_enumerate, YieldsList-turn}
use Rattle.std.proofs.lemmas.List.{map-id, get_or_default}
use Rattle.std.proofs.lemmas.List.FromFn.{length-enumerate_from, get_or-enumerate_from}
use Rattle.meaning.specs.Neighbours.{has}
use Rattle.meaning.specs.Layout.{cell_at, page_col}
use Rattle.meaning.specs.Mem.{Mem, word, entry_count}
use Rattle.meaning.specs.Calls.{over}
use Rattle.invariants.specs.Places.{cell, page, Repr, Says}
use Rattle.invariants.proofs.Lists.{eqb_same}
use Rattle.cells.specs.declared.walk.Walk.{Walk}
use Rattle.cells.specs.Trail.{Readable}
use Rattle.cells.specs.Steps.{steps}
use Rattle.links.specs.Told.{Lists, Copied}

-- one more over the front
over_more : (P R : List ℕ) (v : ℕ) → length P < length R → set (over P R) (length P) v ≡ over (P ++ (v ∷ [])) R
unfolding over
over_more P R v h =
    let n : suc (length P) ≡ length (P ++ (v ∷ [])) = omega (arith, length-append P (v ∷ [])) in
    ap (λ (r : List ℕ). set (P ++ r) (length P) v) (drop-cons R (length P) 0 h)
    ∙ set-append_seam P (get_or R (length P) 0) (drop (suc (length P)) R) v
    ∙ sym (append_assoc P (v ∷ []) (drop (suc (length P)) R))
    ∙ ap (λ (n : ℕ). (P ++ (v ∷ [])) ++ drop n R) n

-- what comes of the entries of a walk, numbered
pub numbered_walk : {s s' : Enumerate Walk} {w : Walk} → s ≡ s' → s'.iter ≡ w → s'.count ≡ 0
    → YieldsList {B = ℕ × ℕ} (enumerate_steps (YieldsFirstBy (λ x. x) steps)) (λ p. (p.0, p.1)) s (enumerate_from 0 (steps w))
numbered_walk {w = w} e h z =
    YieldsList-from_enumerate (YieldsList-from_first (λ x. x) steps (steps w) (ap (λ (s : Enumerate Walk). steps s.iter) e ∙ ap steps h)) (ap (λ (s : Enumerate Walk). s.count) e ∙ z)

-- the item of a turn over a numbered list
turned : (L : List ℕ) {i k e : ℕ} → (i < length (enumerate_from 0 L)) × ((k, e) ≡ get_or (enumerate_from 0 L) i (k, e)) → (i < length L) × (k ≡ i) × (e ≡ get_or L i e)
turned L {i} {k} {e} h =
    let l : i < length L = omega (arith, h.0, length-enumerate_from 0 L) in
    let u = h.1 ∙ get_or-enumerate_from 0 L i (k, e) l in
    (l, ap (λ (p : ℕ × ℕ). p.0) u ∙ zero-add i, ap (λ (p : ℕ × ℕ). p.1) u)

-- the item of a turn over the entries of a walk, numbered
pub walk_turn : {s s' : Enumerate Walk} (w : Walk) → s ≡ s' → s'.iter ≡ w → s'.count ≡ 0
    → (Y : List (ℕ × ℕ)) (t : Enumerate Walk) → Yields (enumerate_steps (YieldsFirstBy (λ x. x) steps)) s Y t
    → (r : Option (ℕ × ℕ)) (u : Enumerate Walk) (k e : ℕ) → r ≡ Some (k, e) → enumerate_steps (YieldsFirstBy (λ x. x) steps) t r u
    → (length Y < length (steps w)) × (k ≡ length Y) × (e ≡ get_or (steps w) (length Y) e)
walk_turn w a b z Y t y r u k e q h = turned (steps w) (YieldsList-turn (numbered_walk a b z) Y t y r u (k, e) q h)

-- its entry may be read
pub turn_readable : (ws L : List ℕ) {i e : ℕ} → Readable ws L → i < length L → e ≡ get_or L i e → 16 + 8 * e + 8 ≤ length ws
turn_readable ws L {i} {e} r l u = subst (λ (x : ℕ). 16 + 8 * x + 8 ≤ length ws) (get_or_default L i 0 e l ∙ sym u) (r i l)

-- the pages written, and one more
pub copy_more : (g : ℕ → ℕ) (res : List ℕ) {res' : List ℕ} (Y : List (ℕ × ℕ)) (k e : ℕ) {v : ℕ} → k ≡ length Y → length Y < length res → v ≡ g e
    → res' ≡ over (map (λ x. g x.1) Y) res → set res' k v ≡ over (map (λ x. g x.1) (Y ++ (k, e) ∷ [])) res
copy_more g res {res'} Y k e {v} n h ev s =
    let P = map (λ (x : ℕ × ℕ). g x.1) Y in
    let a : length P ≡ length Y = length-map Y (λ (x : ℕ × ℕ). g x.1) in
    ap (λ (r : List ℕ). set r k v) s
    ∙ ap₂ (λ (i w : ℕ). set (over P res) i w) (n ∙ sym a) ev
    ∙ over_more P res (g e) (omega (arith, a))
    ∙ ap (λ (L : List ℕ). over L res) (sym (map-append (λ (x : ℕ × ℕ). g x.1) Y ((k, e) ∷ [])))

numbered : (g : ℕ → ℕ) (n : ℕ) (L : List ℕ) → map (λ (x : ℕ × ℕ). g x.1) (enumerate_from n L) ≡ map g L
numbered g n [] = refl
numbered g n (x ∷ L) = ap (λ (r : List ℕ). g x ∷ r) (numbered g (n + 1) L)

-- all were written
pub copied : {ws res res' : List ℕ} {j : ℕ} {L : List ℕ} (Y : List (ℕ × ℕ)) → Says ws (Lists j L) → map (λ (x : ℕ × ℕ). (x.0, x.1)) Y ≡ enumerate_from 0 L
    → res' ≡ over (map (λ x. word ws (cell_at x.1 page_col)) Y) res → Says ws (Copied j res res')
unfolding has
copied {ws} {res} {j = j} {L = L} Y s y e = record {
  of = λ m R. record {
    is = e ∙ ap (λ (P : List ℕ). over P res)
        (ap (λ (Z : List (ℕ × ℕ)). map (λ x. word ws (cell_at x.1 page_col)) Z) (sym (map-id Y) ∙ y)
        ∙ numbered (λ i. word ws (cell_at i page_col)) 0 L
        ∙ alike m R L (λ i h. (R.fine.linked.member j i (ap (λ (K : List ℕ). has K i) (sym (s.of m R).is) ∙ h)).0)
        ∙ ap (map m.pages) (s.of m R).is);
  };
}
  where
    alike : (m : Mem) → Repr ws m → (L : List ℕ) → ((i : ℕ) → has L i ≡ true → i < entry_count m) → map (λ i. word ws (cell_at i page_col)) L ≡ map m.pages L
    alike m R [] h = refl
    alike m R (x ∷ L) h = ap₂ (λ (a : ℕ) (r : List ℕ). a ∷ r) (R.holds.at (cell page x) (h x (simp (eqb_same x)))) (alike m R L (λ i g. h i (simp g (or-true _))))
