-- The walk along the chain of a page.
use Prim.Native.Nat.{ℕ, ◌<◌}
use mathlib.Core.Path.{◌≡◌, refl, sym, ap, ◌∙◌}
use mathlib.Core.Bool.{true, or-true}
use mathlib.Core.List.{List, [], ◌∷◌}
use native.Mathlib.Omega.{arith}
use borrow.Author.Tests.{eq-eqb, ne_eqb}
use Rattle.std.specs.Prelude.{Option, Some, None}
use Rattle.index.specs.declared.Found.{Found}
use Rattle.meaning.specs.Neighbours.{NONE, has}
use Rattle.meaning.specs.Layout.{cell_at, chain_col, page_col}
use Rattle.meaning.specs.Mem.{Mem, home, word, E, entry_count}
use Rattle.invariants.specs.Places.{top, bucket, cell, page, chain, Repr, Ready, Says}
use Rattle.invariants.proofs.Chained.{bucket_lt}
use Rattle.invariants.proofs.Lists.{eqb_same}
use Rattle.cells.specs.Trail.{trail, Readable}
use Rattle.cells.proofs.Trails.{trail_whole}
use Rattle.index.specs.Told.{Chains, look_in, lookup, Answers}
use Rattle.index.specs.Written.{bucket_on}

-- what the links lead through from the bucket of p on, as many as there are entries, is the chain of p, and its words may be read
walked : {ws : List ℕ} {b i n : ℕ} (p : ℕ) (m : Mem) → Repr ws m → b ≡ bucket_on ws p → i ≡ word ws b → n ≡ E ws
    → (trail ws chain_col n i ≡ m.chained (home m p)) × Readable ws (trail ws chain_col n i)
walked {ws} {b} {i} {n} p m R eb ei en =
    let a : n ≡ entry_count m = en ∙ R.holds.at (top 2) (omega arith) in
    rw a (trail_whole ws chain_col (entry_count m) R.fine.few (omega (arith, R.holds.size)) m.chained (λ i. home m (m.pages i)) R.fine.chains
    (λ i h. R.holds.at (cell chain i) h) (home m p)
    (ei ∙ rw (eb, R.holds.at (top 2) (omega arith), R.holds.at (top 3) (omega arith)) (R.holds.at (bucket (home m p)) (bucket_lt _ p R.fine.bits))))

pub walk_readable : {ws : List ℕ} {ok : Mem → Type 0} {b i n : ℕ} (p : ℕ) → Ready ws ok → b ≡ bucket_on ws p → i ≡ word ws b → n ≡ E ws → Readable ws (trail ws chain_col n i)
walk_readable p o eb ei en = (walked p o.mem o.repr eb ei en).1

pub walk_chains : {ws : List ℕ} {b i n : ℕ} (p : ℕ) → b ≡ bucket_on ws p → i ≡ word ws b → n ≡ E ws → Says ws (Chains p (trail ws chain_col n i))
walk_chains p eb ei en = record { of = λ m R. record { is = (walked p m R eb ei en).0 } }

-- the page that the words say of entry i
abbrev pub page_at : List ℕ → ℕ → ℕ
page_at ws i = word ws (cell_at i page_col)

-- one entry looked at: it has the page, or the search goes on behind it
pub look_hit : (g : ℕ → ℕ) (p a e : ℕ) (M : List ℕ) → g e ≡ p → look_in g a (e ∷ M) p ≡ Some (record { entry = e; before = a })
unfolding look_in
look_hit g p a e M h = simp (eq-eqb (g e) p h)

pub look_past : (g : ℕ → ℕ) (p a e : ℕ) (M : List ℕ) → (g e ≡ p → ⊥) → look_in g a (e ∷ M) p ≡ look_in g e M p
unfolding look_in
look_past g p a e M h = simp (ne_eqb (g e) p h)

pub look_end : (g : ℕ → ℕ) (p a : ℕ) → look_in g a [] p ≡ None
unfolding look_in
look_end g p a = refl

-- what is found among the words is what the directory says
pub found_by : {ws : List ℕ} {p : ℕ} {L : List ℕ} {r : Option Found} → Says ws (Chains p L) → r ≡ look_in (page_at ws) NONE L p → Says ws (Answers p r)
unfolding look_in lookup has
found_by {ws} {p} {L} s e = record {
  of = λ m R. record {
    is = e
        ∙ alike m R NONE L (λ i h. (R.fine.chains.member (home m p) i (ap (λ (K : List ℕ). has K i) (sym (s.of m R).is) ∙ h)).0)
        ∙ ap (λ (K : List ℕ). look_in m.pages NONE K p) (s.of m R).is;
  };
}
  where
    alike : (m : Mem) → Repr ws m → (a : ℕ) (L : List ℕ) → ((i : ℕ) → has L i ≡ true → i < entry_count m) → look_in (page_at ws) a L p ≡ look_in m.pages a L p
    alike m R a [] h = refl
    alike m R a (x ∷ L) h = simp (R.holds.at (cell page x) (h x (simp (eqb_same x))), alike m R x L (λ i g. h i (simp g (or-true _))))
