-- What an answer of `find` says.
use Prim.Native.Nat.{ℕ, ◌<◌}
use mathlib.Core.Path.{◌≡◌, sym, ap, ◌∙◌, subst}
use mathlib.Core.Bool.{true}
use mathlib.Core.List.{List, [], ◌∷◌}
use native.Mathlib.Omega.{arith}
use borrow.Author.Tests.{eq-eqb}
use Rattle.std.specs.Prelude.{Some, None}
use Rattle.index.specs.declared.Found.{Found}
use Rattle.meaning.specs.Neighbours.{NONE, has, ahead, Nodup}
use Rattle.meaning.specs.Mem.{Mem, home, entry_of, entry_count}
use Rattle.invariants.specs.Places.{Fine}
use Rattle.invariants.specs.Proper.{Indexed}
use Rattle.invariants.proofs.Lists.{split, no_true}
use Rattle.invariants.proofs.Entry.{entry_at, entry_none}
use Rattle.index.specs.Asked.{Hung}
use Rattle.index.specs.Told.{look_in, lookup, Answers}

-- what is found is on the chain, has the page, and stands behind what is found with it
found_in : (pages : ℕ → ℕ) (a : ℕ) (L : List ℕ) (p : ℕ) (f : Found) → Nodup L → Some f ≡ look_in pages a L p → (has L f.entry ≡ true) × (pages f.entry ≡ p) × (f.before ≡ ahead a L f.entry)
unfolding look_in has ahead Nodup
found_in pages a [] p f d e = let z : ◌≡◌ {A = ℕ} 0 1 = cc in absurd (omega arith)
found_in pages a (y ∷ L) p f d e = let x = f.entry in let b = f.before in split (pages y) p
    (λ q t. let u : Some f ≡ Some (record { entry = y; before = a }) = e ∙ simp t in let ux : x ≡ y = cc in let ub : b ≡ a = cc in
    (simp (eq-eqb x y ux), ap pages ux ∙ q, ub ∙ simp (eq-eqb x y ux)))
    (λ q t. let k = found_in pages y L p f d.1 (e ∙ simp t) in split x y
    (λ r u. no_true (sym d.0 ∙ ap (has L) (sym r) ∙ k.0))
    (λ r u. (simp u k.0, k.1, k.2 ∙ simp u)))

-- an entry on the chain of its page is found
not_nothing : (pages : ℕ → ℕ) (a e : ℕ) (L : List ℕ) → has L e ≡ true → look_in pages a L (pages e) ≡ None → ⊥
unfolding has look_in
not_nothing pages a e [] h n = no_true h
not_nothing pages a e (y ∷ L) h n = split (pages y) (pages e)
    (λ q u. let z : Some (record { entry = y; before = a }) ≡ None = sym (simp u) ∙ n in let w : ◌≡◌ {A = ℕ} 0 1 = cc in omega arith)
    (λ q u. split e y (λ p t. q (ap pages (sym p))) (λ p t. not_nothing pages y e L (simp t at h) (sym (simp u) ∙ n)))

-- entry e has the page p, and is on its chain behind a
pub record FoundAt (p e a : ℕ) (m : Mem) : Type 0 where
  pub hung : Hung e a m
  pub page : m.pages e ≡ p
  pub entry : entry_of m p ≡ e

pub found_at : {p : ℕ} {f : Found} (m : Mem) → Fine m → Answers p (Some f) m → FoundAt p f.entry f.before m
unfolding lookup
found_at {p} {f} m F h =
    let e = f.entry in
    let k = found_in m.pages NONE (m.chained (home m p)) p f (F.chains.once (home m p)) h.is in
    let b = F.chains.member (home m p) e k.0 in
    record {
      hung = record { within = b.0; on = rw b.1 k.0; behind = rw b.1 k.2 };
      page = k.1;
      entry = entry_at m F p e (λ z. F.used (home m p) e k.0 (k.1 ∙ z)) b.0 k.1;
    }

-- an entry that is on the chain of its page is the one found
pub found_again : {e : ℕ} {f : Found} (m : Mem) → Fine m → has (m.chained (home m (m.pages e))) e ≡ true → Answers (m.pages e) (Some f) m → Hung e f.before m
found_again {e} {f} m F on h =
    let k = found_at m F h in
    subst (λ (y : ℕ). Hung y f.before m) (sym (F.apart e f.entry (F.used (home m (m.pages e)) e on) (sym k.page))) k.hung

pub found_sure : {e : ℕ} (m : Mem) → has (m.chained (home m (m.pages e))) e ≡ true → Answers (m.pages e) None m → ⊥
unfolding lookup
found_sure {e} m on h = not_nothing m.pages NONE e (m.chained (home m (m.pages e))) on (sym h.is)

-- no entry has the page p
pub record FoundNone (p : ℕ) (m : Mem) : Type 0 where
  pub absent : (i : ℕ) → m.pages i ≡ p → ⊥
  pub entry : entry_of m p ≡ entry_count m

pub found_none : {p : ℕ} (m : Mem) → Indexed m → p < NONE → Answers p None m → FoundNone p m
found_none {p} m I hp h = record {
  absent = absent;
  entry = entry_none m p (λ i l. absent i);
}
  where
    absent : (i : ℕ) → m.pages i ≡ p → ⊥
    absent i z = found_sure m (I.hung i (λ y. omega (arith, z, y))) (subst (λ (x : ℕ). Answers x None m) (sym z) h)
