-- Directories without orders stay fine, whatever lists their entries name.
use Prim.Native.Nat.{ℕ, ◌<◌}
use mathlib.Core.Path.{◌≡◌, sym, ap, ◌∙◌, subst}
use mathlib.Core.Bool.{false}
use mathlib.Core.List.{List, []}
use native.Mathlib.Omega.{arith}
use Rattle.meaning.specs.Neighbours.{NONE, put, has, remove, Nodup}
use Rattle.meaning.specs.Mem.{Mem, off, hang, with_slot, entry_count}
use Rattle.invariants.specs.Places.{Fine}
use Rattle.invariants.proofs.Lists.{split, no_true}
use Rattle.invariants.proofs.Fine.{hang_fine, slot_fine}
use Rattle.theorems.specs.Change.{placed}

bare_fine : (m : Mem) → Fine m → (ls : ℕ → ℕ) (o : ℕ → List ℕ) → ((j : ℕ) → o j ≡ [])
    → Fine (record { tops = m.tops; pages = m.pages; lists = ls; slots = m.slots; marks = m.marks; order = o; chained = m.chained })
unfolding has Nodup
bare_fine m F ls o bare = record {
  few = F.few;
  bits = F.bits;
  chains = F.chains;
  used = F.used;
  apart = F.apart;
  linked = record { once = λ l. subst Nodup (sym (bare l)) tt; member = λ l i h. no_true (empty l i ∙ h) };
  range = λ l i h. no_true (empty l i ∙ h);
}
  where
    empty : (l i : ℕ) → false ≡ has (o l) i
    empty l i = sym (ap (λ (L : List ℕ). has L i) (bare l))

-- a list of none stays one
pub off_bare : (m : Mem) (e : ℕ) → ((j : ℕ) → m.order j ≡ []) → (j : ℕ) → (off e m).order j ≡ []
unfolding off remove
off_bare m e bare j = split j (m.lists e) (λ z t. simp t (ap (remove e) (bare (m.lists e)))) (λ z t. simp t (bare j))

-- an entry taken off its list
pub off_fine_bare : (m : Mem) → Fine m → (e : ℕ) → ((j : ℕ) → m.order j ≡ []) → Fine (off e m)
off_fine_bare m F e bare = let k = off_bare m e bare in unfold off in bare_fine m F (put m.lists e 0) (put m.order (m.lists e) (remove e (m.order (m.lists e)))) (unfold off in k)

-- an entry with a new page
pub placed_fine_bare : (m : Mem) → Fine m → (e p j s : ℕ) → e < entry_count m → m.pages e ≡ NONE → p < NONE → ((i : ℕ) → m.pages i ≡ p → ⊥) → ((j : ℕ) → m.order j ≡ [])
    → Fine (placed e p j s m.order m)
placed_fine_bare m F e p j s he free hp absent bare =
    let G = slot_fine (hang e p m) (hang_fine m F e p he free (λ z. omega arith) absent) e s in
    unfold placed with_slot hang in bare_fine (with_slot e s (hang e p m)) G (put m.lists e j) m.order bare
