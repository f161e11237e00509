-- The search for an entry by its page.
use Prim.Native.Nat.{ℕ, ◌<◌}
use mathlib.Core.Path.{◌≡◌, sym, ◌∙◌}
use Rattle.meaning.specs.Neighbours.{NONE}
use Rattle.meaning.specs.Mem.{Mem, entry_of, entry_count}
use Rattle.invariants.specs.Places.{Fine}
use Rattle.invariants.proofs.Numbers.{find_hit, find_miss, find_has}

-- the entry of a page is the one that has it
pub entry_at : (m : Mem) → Fine m → (p e : ℕ) → (p ≡ NONE → ⊥) → e < entry_count m → m.pages e ≡ p → entry_of m p ≡ e
unfolding entry_of
entry_at m F p e real h z =
    let k = find_hit (entry_count m) m.pages p e h z in
    sym (F.apart e (entry_of m p) (λ y. real (sym z ∙ y)) (z ∙ sym k.0))

-- where no entry has the page, there is none
pub entry_none : (m : Mem) (p : ℕ) → ((i : ℕ) → i < entry_count m → m.pages i ≡ p → ⊥) → entry_of m p ≡ entry_count m
unfolding entry_of
entry_none m p a = find_miss (entry_count m) m.pages p a

-- an entry that is found has the page
pub entry_has : (m : Mem) (p : ℕ) → entry_of m p < entry_count m → m.pages (entry_of m p) ≡ p
unfolding entry_of
entry_has m p h = find_has (entry_count m) m.pages p h
