-- How two directories differ, as far as the proofs of the policies follow it.
use Rattle.std.specs.Prelude.{ℕ, ◌≤◌, ◌<◌, ◌≡◌, List, ◌∷◌}
use Rattle.meaning.specs.Neighbours.{NONE, put}
use Rattle.meaning.specs.Mem.{Mem, home, entry_count}
use Rattle.invariants.specs.Proper.{Sits}

-- Entry e goes to list j, and no other entry changes its list, page or slot.
pub record Moved (e j : ℕ) (m n : Mem) : Type 0 where
  pub inside : e < entry_count m
  pub size : entry_count n ≡ entry_count m
  pub lists : (i : ℕ) → n.lists i ≡ put m.lists e j i
  pub pages : (i : ℕ) → (i ≡ e → ⊥) → n.pages i ≡ m.pages i
  pub slots : (i : ℕ) → (i ≡ e → ⊥) → n.slots i ≡ m.slots i

-- The same pages are held in the same slots, and no page came.
pub record Still (m n : Mem) : Type 0 where
  pub to : {q s : ℕ} → Sits q s m → Sits q s n
  pub from : {q s : ℕ} → Sits q s n → Sits q s m
  pub pages : (p : ℕ) → p < NONE → (i : ℕ) → n.pages i ≡ p → m.pages i ≡ p

-- The header words but for word 6 are the same.
abbrev pub Header : Mem → Mem → Type 0
Header m n = (t : ℕ) → (t ≡ 6 → ⊥) → n.tops t ≡ m.tops t

-- No mark rises.
abbrev pub Calm : Mem → Mem → Type 0
Calm m n = (i : ℕ) → n.marks i ≤ m.marks i

-- The header is the same, and no mark rises.
pub record Quiet (m n : Mem) : Type 0 where
  pub tops : n.tops ≡ m.tops
  pub marks : Calm m n

-- Entry e with page p, list j and slot s, at the front of the page's chain, and with the orders o: what a new page does to a directory, with or without orders.
unfoldable pub placed : ℕ → ℕ → ℕ → ℕ → (ℕ → List ℕ) → Mem → Mem
placed e p j s o m =
    let l = e ∷ m.chained (home m p) in
    record {
      tops = m.tops;
      pages = put m.pages e p;
      lists = put m.lists e j;
      slots = put m.slots e s;
      marks = m.marks;
      order = o;
      chained = put m.chained (home m p) l;
    }
