-- LRU keeps its directory, and answers with the right slot; and what it shares with segmented LRU.
use Prim.Native.Nat.{ℕ, ◌+◌, ◌<◌}
use mathlib.Core.Path.{◌≡◌, sym, ap, ◌∙◌}
use native.Mathlib.Omega.{arith}
use lib.Dec.{leb}
use borrow.Author.Tests.{eq-eqb, ne_eqb, leb-true, leb-false}
use Rattle.meaning.specs.Base.{one_if}
use Rattle.meaning.specs.Neighbours.{NONE}
use Rattle.meaning.specs.Layout.{is_held}
use Rattle.meaning.specs.Mem.{Mem, held, full, size, back, list_on, to_front, capacity_of, entry_count}
use Rattle.meaning.specs.Room.{enters}
use Rattle.meaning.specs.Lru.{lru_room, lru}
use Rattle.invariants.specs.Proper.{Proper}
use Rattle.invariants.specs.Ram.{Steps}
use Rattle.invariants.specs.Assumed.{Lru}
use Rattle.invariants.proofs.Numbers.{by_test}
use Rattle.theorems.specs.Change.{Quiet}
use Rattle.theorems.specs.Served.{Served}
use Rattle.theorems.specs.Goes.{Made}
use Rattle.theorems.proofs.Rooms.{entry_cases}
use Rattle.theorems.proofs.Counts.{held_sizes, unlisted, list_cases, back_list, held_most}
use Rattle.theorems.proofs.Serving.{served_hit, steps_of}
use Rattle.theorems.proofs.Going.{held1, front_goes, out_none, out_off, made_of, entering}

-- ── What LRU and segmented LRU share: no ghosts, and as many entries as C ──

-- the sizes with room for a page in m, and list 2 as it was
pub record Less (m n : Mem) : Type 0 where
  pub held : size n 1 + size n 2 < capacity_of m
  pub second : size n 2 ≡ size m 2
  pub bare : (size n 3 ≡ 0) × (size n 4 ≡ 0)

module _ (m : Mem) (P : Proper m) (all : entry_count m ≡ capacity_of m) (bare : (size m 3 ≡ 0) × (size m 4 ≡ 0)) (under : size m 2 < capacity_of m) where
  -- room is made
  pub lru_room_lem : Made (Less m) m (lru_room m)
  unfolding lru_room full one_if
  lru_room_lem =
      let two = held_sizes m P.seated.indexed P.ordered in let most = held_most m in
      by_test (leb (capacity_of m) (held m))
      (λ t. let f : size m 1 + size m 2 ≡ capacity_of m = omega (arith, leb-true (capacity_of m) (held m) t, two, most) in
      simp t (made_of (out_off m P (back m 1) 1 (back_list m P.seated.indexed P.ordered 1 (omega arith) (omega arith)) held1) (λ F. record { held = omega (arith, F); second = omega (arith, F); bare = (omega (arith, F, bare), omega (arith, F, bare)) })))
      (λ t. let f : size m 1 + size m 2 < capacity_of m = omega (arith, leb-false (capacity_of m) (held m) t, two) in
      simp t (made_of (out_none m P (omega (arith, most, all))) (λ F. record { held = omega (arith, F); second = omega (arith, F); bare = (omega (arith, F, bare), omega (arith, F, bare)) })))

  -- a new page enters at the front of list 1
  pub lru_enters : (ok : Mem → Type 0) (p : ℕ) → p < NONE → ((i : ℕ) → m.pages i ≡ p → ⊥)
      → ((x : Mem) → Proper x → Quiet m x → size x 2 ≡ size m 2 → size x 3 ≡ 0 → size x 4 ≡ 0 → ok x) → Served ok m p (enters (lru_room m) p 1)
  unfolding one_if
  lru_enters ok p hp absent good =
      let D = lru_room_lem in let k = D.fits in let t = ap (λ (g : ℕ → ℕ). g 2) D.quiet.tops in
      entering ok m p (lru_room m) D 1 (omega arith) held1 hp absent (omega (arith, k, t, all))
      (λ x N G q. good x N q (omega (arith, k, G)) (omega (arith, k, G)) (omega (arith, k, G)))

-- ── LRU ──
module _ (m : Mem) (L : Lru m) where
  -- lists other than 1 are empty
  pub none_on : (x : ℕ) → (x ≡ 0 → ⊥) → (x ≡ 1 → ⊥) → size m x ≡ 0
  none_on x nz d = unlisted m L.proper.seated.indexed L.proper.ordered x nz (λ i z. d (sym z ∙ L.one i (λ y. nz (sym z ∙ y))))

  lru_of_lem : (x : Mem) → Proper x → Quiet m x → size x 2 ≡ 0 → size x 3 ≡ 0 → size x 4 ≡ 0 → Lru x × Quiet m x
  lru_of_lem x N q a b c = (
    record {
      proper = N;
      one = λ i u. list_cases x N.seated.indexed N.ordered i u (λ z _. z) (λ _ h. absurd (omega arith)) (λ _ h. absurd (omega arith)) (λ _ h. absurd (omega arith));
      all = rw q.tops L.all;
      some = rw q.tops L.some;
    },
    q,
  )

  -- a request is served, and leaves the header and the marks
  pub lru_served : (p : ℕ) → p < NONE → Served (λ n. Lru n × Quiet m n) m p (lru m p)
  unfolding lru one_if
  lru_served p hp =
      let two = none_on 2 (omega arith) (omega arith) in let three = none_on 3 (omega arith) (omega arith) in let four = none_on 4 (omega arith) (omega arith) in
      entry_cases m L.proper.seated.indexed p hp
      (λ e z w on.
      let l : m.lists e ≡ 1 = L.one e (λ y. omega (arith, z, L.proper.ordered.idle e y)) in
      let T = front_goes m L.proper e 1 1 l held1 (omega arith) held1 in let F = T.sizes in
      simp (w, eq-eqb (list_on m p) 1 (on ∙ l)) (served_hit (λ n. Lru n × Quiet m n) m p e (to_front e 1 m) z (ap is_held l ∙ held1) T.still
      (lru_of_lem (to_front e 1 m) T.proper T.quiet (omega (arith, F, two)) (omega (arith, F, three)) (omega (arith, F, four)))))
      (λ absent on. simp (ne_eqb (list_on m p) 1 (λ y. omega (arith, on, y)))
      (lru_enters m L.proper L.all (three, four) (omega (arith, two, L.some)) (λ n. Lru n × Quiet m n) p hp absent
      (λ x N q a b c. lru_of_lem x N q (a ∙ two) b c)))

-- LRU is a policy that never names the wrong slot
pub lru_steps : Steps Lru lru
lru_steps = steps_of (λ m L. L.proper.seated) lru_served
