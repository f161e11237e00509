-- Segmented LRU's step, from its parts.
use Prim.Native.Nat.{ℕ, ◌≤◌, ◌<◌}
use mathlib.Core.Path.{◌≡◌, sym, ◌∙◌, subst}
use mathlib.Core.Bool.{true}
use mathlib.Core.List.{List}
use native.Mathlib.Omega.{arith}
use borrow.Author.Tests.{ne_eqb}
use Rattle.meaning.specs.declared.Answer.{Answer}
use Rattle.lists.specs.Told.{Found}
use Rattle.std.specs.Prelude.{Option, Some, None}
use Rattle.meaning.specs.Neighbours.{NONE}
use Rattle.meaning.specs.Layout.{is_held, cell_at, list_col}
use Rattle.meaning.specs.Mem.{Mem, word, size, back, to_front, first_in}
use Rattle.meaning.specs.Room.{hit_at}
use Rattle.meaning.specs.Lru.{lru_room}
use Rattle.meaning.specs.Segmented.{spill, segmented}
use Rattle.invariants.specs.Places.{Repr, Ready, Turns, Says}
use Rattle.invariants.specs.Assumed.{Segmented}
use Rattle.invariants.proofs.Lists.{split, no_true}
use Rattle.theorems.proofs.Segmented.{three, four}
use Rattle.theorems.proofs.Going.{held1, held2, front_goes}
use Rattle.lists.specs.Asked.{OnList}
use Rattle.lists.specs.Asked as asked
use Rattle.lists.specs.Told.{GivesOf, Answers}
use Rattle.rooms.specs.Rooms.{Serves, asking, filling, entering, hit_front, Lined, Evicts, Then, Fronts}
use Rattle.segmented.specs.Inner.{hit_spill}
use Rattle.rooms.proofs.Rooming.{ready_as, serves_as}
use Rattle.rooms.proofs.Backs.{keeps}
use Rattle.rooms.proofs.Spaces.{lined, lru_space, is_over, not_over, found_list, hits, found_nothing, found_off}

-- ── Q spills ──

module _ {ws : List ℕ} {n first : ℕ} (s : Says ws (GivesOf size 2 n)) (ef : first ≡ first_in ws) where
  -- Q is not over first, and nothing moves
  pub spill_none : n ≤ first → Turns ws ws Lined spill
  unfolding spill
  spill_none h = record { to = λ m R o. simp (not_over 4 (omega arith) s ef h m R) R }

  -- Q is over first, and its back goes to P
  pub spill_front : {ws' : List ℕ} {e : ℕ} → first < n → Says ws (GivesOf back 2 e) → Turns ws ws' (OnList e) (to_front e 1) → Turns ws ws' Lined spill
  unfolding spill
  spill_front {ws'} h b t = record {
    to = λ m R o.
        let k = is_over 4 (omega arith) s ef h m R in
        simp k.0 (subst (λ (x : ℕ). Repr ws' (to_front x 1 m)) (b.of m R).is (t.to m R (keeps b (omega arith) m R (record { lined = o; some = k.1 })).listed));
  }

module _ {ws ws₁ : List ℕ} {e : ℕ} {r : Answer} (S : Serves ws ws₁ (OnList e) (hit_front e 2) r) where
  -- after a hit in P the lists are right
  pub spill_ready : Ready ws (Fronts e 2) → Ready ws₁ Lined
  unfolding hit_front hit_at
  spill_ready o = record { mem = to_front e 2 o.mem; repr = (S.to o.mem o.repr o.meets.on).repr; meets = o.meets.lined }

  -- and Q spills
  pub spill_serves : {ws₂ : List ℕ} → Turns ws₁ ws₂ Lined spill → Serves ws ws₂ (Fronts e 2) (hit_spill e) r
  unfolding hit_front hit_spill hit_at
  spill_serves t = record { to = λ m R o. let k = S.to m R o.on in record { repr = t.to (to_front e 2 m) k.repr o.lined; says = k.says } }

-- ── The step ──

-- a segmented directory has lists
pub segmented_lined : (m : Mem) → Segmented m → Lined m
segmented_lined m L = lined L.proper

-- a list of held pages that is not Q is P
held_one : (j : ℕ) → is_held j ≡ true → (j ≡ 2 → ⊥) → j ≡ 1
unfolding is_held
held_one j h d = split j 1 (λ z t. z) (λ z t. no_true (sym (simp (t, ne_eqb j 2 d)) ∙ h))

module _ {ws : List ℕ} {p : ℕ} {f : Option Found} (hp : p < NONE) (a : Says ws (Answers p f)) where
  -- a page that is not held
  space : f ≡ None → (m : Mem) → Repr ws m → Segmented m → Then (Evicts 1) lru_room (asked.Admits p) m
  space z m R L =
      lru_space m L.proper L.all (three m L, four m L) (omega (arith, L.protected, L.first)) p hp
      (found_nothing a z hp m R L.proper.seated.indexed).absent

  -- room can be made for it
  pub segmented_missing : f ≡ None → Ready ws Segmented → Ready ws (Then (Evicts 1) lru_room (asked.Admits p))
  segmented_missing z = ready_as (space z)

  -- and it is served
  pub segmented_missed : {ws' : List ℕ} {r : Answer} → f ≡ None → Serves ws ws' (Then (Evicts 1) lru_room (asked.Admits p)) (filling lru_room (entering p 1)) r → Serves ws ws' Segmented (asking segmented p) r
  unfolding asking filling entering segmented
  segmented_missed z S = serves_as S (λ m R L.
      let l = found_off a z hp m R L.proper.seated.indexed in
      (space z m R L, simp l))

  -- a page that is, on list j
  module _ {found : Found} {j : ℕ} (z : f ≡ Some found) (ej : j ≡ word ws (cell_at found.entry list_col)) where
    -- a page in Q is served
    pub segmented_q : {ws' : List ℕ} {r : Answer} → j ≡ 2 → Serves ws ws' (OnList found.entry) (hit_front found.entry 2) r → Serves ws ws' Segmented (asking segmented p) r
    unfolding asking hit_front segmented
    segmented_q d S = serves_as S (λ m R L. let k = hits a z hp m R (lined L.proper) in (k.on, simp (k.entry, k.list ∙ found_list a z ej m R ∙ d)))

    fronts : (j ≡ 2 → ⊥) → (m : Mem) → Repr ws m → Segmented m → Fronts found.entry 2 m × (m.lists found.entry ≡ 1)
    fronts d m R L =
        let k = hits a z hp m R (lined L.proper) in
        let l = held_one (m.lists found.entry) (L.two found.entry k.used) (λ y. d (sym (found_list a z ej m R) ∙ y)) in
        (record { on = k.on; lined = lined (front_goes m L.proper found.entry 1 2 l held1 (omega arith) held2).proper }, l)

    -- a page in P can go to Q
    pub segmented_p_ready : (j ≡ 2 → ⊥) → Ready ws Segmented → Ready ws (Fronts found.entry 2)
    segmented_p_ready d = ready_as (λ m R o. (fronts d m R o).0)

    -- and is served
    pub segmented_p : {ws' : List ℕ} {r : Answer} → (j ≡ 2 → ⊥) → Serves ws ws' (Fronts found.entry 2) (hit_spill found.entry) r → Serves ws ws' Segmented (asking segmented p) r
    unfolding asking hit_spill segmented
    segmented_p d S = serves_as S (λ m R L.
        let k = hits a z hp m R (lined L.proper) in let u = fronts d m R L in
        (u.0, simp (k.entry, k.list ∙ u.1)))
