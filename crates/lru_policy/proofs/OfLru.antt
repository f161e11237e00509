-- LRU's step, from its parts.
use Prim.Native.Nat.{ℕ, ◌<◌}
use mathlib.Core.Path.{◌≡◌, ◌∙◌}
use mathlib.Core.List.{List}
use native.Mathlib.Omega.{arith}
use Rattle.meaning.specs.declared.Answer.{Answer}
use Rattle.lists.specs.Told.{Found}
use Rattle.std.specs.Prelude.{Option, Some, None}
use Rattle.meaning.specs.Neighbours.{NONE}
use Rattle.meaning.specs.Mem.{Mem}
use Rattle.meaning.specs.Lru.{lru_room, lru}
use Rattle.invariants.specs.Places.{Repr, Ready, Says}
use Rattle.invariants.specs.Assumed.{Lru}
use Rattle.theorems.proofs.Lru.{none_on}
use Rattle.lists.specs.Asked.{OnList}
use Rattle.lists.specs.Asked as asked
use Rattle.lists.specs.Told.{Answers}
use Rattle.rooms.specs.Rooms.{Serves, asking, filling, entering, hit_front, Lined, Evicts, Then}
use Rattle.rooms.proofs.Rooming.{ready_as, serves_as}
use Rattle.rooms.proofs.Spaces.{lined, lru_space, hits, found_nothing, found_off}

-- an LRU directory has lists
pub lru_lined : (m : Mem) → Lru m → Lined m
lru_lined m L = lined L.proper

module _ {ws : List ℕ} {p : ℕ} {f : Option Found} (hp : p < NONE) (a : Says ws (Answers p f)) where
  -- a page that is not held
  space : f ≡ None → (m : Mem) → Repr ws m → Lru m → Then (Evicts 1) lru_room (asked.Admits p) m
  space z m R L =
      let none = none_on m L in
      lru_space m L.proper L.all (none 3 (omega arith) (omega arith), none 4 (omega arith) (omega arith)) (omega (arith, none 2 (omega arith) (omega arith), L.some)) p hp
      (found_nothing a z hp m R L.proper.seated.indexed).absent

  -- room can be made for it
  pub lru_missing : f ≡ None → Ready ws Lru → Ready ws (Then (Evicts 1) lru_room (asked.Admits p))
  lru_missing z = ready_as (space z)

  -- and it is served
  pub lru_missed : {ws' : List ℕ} {r : Answer} → f ≡ None → Serves ws ws' (Then (Evicts 1) lru_room (asked.Admits p)) (filling lru_room (entering p 1)) r → Serves ws ws' Lru (asking lru p) r
  unfolding asking filling entering lru
  lru_missed z S = serves_as S (λ m R L. (
    space z m R L,
    simp (found_off a z hp m R L.proper.seated.indexed),
  ))

  -- a page that is
  pub lru_hit : {ws' : List ℕ} {r : Answer} {found : Found} → f ≡ Some found → Serves ws ws' (OnList found.entry) (hit_front found.entry 1) r → Serves ws ws' Lru (asking lru p) r
  unfolding asking hit_front lru
  lru_hit {found = found} z S = serves_as S (λ m R L. let k = hits a z hp m R (lined L.proper) in (k.on, simp (k.entry, k.list ∙ L.one found.entry k.used)))
