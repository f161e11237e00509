-- Room made leaves what a page that comes in asks for: over any step that makes room.
use Prim.Native.Nat.{ℕ, ◌+◌, ◌*◌, ◌≤◌, ◌<◌}
use mathlib.Core.Path.{◌≡◌, refl, sym, ap, ◌∙◌}
use mathlib.Core.Bool.{true, false}
use mathlib.Core.List.{List}
use native.Mathlib.Omega.{arith}
use lib.Dec.{ltb}
use lib.ListN.{length}
use borrow.Author.Tests.{lt-ltb, le-ltb, leb-true}
use Rattle.meaning.specs.declared.Answer.{Answer}
use Rattle.lists.specs.Told.{Found}
use Rattle.std.specs.Prelude.{Option, Some, None}
use Rattle.meaning.specs.Neighbours.{NONE}
use Rattle.meaning.specs.Layout.{is_held, cell_at, list_col}
use Rattle.meaning.specs.Mem.{Mem, word, entry_of, list_on, held, full, size, back, lowest, capacity_of, entry_count}
use Rattle.meaning.specs.Room.{Done, Room, as_it_is}
use Rattle.meaning.specs.Lru.{lru_room}
use Rattle.invariants.specs.Places.{top, Repr, Ready, Says, cell, list}
use Rattle.invariants.specs.Proper.{Indexed, Proper}
use Rattle.theorems.specs.Goes.{Out, Made}
use Rattle.theorems.proofs.Operations.{lowest_free}
use Rattle.theorems.proofs.Rooms.{list_is, list_none}
use Rattle.theorems.proofs.Counts.{held_sizes, spare}
use Rattle.theorems.proofs.Lru.{lru_room_lem}
use Rattle.lists.specs.Asked.{OnList}
use Rattle.lists.specs.Asked as asked
use Rattle.lists.specs.Told.{GivesOf, Answers}
use Rattle.lists.proofs.Finding.{FoundAt, found_at, FoundNone, found_none}
use Rattle.rooms.specs.Rooms.{Serves, Lined, HasBack, Evicts, Then, Missing}
use Rattle.rooms.proofs.Rooming.{ready_as, serves_as}
use Rattle.rooms.proofs.Backs.{on_list, back_on}

-- all that a directory keeps of its pages and lists
pub lined : {m : Mem} → Proper m → Lined m
lined P = record { indexed = P.seated.indexed; ordered = P.ordered }

-- so does one where room was made
pub out_lined : {k j : ℕ} {m : Mem} {r : Room} → Out k j m r → Lined r.mem
out_lined X = record { indexed = X.vacant.gap.indexed; ordered = X.vacant.ordered }

-- in which a ghost stays on its list
pub out_ghost : {k j i : ℕ} {m : Mem} {r : Room} → Out k j m r → (e : ℕ) → m.lists e ≡ i → (i ≡ 0 → ⊥) → is_held i ≡ false → OnList e r.mem
out_ghost {r = r} X e l nz g = on_list r.mem (out_lined X) e (λ y. nz (sym ((X.stays e (ap is_held l ∙ g)).0 ∙ l) ∙ y))

-- room that is made is room for a page that the directory does not have, where it leaves fewer pages than entries
pub space_made : {sizes : Mem → Type 0} {m : Mem} {r : Room} → Made sizes m r → (p : ℕ) → p < NONE → ((i : ℕ) → m.pages i ≡ p → ⊥)
    → (sizes r.mem → size r.mem 1 + size r.mem 2 + size r.mem 3 + size r.mem 4 < entry_count m) → asked.Admits p r.mem
space_made {r = r} D p hp absent few =
    let n = r.mem in let W = D.vacant in
    let f = spare n W.gap.indexed W.ordered (omega (arith, few D.fits, ap (λ (g : ℕ → ℕ). g 2) D.quiet.tops)) in
    let k = lowest_free n f.0 f.1 f.2 in
    record { fresh = record { bare = record { within = k.0; none = W.ordered.idle (lowest n) k.1; absent = λ i z. absent i (D.makes.pages p hp i z) }; idle = k.1 } }

-- room for a page is room where nothing is put out
pub space_as : (p : ℕ) (n : Mem) → asked.Admits p n → asked.Admits p (as_it_is n).mem
unfolding as_it_is
space_as p n k = k

-- LRU and segmented LRU, which have no ghosts and as many entries as C, can make room
pub lru_space : (m : Mem) → Proper m → entry_count m ≡ capacity_of m → (size m 3 ≡ 0) × (size m 4 ≡ 0) → size m 2 < capacity_of m
    → (p : ℕ) → p < NONE → ((i : ℕ) → m.pages i ≡ p → ⊥) → Then (Evicts 1) lru_room (asked.Admits p) m
unfolding full
lru_space m P all bare under p hp absent = record {
  asks = record { lined = lined P; some = λ t. omega (arith, leb-true (capacity_of m) (held m) t, held_sizes m P.seated.indexed P.ordered, under) };
  leaves = space_made (lru_room_lem m P all bare under) p hp absent (λ L. omega (arith, L, all));
}

-- ── Lists that are over a size ──

module _ {ws : List ℕ} {k n x : ℕ} (t : ℕ) (ht : t < 7) (s : Says ws (GivesOf size k n)) (ex : x ≡ word ws t) where
  reads : (m : Mem) → Repr ws m → (x ≡ m.tops t) × (n ≡ size m k)
  reads m R = (ex ∙ R.holds.at (top t) ht, (s.of m R).is)

  -- a list that the code finds over a size is
  pub is_over : x < n → (m : Mem) → Repr ws m → (ltb (m.tops t) (size m k) ≡ true) × (1 ≤ size m k)
  is_over h m R = (lt-ltb (m.tops t) (size m k) (omega (arith, reads m R)), omega (arith, reads m R))

  -- a list that it does not find over is not
  pub not_over : n ≤ x → (m : Mem) → Repr ws m → ltb (m.tops t) (size m k) ≡ false
  not_over h m R = le-ltb (m.tops t) (size m k) (omega (arith, reads m R))

-- a list that is over a size has a back
pub over_back : {ws : List ℕ} {k n x : ℕ} → Says ws (GivesOf size k n) → x < n → Ready ws Lined → Ready ws (HasBack k)
over_back s h = ready_as (λ m R o. record { lined = o; some = omega (arith, (s.of m R).is) })

-- which can be moved
pub over_on : {ws : List ℕ} {k n x e : ℕ} → Says ws (GivesOf size k n) → x < n → Says ws (GivesOf back k e) → 1 ≤ k → Ready ws Lined → Ready ws (OnList e)
over_on s h b hk o = back_on b hk (over_back s h o)

-- ── What was found ──

-- entry e has the page p, and is on a list
pub record Hits (p e : ℕ) (m : Mem) : Type 0 where
  pub on : OnList e m
  pub used : m.lists e ≡ 0 → ⊥
  pub page : m.pages e ≡ p
  pub entry : entry_of m p ≡ e
  pub list : list_on m p ≡ m.lists e

module _ {ws : List ℕ} {p : ℕ} {r : Option Found} (a : Says ws (Answers p r)) where
  -- the entry that was found has the page
  pub found_entry : {f : Found} → r ≡ Some f → (m : Mem) → Repr ws m → FoundAt p f.entry f.before m
  found_entry z m R = found_at m R.fine (rw z at (a.of m R))

  -- the words of the entry may be read
  pub found_room : {ok : Mem → Type 0} {f : Found} → r ≡ Some f → Ready ws ok → 16 + 8 * f.entry + 8 ≤ length ws
  found_room z o = omega (arith, o.repr.holds.size, (found_entry z o.mem o.repr).hung.within)

  -- its list is what its word says
  pub found_list : {f : Found} {j : ℕ} → r ≡ Some f → j ≡ word ws (cell_at f.entry list_col) → (m : Mem) → Repr ws m → m.lists f.entry ≡ j
  found_list {f} z ej m R = sym (ej ∙ R.holds.at (cell list f.entry) (found_entry z m R).hung.within)

  -- it is on a list
  pub hits : {f : Found} → r ≡ Some f → p < NONE → (m : Mem) → Repr ws m → Lined m → Hits p f.entry m
  hits {f} z hp m R L =
      let e = f.entry in
      let k = found_entry z m R in
      let u : m.lists e ≡ 0 → ⊥ = λ y. omega (arith, k.page, L.ordered.idle e y) in
      record { on = on_list m L e u; used = u; page = k.page; entry = k.entry; list = list_is m L.indexed p hp e k.page }

  -- it can be moved
  pub found_on : {ok : Mem → Type 0} {f : Found} → r ≡ Some f → p < NONE → ((m : Mem) → ok m → Lined m) → Ready ws ok → Ready ws (OnList f.entry)
  found_on z hp h = ready_as (λ m R o. (hits z hp m R (h m o)).on)

  -- no entry has a page that was not found
  pub found_nothing : r ≡ None → p < NONE → (m : Mem) → Repr ws m → Indexed m → FoundNone p m
  found_nothing z hp m R I = found_none m I hp (rw z at (a.of m R))

  -- so it is on no list
  pub found_off : r ≡ None → p < NONE → (m : Mem) → Repr ws m → Indexed m → list_on m p ≡ 0
  found_off z hp m R I = list_none m I p hp (found_nothing z hp m R I).absent

  -- and missing
  pub missing : {ok : Mem → Type 0} → r ≡ None → p < NONE → ((m : Mem) → ok m → Indexed m) → Ready ws ok → Ready ws (Missing ok p)
  missing z hp h = ready_as (λ m R o. record { kind = o; real = hp; absent = (found_nothing z hp m R (h m o)).absent })

  -- and is served as such
  pub missed : {ok : Mem → Type 0} {ws' : List ℕ} {step : Mem → Done} {y : Answer} → r ≡ None → p < NONE → ((m : Mem) → ok m → Indexed m)
      → Serves ws ws' (Missing ok p) step y → Serves ws ws' ok step y
  missed z hp h S = serves_as S (λ m R o. (record { kind = o; real = hp; absent = (found_nothing z hp m R (h m o)).absent }, refl))
