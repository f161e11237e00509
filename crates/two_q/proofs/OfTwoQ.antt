-- 2Q's step, from its parts.
use Prim.Native.Nat.{ℕ, ◌≤◌, ◌<◌}
use mathlib.Core.Path.{◌≡◌, sym, ap, ◌∙◌, subst}
use mathlib.Core.Bool.{Bool, true, false}
use mathlib.Core.List.{List}
use native.Mathlib.Omega.{arith}
use lib.Dec.{ltb}
use borrow.Author.Tests.{le-ltb}
use Rattle.meaning.specs.declared.Answer.{Answer}
use Rattle.meaning.specs.declared.Answer.TheVariants.{Hit}
use Rattle.lists.specs.Told.{Found}
use Rattle.std.specs.Prelude.{Option, Some, None}
use Rattle.meaning.specs.Base.{one_if}
use Rattle.meaning.specs.Neighbours.{NONE}
use Rattle.meaning.specs.Layout.{cell_at, list_col, slot_col}
use Rattle.meaning.specs.Mem.{Mem, word, full, size, back, first_in, second_in, second_of}
use Rattle.meaning.specs.Room.{Room, as_it_is, put_out, put_out_to, hit_at}
use Rattle.meaning.specs.TwoQ.{trimmed, trimmed_room, make_room, two_q}
use Rattle.invariants.specs.Places.{top, Repr, Ready, Turns, Says, Any}
use Rattle.invariants.specs.Assumed.{TwoQ}
use Rattle.theorems.specs.Short.{short_room}
use Rattle.theorems.specs.Sizes.{Resized}
use Rattle.theorems.specs.Goes.{Out}
use Rattle.theorems.proofs.Counts.{list_cases}
use Rattle.theorems.proofs.Going.{not3}
use Rattle.theorems.proofs.Short.{short_returns}
use Rattle.theorems.proofs.TwoQ.{am_back, room_cases, room_made}
use Rattle.lists.specs.Asked.{OnList}
use Rattle.lists.specs.Asked as asked
use Rattle.lists.specs.Told.{Gives, GivesOf, Answers}
use Rattle.rooms.specs.declared.freed.Freed.{Freed}
use Rattle.rooms.specs.Rooms.{Ends, Serves, Clears, Frees, asking, filling, entering, returning, hit_front, back_out, back_to, back_gone, Lined, HasBack, Then}
use Rattle.rooms.proofs.Rooming.{ready_as, frees_as, serves_as, says_hit}
use Rattle.rooms.proofs.Spaces.{lined, out_lined, out_ghost, space_made, is_over, not_over, Hits, found_list, hits, found_nothing, found_off}

-- ── A1out is trimmed ──

module _ {ws : List ℕ} {n kout : ℕ} (s : Says ws (GivesOf size 3 n)) (ek : kout ≡ second_in ws) where
  -- A1out is not over Kout, and nothing is removed
  pub trim_none : n ≤ kout → Turns ws ws Lined trimmed
  unfolding trimmed
  trim_none h = record { to = λ m R o. simp (not_over 5 (omega arith) s ek h m R) R }

  -- A1out is over Kout, and its back is removed
  pub trim_gone : {ws' : List ℕ} → kout < n → Turns ws ws' (HasBack 3) (back_gone 3) → Turns ws ws' Lined trimmed
  unfolding trimmed back_gone
  trim_gone h t = record { to = λ m R o. let k = is_over 5 (omega arith) s ek h m R in simp k.0 (t.to m R (record { lined = o; some = k.1 })) }

-- ── Room, of a 2Q directory ──

module _ (m : Mem) (T : TwoQ m) where
  -- the room of a page that comes back is made by one entry, or as it is
  short_out : (Q : Room → Type 0) → ((k j : ℕ) (r : Room) → Out k j m r → Q r) → Q (short_room m)
  unfolding short_room
  short_out Q f = room_cases m T (λ _ t X. simp t (f 0 0 (as_it_is m) X)) (λ _ t s X. simp (t, s) (f 1 3 (put_out_to m (back m 1) 3) X)) (λ _ t s X. simp (t, s) (f 2 0 (put_out m (back m 2)) X))

  -- the lists are right after it
  plain_lined : Lined (short_room m).mem
  plain_lined = short_out (λ r. Lined r.mem) (λ k j r X. out_lined X)

  -- a ghost stays on its list
  plain_ghost : (e : ℕ) → m.lists e ≡ 3 → OnList e (short_room m).mem
  plain_ghost e l = short_out (λ r. OnList e r.mem) (λ k j r X. out_ghost X e l (omega arith) not3)

  -- only a page put out to A1out can bring it over Kout, so A1out may be trimmed always
  make_is : make_room m ≡ trimmed_room (short_room m)
  unfolding make_room short_room
  make_is = room_cases m T
      (λ _ t X. simp t (same (as_it_is m) X (λ F. unfold one_if in omega (arith, F, T.ghosts))))
      (λ _ t s X. simp (t, s))
      (λ _ t s X. simp (t, s) (same (put_out m (back m 2)) X (λ F. unfold one_if in omega (arith, F, T.ghosts))))
    where
      same : {k j : ℕ} (r : Room) → Out k j m r → (Resized k j m r.mem → size r.mem 3 ≤ second_of m) → r ≡ trimmed_room r
      same r X h = unfold trimmed_room trimmed in
          let t5 = ap (λ (g : ℕ → ℕ). g 5) X.quiet.tops in
          let t : ltb (second_of r.mem) (size r.mem 3) ≡ false = le-ltb (second_of r.mem) (size r.mem 3) (omega (arith, h X.sizes, t5)) in
          simp t

-- ── The room that the code makes ──

module _ {ws : List ℕ} {b : Bool} (s : Says ws (Gives full b)) where
  -- fewer than C are held
  pub plain_none : {ws' : List ℕ} {f : Freed} → b ≡ false → Frees ws ws' Any as_it_is f → Frees ws ws' TwoQ short_room f
  unfolding short_room
  plain_none z F = frees_as F (λ m R T. (tt, simp (sym (s.of m R).is ∙ z)))

  module _ {kin n : ℕ} (ek : kin ≡ first_in ws) (sn : Says ws (GivesOf size 1 n)) where
    first : kin < n → (m : Mem) → Repr ws m → TwoQ m → HasBack 1 m
    first h m R T = record { lined = lined T.proper; some = (is_over 4 (omega arith) sn ek h m R).1 }

    -- A1in is over Kin, so its back goes to A1out
    pub plain_to : {ws' : List ℕ} {f : Freed} → b ≡ true → kin < n → Frees ws ws' (HasBack 1) (back_to 1 3) f → Frees ws ws' TwoQ short_room f
    unfolding short_room back_to
    plain_to z h F = frees_as F (λ m R T. (first h m R T, simp (sym (s.of m R).is ∙ z, (is_over 4 (omega arith) sn ek h m R).0)))

    second : b ≡ true → n ≤ kin → (m : Mem) → Repr ws m → TwoQ m → HasBack 2 m
    second z h m R T = record { lined = lined T.proper; some = am_back m T (sym (s.of m R).is ∙ z) (omega (arith, ek ∙ R.holds.at (top 4) (omega arith), (sn.of m R).is)) }

    -- A1in is not over Kin, so Am has a back
    pub plain_second : b ≡ true → n ≤ kin → Ready ws TwoQ → Ready ws (HasBack 2)
    plain_second z h = ready_as (second z h)

    -- which is removed
    pub plain_out : {ws' : List ℕ} {f : Freed} → b ≡ true → n ≤ kin → Frees ws ws' (HasBack 2) (back_out 2) f → Frees ws ws' TwoQ short_room f
    unfolding short_room back_out
    plain_out z h F = frees_as F (λ m R T. (second z h m R T, simp (sym (s.of m R).is ∙ z, not_over 4 (omega arith) sn ek h m R)))

module _ {ws ws₁ : List ℕ} {f : Freed} (F : Frees ws ws₁ TwoQ short_room f) where
  -- after room is made A1out may be trimmed
  pub trim_ready : Ready ws TwoQ → Ready ws₁ Lined
  trim_ready o = record { mem = (short_room o.mem).mem; repr = (F.to o.mem o.repr o.meets).repr; meets = plain_lined o.mem o.meets }

  -- and that is room for a new page
  pub make_frees : {ws₂ : List ℕ} → Turns ws₁ ws₂ Lined trimmed → Frees ws ws₂ TwoQ make_room f
  make_frees {ws₂} t = record {
    to = λ m R T.
        let k = F.to m R T in
        subst (Clears ws₂ f) (sym (make_is m T)) (unfold trimmed_room in record { repr = t.to (short_room m).mem k.repr (plain_lined m T); slot = k.slot; out = k.out });
  }

-- ── The step ──

-- a 2Q directory has lists
pub two_q_lined : (m : Mem) → TwoQ m → Lined m
two_q_lined m T = lined T.proper

module _ {ws : List ℕ} {p : ℕ} {f : Option Found} (hp : p < NONE) (a : Says ws (Answers p f)) where
  -- a page on none of the lists
  space : f ≡ None → (m : Mem) → Repr ws m → TwoQ m → Then TwoQ make_room (asked.Admits p) m
  space z m R T = record { asks = T; leaves = space_made (room_made m T) p hp (found_nothing a z hp m R T.proper.seated.indexed).absent (λ L. omega (arith, L, T.all)) }

  -- room can be made for it
  pub two_q_missing : f ≡ None → Ready ws TwoQ → Ready ws (Then TwoQ make_room (asked.Admits p))
  two_q_missing z = ready_as (space z)

  -- and it is served
  pub two_q_missed : {ws' : List ℕ} {r : Answer} → f ≡ None → Serves ws ws' (Then TwoQ make_room (asked.Admits p)) (filling make_room (entering p 1)) r → Serves ws ws' TwoQ (asking two_q p) r
  unfolding asking filling entering two_q
  two_q_missed z S = serves_as S (λ m R T.
      let l = found_off a z hp m R T.proper.seated.indexed in
      (space z m R T, simp l))

  -- a page on list j
  module _ {found : Found} {j : ℕ} (z : f ≡ Some found) (ej : j ≡ word ws (cell_at found.entry list_col)) where
    -- a page in Am is served
    pub two_q_am : {ws' : List ℕ} {r : Answer} → j ≡ 2 → Serves ws ws' (OnList found.entry) (hit_front found.entry 2) r → Serves ws ws' TwoQ (asking two_q p) r
    unfolding asking hit_front two_q
    two_q_am d S = serves_as S (λ m R T. let k = hits a z hp m R (lined T.proper) in (k.on, simp (k.entry, k.list ∙ found_list a z ej m R ∙ d)))

    comes : j ≡ 3 → (m : Mem) → Repr ws m → TwoQ m → Then TwoQ short_room (OnList found.entry) m
    comes d m R T = record { asks = T; leaves = plain_ghost m T found.entry (found_list a z ej m R ∙ d) }

    -- room can be made for a page in A1out
    pub two_q_ghost : j ≡ 3 → Ready ws TwoQ → Ready ws (Then TwoQ short_room (OnList found.entry))
    two_q_ghost d = ready_as (comes d)

    -- and it is served
    pub two_q_back : {ws' : List ℕ} {r : Answer} → j ≡ 3 → Serves ws ws' (Then TwoQ short_room (OnList found.entry)) (filling short_room (returning found.entry 2)) r → Serves ws ws' TwoQ (asking two_q p) r
    unfolding asking filling returning two_q
    two_q_back d S = serves_as S (λ m R T.
        let k = hits a z hp m R (lined T.proper) in let l = found_list a z ej m R ∙ d in
        (comes d m R T, simp (k.entry, k.list ∙ l) (sym (short_returns m T found.entry l))))

    still : (m : Mem) → TwoQ m → Hits p found.entry m → m.lists found.entry ≡ 1 → hit_at m found.entry m ≡ asking two_q p m
    unfolding asking two_q
    still m T k l = simp (k.entry, k.list ∙ l)

    -- on A1in, nothing moves
    pub two_q_a1in : {s : ℕ} → (j ≡ 2 → ⊥) → (j ≡ 3 → ⊥) → s ≡ word ws (cell_at found.entry slot_col) → Serves ws ws TwoQ (asking two_q p) (Hit s 0)
    two_q_a1in {s} d2 d3 es = record {
      to = λ m R T.
          let k = hits a z hp m R (lined T.proper) in
          let l : m.lists found.entry ≡ 1 = list_cases m T.proper.seated.indexed T.proper.ordered found.entry k.used (λ y _. y) (λ y _. absurd (d2 (sym (found_list a z ej m R) ∙ y))) (λ y _. absurd (d3 (sym (found_list a z ej m R) ∙ y))) (λ y h. absurd (omega (arith, h, T.unused))) in
          subst (Ends ws (Hit s 0)) (still m T k l) (record { repr = unfold hit_at in R; says = says_hit es m R k.on.within m });
    }
