-- An entry filled, and an entry made free.
use Prim.Native.Nat.{ℕ}
use mathlib.Core.Path.{◌≡◌, refl, sym, ap, ◌∙◌, subst}
use mathlib.Core.List.{List}
use native.Mathlib.Omega.{arith}
use lib.ListN.{set}
use Rattle.index.specs.declared.Found.{Found}
use Rattle.std.specs.Prelude.{Option, Some, None}
use Rattle.meaning.specs.Layout.{cell_at, list_col, page_col}
use Rattle.meaning.specs.Mem.{Mem, word, off, hang, unhang, with_slot, filled, fill, enter, push, seat, fill_seat, enter_seat, lowest, clear}
use Rattle.invariants.specs.Places.{cell, list, page, Fine, Repr, Ready, Turns, Says}
use Rattle.invariants.proofs.Fine.{put_other}
use Rattle.cells.specs.Asked.{Within}
use Rattle.links.specs.Asked.{OnList, OffList}
use Rattle.index.specs.Asked.{Bare, Hung}
use Rattle.entries.specs.Asked.{Fresh, Admits, Placed, Kept}
use Rattle.cells.specs.Told.{Gives}
use Rattle.index.specs.Told.{Answers}
use Rattle.cells.proofs.Single.{plain_turns}
use Rattle.cells.proofs.Composed.{turns_as, ready_as, turns_then}
use Rattle.index.proofs.Finding.{found_again, found_sure}

-- an idle entry put on a list by its word alone
pub seat_turns : {e : ℕ} (j : ℕ) {ws ws' : List ℕ} → ws' ≡ set ws (cell_at e list_col) j → Turns ws ws' (OffList e) (seat e j)
unfolding seat
seat_turns {e} j eq = plain_turns (cell list e) j refl (λ n. eq)
    (λ m F o. (o.within, λ l i h. put_other m.lists e j i (λ z. omega (arith, (F.linked.member l i h).1, (F.range l i h).0, ap m.lists z, o.none))))

-- what the steps of `occupy`, `enter` and `enter_seat` ask
pub fresh_bare : (e p : ℕ) (m : Mem) → Fine m → Fresh e p m → Bare e p m
fresh_bare e p m F o = o.bare

pub fresh_within : (e p : ℕ) (m : Mem) → Fine m → Fresh e p m → Within e (hang e p m)
unfolding hang
fresh_within e p m F o = record { within = o.bare.within }

pub fresh_off : (e p s : ℕ) (m : Mem) → Fine m → Fresh e p m → OffList e (filled e p s m)
unfolding hang with_slot
fresh_off e p s m F o = record { within = o.bare.within; none = o.idle }

-- the lowest free entry r
module _ {ws : List ℕ} {p r : ℕ} (l : Says ws (Gives lowest r)) where
  room_fresh : (m : Mem) → Repr ws m → Admits p m → Fresh r p m
  room_fresh m R o = subst (λ (x : ℕ). Fresh x p m) (sym (l.of m R).is) o.fresh

  pub room_ready : Ready ws (Admits p) → Ready ws (Fresh r p)
  room_ready o = ready_as o room_fresh

  -- what is done at a given entry, done at the lowest
  module _ {ws₁ ws' : List ℕ} where
    pub enter_turns : (j s : ℕ) → Turns ws ws₁ (Fresh r p) (filled r p s) → Turns ws₁ ws' (OffList r) (push r j) → Turns ws ws' (Admits p) (enter p j s)
    unfolding enter fill
    enter_turns j s t u = turns_as (turns_then {h = fill r p j s} t u (λ m F o. o) (fresh_off r p s) (λ m. refl)) (λ m R o. (room_fresh m R o, ap (λ (x : ℕ). fill x p j s m) (l.of m R).is))

    pub enter_seat_turns : (s : ℕ) → Turns ws ws₁ (Fresh r p) (filled r p s) → Turns ws₁ ws' (OffList r) (seat r 1) → Turns ws ws' (Admits p) (enter_seat p s)
    unfolding enter_seat
    enter_seat_turns s t u = turns_as (turns_then {h = fill_seat r p s} t u (λ m F o. o) (fresh_off r p s) (λ m. refl)) (λ m R o. (room_fresh m R o, ap (λ (x : ℕ). fill_seat x p s m) (l.of m R).is))

-- what the steps of `blank_cell` and of `clear` ask
pub within_slot : (e s : ℕ) (m : Mem) → Fine m → Within e m → Within e (with_slot e s m)
unfolding with_slot
within_slot e s m F o = record { within = o.within }

pub placed_on : (e a : ℕ) (m : Mem) → Fine m → Placed e a m → OnList e m
placed_on e a m F o = o.listed

pub placed_hung : (e a : ℕ) (m : Mem) → Fine m → Placed e a m → Hung e a (off e m)
unfolding off
placed_hung e a m F o = record { within = o.hung.within; on = o.hung.on; behind = o.hung.behind }

pub placed_within : (e a : ℕ) (m : Mem) → Fine m → Placed e a m → Within e (unhang e (off e m))
unfolding off unhang
placed_within e a m F o = record { within = o.hung.within }

-- an entry found again by its page
module _ {ws : List ℕ} {e p : ℕ} {r : Option Found} (ep : p ≡ word ws (cell_at e page_col)) (s : Says ws (Answers p r)) where
  answer : (m : Mem) → Repr ws m → Kept e m → Answers (m.pages e) r m
  answer m R k = subst (λ (x : ℕ). Answers x r m) (ep ∙ R.holds.at (cell page e) k.listed.within) (s.of m R)

  pub never_none : r ≡ None → {f : Mem → Mem} → Turns ws ws (Kept e) f
  never_none z = record { to = λ m R k. absurd (found_sure m k.hung (subst (λ (x : Option Found). Answers (m.pages e) x m) z (answer m R k))) }

  module _ {f : Found} (z : r ≡ Some f) where
    placed : (m : Mem) → Repr ws m → Kept e m → Placed e f.before m
    placed m R k = record { listed = k.listed; hung = found_again m R.fine k.hung (subst (λ (y : Option Found). Answers (m.pages e) y m) z (answer m R k)) }

    pub remove_ready : Ready ws (Kept e) → Ready ws (Placed e f.before)
    remove_ready o = ready_as o placed

    pub remove_turns : {ws' : List ℕ} → Turns ws ws' (Placed e f.before) (clear e) → Turns ws ws' (Kept e) (clear e)
    remove_turns t = turns_as t (λ m R k. (placed m R k, refl))
