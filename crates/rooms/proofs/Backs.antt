-- The back of a list, and entries of a directory with lists: they can be moved and removed.
use Prim.Native.Nat.{ℕ, ◌≤◌}
use mathlib.Core.Path.{◌≡◌, sym, ap, ◌∙◌, subst}
use mathlib.Core.Bool.{Bool, true, false}
use mathlib.Core.List.{List}
use Rattle.std.specs.Prelude.{Option, Some, None}
use mathlib.Core.Logic.{inl}
use native.Mathlib.Omega.{arith}
use Rattle.meaning.specs.Mem.{Mem, full, back, clear}
use Rattle.meaning.specs.Room.{as_it_is, put_out, put_out_to}
use Rattle.meaning.specs.Lru.{lru_room}
use Rattle.invariants.specs.Places.{Repr, Ready, Turns, Says, Any}
use Rattle.theorems.proofs.Operations.{within, paged}
use Rattle.theorems.proofs.Counts.{back_list}
use Rattle.lists.specs.Asked.{OnList, Kept}
use Rattle.lists.specs.Told.{Gives, GivesOf}
use Rattle.rooms.specs.declared.freed.Freed.{Freed}
use Rattle.rooms.specs.Rooms.{Frees, out_of, out_to, leaving, back_out, back_to, back_leaving, back_gone, Lined, HasBack, Evicts}
use Rattle.rooms.proofs.Rooming.{ready_as, frees_as}

-- an entry that is on a list is in its order
pub on_list : (m : Mem) → Lined m → (e : ℕ) → (m.lists e ≡ 0 → ⊥) → OnList e m
on_list m L e u = let o = L.ordered.listed e u in record { within = within m L.indexed e u; range = L.indexed.fine.range (m.lists e) e o; on = inl o }

-- and on its page's chain
pub kept : (m : Mem) → Lined m → (e : ℕ) → (m.lists e ≡ 0 → ⊥) → Kept e m
kept m L e u = record { listed = on_list m L e u; hung = L.indexed.hung e (paged m L.indexed e u) }

-- an entry that is the back is put out as the back is
leaves : (k : ℕ) {e : ℕ} (m : Mem) → e ≡ back m k → (g : Option ℕ) → leaving e g m ≡ back_leaving k g m
unfolding out_of out_to back_out back_to
leaves k m z None = ap (put_out m) z
leaves k m z (Some j) = ap (λ (x : ℕ). put_out_to m x j) z

module _ {ws : List ℕ} {k e : ℕ} (b : Says ws (GivesOf back k e)) (hk : 1 ≤ k) where
  used : (m : Mem) → Repr ws m → HasBack k m → m.lists e ≡ 0 → ⊥
  used m R o z = omega (arith, sym (ap m.lists (b.of m R).is ∙ back_list m o.lined.indexed o.lined.ordered k hk o.some) ∙ z)

  -- the back is on its list and its chain
  pub keeps : (m : Mem) → Repr ws m → HasBack k m → Kept e m
  keeps m R o = kept m o.lined e (used m R o)

  -- the back can be removed
  pub back_kept : Ready ws (HasBack k) → Ready ws (Kept e)
  back_kept = ready_as keeps

  -- and moved
  pub back_on : Ready ws (HasBack k) → Ready ws (OnList e)
  back_on = ready_as (λ m R o. (keeps m R o).listed)

  module _ {ws' : List ℕ} where
    -- so it is removed
    pub back_gone_lem : Turns ws ws' (Kept e) (clear e) → Turns ws ws' (HasBack k) (back_gone k)
    unfolding back_gone
    back_gone_lem t = record { to = λ m R o. subst (λ (x : ℕ). Repr ws' (clear x m)) (b.of m R).is (t.to m R (keeps m R o)) }

    -- so it is put out
    pub back_out_lem : (g : Option ℕ) {f : Freed} → Frees ws ws' (Kept e) (leaving e g) f → Frees ws ws' (HasBack k) (back_leaving k g) f
    back_out_lem g F = frees_as F (λ m R o. (keeps m R o, leaves k m (b.of m R).is g))

-- ── The back put out, if C are held ──

module _ {ws : List ℕ} {b : Bool} (s : Says ws (Gives full b)) where
  -- where C are held the list's back is put out
  pub lru_out : {ws' : List ℕ} {f : Freed} → b ≡ true → Frees ws ws' (HasBack 1) (back_out 1) f → Frees ws ws' (Evicts 1) lru_room f
  unfolding lru_room back_out
  lru_out z F = frees_as F (λ m R o. let t = sym (s.of m R).is ∙ z in (record { lined = o.lined; some = o.some t }, simp t))

  -- where fewer are held nothing is
  pub lru_none : {ws' : List ℕ} {f : Freed} → b ≡ false → Frees ws ws' Any as_it_is f → Frees ws ws' (Evicts 1) lru_room f
  unfolding lru_room
  lru_none z F = frees_as F (λ m R o. (tt, simp (sym (s.of m R).is ∙ z)))
