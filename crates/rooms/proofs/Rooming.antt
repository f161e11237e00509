-- Room for a page and what comes in, from what the layer promises: over any entry, list and room.
use Prim.Native.Nat.{ℕ, ◌<◌}
use mathlib.Core.Path.{◌≡◌, sym, ap, ap₂, ◌∙◌, subst}
use mathlib.Core.List.{List}
use native.Mathlib.Omega.{arith}
use lib.Dec.{eqb, leb}
use borrow.Author.Tests.{ne_eqb}
use Rattle.meaning.specs.declared.Answer.{Answer}
use Rattle.meaning.specs.declared.Answer.TheVariants.{Hit, Loaded, Swapped}
use Rattle.std.specs.Prelude.{Option, Some, None, IfSome, if◌then◌else◌}
use Rattle.meaning.specs.Neighbours.{NONE}
use Rattle.meaning.specs.Layout.{cell_at, page_col, slot_col}
use Rattle.meaning.specs.Mem.{Mem, word, held, full, free_slot, to_front, move_to, clear, enter, capacity_in, entry_count}
use Rattle.meaning.specs.Room.{hit, loaded, swapped, Done, Room, as_it_is, put_out, put_out_to, hit_at, load, enters, returns}
use Rattle.meaning.specs.Answers.{reply_of}
use Rattle.invariants.specs.Places.{top, cell, page, slot, Repr, Ready, Turns, Says, Any}
use Rattle.lists.specs.Asked.{OnList, Kept}
use Rattle.lists.specs.Asked as asked
use Rattle.lists.specs.Told.{Gives}
use Rattle.rooms.specs.declared.freed.Freed.{Freed}
use Rattle.rooms.specs.Rooms.{Ends, Serves, Clears, Frees, filling, given, entering, returning, hit_front, loading, page_or_none, out_of, out_to, leaving, Then}

-- whether C are held
pub full_says : {ws : List ℕ} {c n : ℕ} → c ≡ capacity_in ws → Says ws (Gives held n) → Says ws (Gives full (leb c n))
unfolding full
full_says e s = record { of = λ m R. record { is = ap₂ leb (e ∙ R.holds.at (top 1) (omega arith)) (s.of m R).is } }

-- a directory of one kind is of another
pub ready_as : {ws : List ℕ} {ok ok' : Mem → Type 0} → ((m : Mem) → Repr ws m → ok m → ok' m) → Ready ws ok → Ready ws ok'
ready_as h o = record { mem = o.mem; repr = o.repr; meets = h o.mem o.repr o.meets }

-- ── Room ──

-- nothing put out
pub frees_none : {ws : List ℕ} {f : Freed} → Says ws (Gives free_slot f.slot) → f.out ≡ None → Frees ws ws Any as_it_is f
unfolding as_it_is
frees_none a z = record { to = λ m R o. record { repr = R; slot = (a.of m R).is; out = ap page_or_none z } }

-- a page that is put out is not NONE
pub page_real : {ws : List ℕ} {e x : ℕ} → x ≡ word ws (cell_at e page_col) → x < 4294967296 → Ready ws (Kept e) → x < 4294967295
page_real {e = e} {x = x} ex h o =
    let k = o.meets in
    let z : x ≡ NONE → ⊥ = λ y. o.repr.fine.used _ e k.hung (sym (ex ∙ o.repr.holds.at (cell page e) k.listed.within) ∙ y) in
    omega (arith, h, z)

module _ {ws ws' : List ℕ} {e x : ℕ} {g : Option ℕ} {f : Freed} (es : f.slot ≡ word ws (cell_at e slot_col)) (ex : x ≡ word ws (cell_at e page_col)) (z : f.out ≡ Some x) where
  -- an entry put out and removed
  pub frees_out : g ≡ None → Turns ws ws' (Kept e) (clear e) → Frees ws ws' (Kept e) (leaving e g) f
  unfolding out_of put_out
  frees_out y t = rw y (record {
    to = λ m R o. let h = o.listed.within in record { repr = t.to m R o; slot = es ∙ R.holds.at (cell slot e) h; out = ap page_or_none z ∙ ex ∙ R.holds.at (cell page e) h };
  })

  -- an entry put out to the ghosts
  pub frees_to : {j : ℕ} → g ≡ Some j → Turns ws ws' (OnList e) (move_to e j NONE) → Frees ws ws' (Kept e) (leaving e g) f
  unfolding out_to put_out_to
  frees_to y t = rw y (record {
    to = λ m R o. let h = o.listed.within in record { repr = t.to m R o.listed; slot = es ∙ R.holds.at (cell slot e) h; out = ap page_or_none z ∙ ex ∙ R.holds.at (cell page e) h };
  })

-- room under another condition and by another name
pub frees_as : {ws ws' : List ℕ} {ok ok' : Mem → Type 0} {room room' : Mem → Room} {f : Freed}
    → Frees ws ws' ok room f → ((m : Mem) → Repr ws m → ok' m → ok m × (room m ≡ room' m)) → Frees ws ws' ok' room' f
frees_as {ws' = ws'} {f = f} F h = record { to = λ m R o. subst (Clears ws' f) (h m R o).1 (F.to m R (h m R o).0) }

-- ── What comes in ──

-- Loaded, where nothing was put out
pub says_loaded : (f : Freed) (c : ℕ) → f.out ≡ None → reply_of (Loaded f.slot c) ≡ loading f c
unfolding loading
says_loaded f c z =
    let k : loaded ≡ (if eqb (page_or_none f.out) NONE then loaded else swapped) = simp z in
    λ i. record { kind = k i; slot = f.slot; out = page_or_none (sym z i); cleared = c }

-- Swapped, where a page was
pub says_swapped : (f : Freed) (p c : ℕ) → f.out ≡ Some p → reply_of (Swapped f.slot p c) ≡ loading f c
unfolding loading
says_swapped f p c z =
    let h : p < 4294967295 = subst (λ (o : Option ℕ). IfSome o (λ (q : ℕ). q < 4294967295)) z f.real in
    let k : swapped ≡ (if eqb (page_or_none f.out) NONE then loaded else swapped) = simp (z, ne_eqb p NONE (λ y. omega (arith, y, h))) in
    λ i. record { kind = k i; slot = f.slot; out = page_or_none (sym z i); cleared = c }

module _ {ws ws' : List ℕ} {r : Answer} (f : Freed) where
  -- a new page
  pub serves_enter : {p : ℕ} (j : ℕ) → Turns ws ws' (asked.Admits p) (enter p j f.slot) → reply_of r ≡ loading f 0 → Serves ws ws' (asked.Admits p) (given f (entering p j)) r
  unfolding given entering enters load loading
  serves_enter j t e = record { to = λ m R o. record { repr = t.to m R o; says = e } }

  -- a ghost
  pub serves_return : {e : ℕ} (j : ℕ) → Turns ws ws' (OnList e) (move_to e j f.slot) → reply_of r ≡ loading f 0 → Serves ws ws' (OnList e) (given f (returning e j)) r
  unfolding given returning returns load loading
  serves_return j t e = record { to = λ m R o. record { repr = t.to m R o; says = e } }

-- a hit
pub says_hit : {ws : List ℕ} {e s : ℕ} → s ≡ word ws (cell_at e slot_col) → (m : Mem) → Repr ws m → e < entry_count m → (after : Mem) → reply_of (Hit s 0) ≡ (hit_at m e after).reply
unfolding hit_at
says_hit {e = e} es m R h after = let k = es ∙ R.holds.at (cell slot e) h in λ i. record { kind = hit; slot = k i; out = NONE; cleared = 0 }

-- a hit on an entry that goes to the front of list j
pub serves_front : {ws ws' : List ℕ} {e s : ℕ} (j : ℕ) → s ≡ word ws (cell_at e slot_col) → Turns ws ws' (OnList e) (to_front e j) → Serves ws ws' (OnList e) (hit_front e j) (Hit s 0)
unfolding hit_front hit_at
serves_front {e = e} j es t = record { to = λ m R o. record { repr = t.to m R o; says = unfold hit_at in says_hit es m R o.within (to_front e j m) } }

-- ── Room, and then what comes in: of every room, and of all that comes in ──

-- room leaves what comes in its condition
pub room_ready : {ws ws₁ : List ℕ} {ok ok₂ : Mem → Type 0} {room : Mem → Room} {f : Freed} → Frees ws ws₁ ok room f → Ready ws (Then ok room ok₂) → Ready ws₁ ok₂
room_ready {room = room} F o = record { mem = (room o.mem).mem; repr = (F.to o.mem o.repr o.meets.asks).repr; meets = o.meets.leaves }

-- room, and what comes in with its slot, is what comes in where room was made
pub room_serves : {ws ws₁ ws₂ : List ℕ} {ok ok₂ : Mem → Type 0} {room : Mem → Room} {f : Freed} (load : Room → Done) {r : Answer}
    → Frees ws ws₁ ok room f → Serves ws₁ ws₂ ok₂ (given f load) r → Serves ws ws₂ (Then ok room ok₂) (filling room load) r
unfolding filling given
room_serves {ws₂ = ws₂} {room = room} {f = f} load {r = r} F S = record {
  to = λ m R o.
      let k = F.to m R o.asks in
      let same : record { mem = (room m).mem; slot = f.slot; out = page_or_none f.out } ≡ room m = λ i. record { mem = (room m).mem; slot = k.slot i; out = k.out i } in
      subst (λ (x : Room). Ends ws₂ r (load x)) same (S.to (room m).mem k.repr o.leaves);
}

-- a step under another condition and by another name
pub serves_as : {ws ws' : List ℕ} {ok ok' : Mem → Type 0} {step step' : Mem → Done} {r : Answer}
    → Serves ws ws' ok step r → ((m : Mem) → Repr ws m → ok' m → ok m × (step m ≡ step' m)) → Serves ws ws' ok' step' r
serves_as {ws' = ws'} {r = r} S h = record { to = λ m R o. subst (Ends ws' r) (h m R o).1 (S.to m R (h m R o).0) }

-- ── A change, and then room or a step ──

module _ {ws ws₁ : List ℕ} {ok ok₁ ok₂ : Mem → Type 0} {g : Mem → Mem} (t : Turns ws ws₁ ok₁ g) where
  -- a change leaves what follows its condition
  pub turn_ready : ((m : Mem) → Repr ws m → ok m → ok₁ m × ok₂ (g m)) → Ready ws ok → Ready ws₁ ok₂
  turn_ready h o = let k = h o.mem o.repr o.meets in record { mem = g o.mem; repr = t.to o.mem o.repr k.0; meets = k.1 }

  -- a change, and then room
  pub turn_frees : {ws₂ : List ℕ} {room room' : Mem → Room} {f : Freed}
      → Frees ws₁ ws₂ ok₂ room f → ((m : Mem) → Repr ws m → ok m → ok₁ m × ok₂ (g m) × (room (g m) ≡ room' m)) → Frees ws ws₂ ok room' f
  turn_frees {ws₂ = ws₂} {f = f} F h = record { to = λ m R o. let k = h m R o in subst (Clears ws₂ f) k.2 (F.to (g m) (t.to m R k.0) k.1) }

  -- a change, and then a step
  pub turn_serves : {ws₂ : List ℕ} {step step' : Mem → Done} {r : Answer}
      → Serves ws₁ ws₂ ok₂ step r → ((m : Mem) → Repr ws m → ok m → ok₁ m × ok₂ (g m) × (step (g m) ≡ step' m)) → Serves ws ws₂ ok step' r
  turn_serves {ws₂ = ws₂} {r = r} S h = record { to = λ m R o. let k = h m R o in subst (Ends ws₂ r) k.2 (S.to (g m) (t.to m R k.0) k.1) }
