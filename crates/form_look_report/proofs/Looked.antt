-- The answers of `look`.
use Prim.Native.Nat.{ℕ, ◌+◌, ◌*◌, ◌≤◌, ◌<◌}
use mathlib.Core.Path.{◌≡◌, refl, sym, ap, ◌∙◌, subst}
use mathlib.Core.Bool.{true, false}
use mathlib.Core.List.{List}
use native.Mathlib.Omega.{arith}
use lib.Dec.{eqb}
use lib.ListN.{length}
use borrow.Author.Tests.{ne_eqb}
use Rattle.meaning.specs.declared.Looked.{Looked}
use Rattle.meaning.specs.declared.Looked.TheVariants as look
use Rattle.lists.specs.Told.{Found}
use Rattle.std.specs.Prelude.{Option, Some, None, Ok, Err, if◌then◌else◌}
use Rattle.meaning.specs.Neighbours.{NONE}
use Rattle.meaning.specs.Layout.{is_held, cell_at, list_col, slot_col}
use Rattle.meaning.specs.Mem.{Mem, word, decode, entry_of, list_on, entry_count}
use Rattle.invariants.specs.Places.{cell, list, slot, Repr, Says}
use Rattle.meaning.specs.Rules.{sound}
use Rattle.invariants.specs.Whole.{Whole}
use Rattle.meaning.specs.Calls.{refused, gave, Sight, held_in, absent, remembered, on_page, sight, looked}
use Rattle.meaning.specs.declared.Refusal.{Refusal as Refusing}
use Rattle.meaning.specs.Answers.{refusal_says}
use Rattle.sound.proofs.Entry.{page_refused, page_allowed}
use Rattle.lists.specs.Told.{Answers}
use Rattle.lists.proofs.Finding.{FoundAt, found_at, found_none}
use Rattle.sound.proofs.Door.{door}
use Rattle.form_look_report.specs.Looks.{SeenAs, LookedAs}

module _ (ws : List ℕ) (page : ℕ) where
  -- The words or the page are refused.
  pub look_refused : {r : Refusing} → refused (refusal_says r) ≡ on_page ws page (gave (tt {0})) refused → LookedAs ws page (Err r)
  unfolding looked
  look_refused e = record { answer = sym (page_refused ws page (gave (sight (decode ws) page)) refused e) }

  -- The page was looked for.
  pub look_sees : {r : Looked} → gave (tt {0}) ≡ on_page ws page (gave (tt {0})) refused → SeenAs ws page r → LookedAs ws page (Ok r)
  unfolding looked on_page
  look_sees e a = let t = page_allowed ws page e in record { answer = ap gave a.answer ∙ sym (simp (t.0, ne_eqb page NONE t.1)) }

-- what is seen of a page whose entry is e
sight_at : Mem → ℕ → Sight
sight_at m e = if is_held (m.lists e) then held_in (m.slots e) else if eqb (m.lists e) 0 then absent else remembered

sight_is : (m : Mem) (page : ℕ) → sight m page ≡ sight_at m (entry_of m page)
unfolding sight list_on sight_at
sight_is m page = refl

module _ (ws : List ℕ) (page : ℕ) (s : sound ws ≡ true) (low : page < NONE) {r : Option Found} (g : Says ws (Answers page r)) where
  abbrev m : Mem
  m = decode ws

  R : Repr ws m
  R = (door ws s).0

  W : Whole m
  W = (door ws s).1

  -- No entry has the page.
  pub seen_absent : r ≡ None → SeenAs ws page look.Absent
  unfolding sight_at is_held
  seen_absent z =
      let e = (found_none m W.stocked.seated.indexed low (subst (λ (x : Option Found). Answers page x m) z (g.of m R))).entry in
      let free : m.lists (entry_of m page) ≡ 0 = ap m.lists e ∙ W.stocked.seated.indexed.canonical.lists (entry_count m) (omega arith) in
      record { answer = sym (sight_is m page ∙ simp free) }

  module _ {found : Found} (z : r ≡ Some found) where
    at : FoundAt page found.entry found.before m
    at = found_at m R.fine (subst (λ (x : Option Found). Answers page x m) z (g.of m R))

    -- The entry found may be read.
    pub seen_room : 16 + 8 * found.entry + 8 ≤ length ws
    seen_room = omega (arith, at.hung.within, R.holds.size)

    module _ {j : ℕ} (ej : j ≡ word ws (cell_at found.entry list_col)) where
      on : j ≡ m.lists found.entry
      on = ej ∙ R.holds.at (cell list found.entry) at.hung.within

      used : j ≡ 0 → ⊥
      used y = omega (arith, W.stocked.idle found.entry (sym on ∙ y), at.page)

      there : sight m page ≡ sight_at m found.entry
      there = sight_is m page ∙ ap (sight_at m) at.entry

      -- The page is held.
      pub seen_held : {x : ℕ} → is_held j ≡ true → x ≡ word ws (cell_at found.entry slot_col) → SeenAs ws page (look.Held x)
      unfolding sight_at
      seen_held h ex =
          let y : is_held (m.lists found.entry) ≡ true = ap is_held (sym on) ∙ h in
          record { answer = ap held_in (ex ∙ R.holds.at (cell slot found.entry) at.hung.within) ∙ sym (there ∙ simp y) }

      -- The page is a ghost.
      pub seen_ghost : is_held j ≡ false → SeenAs ws page look.Remembered
      unfolding sight_at
      seen_ghost h =
          let y : is_held (m.lists found.entry) ≡ false = ap is_held (sym on) ∙ h in
          record { answer = sym (there ∙ simp (y, ne_eqb (m.lists found.entry) 0 (λ y. used (on ∙ y)))) }
