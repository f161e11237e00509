-- What words say of the entries of the directory that they hold, and how many they count.
use mathlib.Core.Path.{◌≡◌, ap, ◌∙◌}
use mathlib.Core.List.{List}
use Prim.Native.Nat.{ℕ, ◌<◌}
use native.Mathlib.Omega.{arith}
use lib.Dec.{eqb}
use borrow.Author.Tests.{ne_eqb, eqb-true}
use Rattle.meaning.specs.Base.{tally}
use Rattle.meaning.specs.Layout.{is_held}
use Rattle.meaning.specs.Mem.{Mem, held, entry_count, index_bits, E}
use Rattle.invariants.specs.Places.{top, cell, page, list, slot, Holds, image}
use Rattle.meaning.specs.Rules.{page_in, list_in, slot_in, holds, on, count, held_count}
use Rattle.invariants.specs.Whole.{members}
use Rattle.invariants.proofs.Numbers.{tally_ext}
use Rattle.invariants.proofs.Counted.{tally_or}

-- lists 1 and 2 are the held pages
pub held_tally : (ws : List ℕ) → held_count ws ≡ tally (E ws) (holds ws)
unfolding is_held
held_tally ws = tally_or (E ws) (on ws 1) (on ws 2) (λ i e. ne_eqb (list_in ws i) 2 (λ z. omega (arith, eqb-true (list_in ws i) 1 e)))

module _ (m : Mem) (ws : List ℕ) (H : Holds (entry_count m) (index_bits m) ws (image m)) where
  -- the entries
  pub size : E ws ≡ entry_count m
  size = H.at (top 2) (omega arith)

  -- an entry by the words is one of the directory
  pub real : {i : ℕ} → i < E ws → i < entry_count m
  real l = omega (arith, size)

  -- and the other way
  pub near : {i : ℕ} → i < entry_count m → i < E ws
  near l = omega (arith, size)

  -- an entry's list
  pub list_is : {i : ℕ} → i < E ws → list_in ws i ≡ m.lists i
  list_is {i} l = H.at (cell list i) (real l)

  -- an entry's page
  pub page_is : {i : ℕ} → i < E ws → page_in ws i ≡ m.pages i
  page_is {i} l = H.at (cell page i) (real l)

  -- an entry's slot
  pub slot_is : {i : ℕ} → i < E ws → slot_in ws i ≡ m.slots i
  slot_is {i} l = H.at (cell slot i) (real l)

  -- the entries on list j are counted
  pub count_is : (j : ℕ) → count ws j ≡ members m j
  unfolding members
  count_is j = tally_ext (E ws) (on ws j) (λ i. eqb (m.lists i) j) (λ i l. ap (λ (x : ℕ). eqb x j) (list_is l)) ∙ ap (λ (n : ℕ). tally n (λ i. eqb (m.lists i) j)) size

  -- the held pages are counted
  pub held_is : held_count ws ≡ held m
  unfolding held
  held_is = held_tally ws ∙ tally_ext (E ws) (holds ws) (λ i. is_held (m.lists i)) (λ i l. ap is_held (list_is l)) ∙ ap (λ (n : ℕ). tally n (λ i. is_held (m.lists i))) size
