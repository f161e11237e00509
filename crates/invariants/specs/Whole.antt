-- What rules a to h say, of a directory as a value: the same for every policy, and all that a request may assume and must leave.
use Rattle.std.specs.Prelude.{ℕ, ◌≤◌, ◌≡◌, true, false, [], eqb}
use Rattle.meaning.specs.Base.{tally}
use Rattle.meaning.specs.Neighbours.{NONE, has}
use Rattle.meaning.specs.Layout.{is_clock, is_list, entries_of, bits_of, settings_refusal, mark_limit}
use Rattle.meaning.specs.Mem.{Mem, capacity_of, entry_count, first_of, index_bits, policy_of, second_of, word6_of}
use Rattle.invariants.specs.Proper.{Seated}
use Rattle.meaning.specs.Rules.{word6_fits, sizes_right}

-- How many entries are on list j, by their words.
unfoldable pub members : Mem → ℕ → ℕ
members m j = tally (entry_count m) (λ i. eqb (m.lists i) j)

-- The header of a directory: rules a and b.
pub record Headed (m : Mem) : Type 0 where
  pub settings : settings_refusal (policy_of m) (capacity_of m) (first_of m) (second_of m) ≡ 0
  pub entries : entry_count m ≡ entries_of (policy_of m) (capacity_of m) (second_of m)
  pub bits : index_bits m ≡ bits_of (entry_count m)
  pub word6 : word6_fits (policy_of m) (capacity_of m) (word6_of m) ≡ true

-- The entries of a directory, whatever its policy: rule c; rules e, f and g in `seated`.
pub record Stocked (m : Mem) : Type 0 where
  pub seated : Seated m
  pub idle : (i : ℕ) → m.lists i ≡ 0 → m.pages i ≡ NONE
  pub uses : (i : ℕ) → (m.lists i ≡ 0 → ⊥) → is_list (policy_of m) (m.lists i) ≡ true
  pub marks : (i : ℕ) → m.marks i ≤ mark_limit (policy_of m)

-- CLOCK's part of rule d: no list has an order, and each used entry's slot is its own number.
pub record Unordered (m : Mem) : Type 0 where
  pub bare : (j : ℕ) → m.order j ≡ []
  pub own : (i : ℕ) → (m.lists i ≡ 0 → ⊥) → m.slots i ≡ i

-- Rule d: a used entry is on its list, or the directory is CLOCK's.
pub record Whole (m : Mem) : Type 0 where
  pub headed : Headed m
  pub stocked : Stocked m
  pub listed : is_clock (policy_of m) ≡ false → (i : ℕ) → (m.lists i ≡ 0 → ⊥) → has (m.order (m.lists i)) i ≡ true
  pub clock : is_clock (policy_of m) ≡ true → Unordered m
  pub sizes : sizes_right (policy_of m) (capacity_of m) (first_of m) (second_of m) (members m 1) (members m 2) (members m 3) (members m 4) ≡ true
