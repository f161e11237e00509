-- What rule a says, and that it bounds the capacity, the entries and the buckets.
use mathlib.Core.Path.{◌≡◌, sym}
use mathlib.Core.Bool.{true, ◌&&◌}
use mathlib.Core.List.{List}
use Prim.Native.Nat.{ℕ}
use native.Mathlib.Omega.{arith}
use lib.ListN.{length}
use lib.Dec.{eqb, leb}
use borrow.Author.Tests.{eqb-true}
use Rattle.meaning.specs.Layout.{bits_of, length_for, entries_of, settings_refusal}
use Rattle.meaning.specs.Mem.{E, bits_in, capacity_in, first_in, policy_in, second_in}
use Rattle.meaning.specs.Rules.{rule_a}
use Rattle.invariants.proofs.Tests.{and_left, and_right}
use Rattle.invariants.proofs.Accepted.{accepted, few_entries}
use Rattle.invariants.proofs.Fresh.{bits_small}
use Rattle.readers.specs.Sized.{Sized}

-- What rule a says.
pub record RuleA (ws : List ℕ) : Type 0 where
  pub settings : settings_refusal (policy_in ws) (capacity_in ws) (first_in ws) (second_in ws) ≡ 0
  pub entries : E ws ≡ entries_of (policy_in ws) (capacity_in ws) (second_in ws)
  pub bits : bits_in ws ≡ bits_of (E ws)
  pub long : length ws ≡ length_for (E ws)

-- Rule a, taken apart.
pub rule_a_lem : (ws : List ℕ) → rule_a ws ≡ true → RuleA ws
unfolding rule_a
rule_a_lem ws h =
    let a = leb 16 (length ws) in
    let b = eqb (settings_refusal (policy_in ws) (capacity_in ws) (first_in ws) (second_in ws)) 0 in
    let c = eqb (E ws) (entries_of (policy_in ws) (capacity_in ws) (second_in ws)) in
    let d = eqb (bits_in ws) (bits_of (E ws)) in
    let l = eqb (length ws) (length_for (E ws)) in
    let abcd : (a && b && c && d) ≡ true = and_left (a && b && c && d) l h in
    let abc : (a && b && c) ≡ true = and_left (a && b && c) d abcd in
    record {
      settings = eqb-true _ _ (and_right a b (and_left (a && b) c abc));
      entries = eqb-true _ _ (and_right (a && b) c abc);
      bits = eqb-true _ _ (and_right (a && b && c) d abcd);
      long = eqb-true _ _ (and_right (a && b && c && d) l h);
    }

-- Rule a bounds the capacity, the entries and the buckets.
pub sized : (ws : List ℕ) → rule_a ws ≡ true → Sized ws
unfolding length_for bits_of
sized ws h =
    let r = rule_a_lem ws h in
    record {
      most = (accepted (policy_in ws) (capacity_in ws) (first_in ws) (second_in ws) r.settings).most;
      few = omega (arith, r.entries, few_entries (policy_in ws) (capacity_in ws) (first_in ws) (second_in ws) r.settings);
      fits = rw r.bits (sym r.long);
      bits = omega (arith, r.bits, bits_small 10 0 (E ws));
    }
