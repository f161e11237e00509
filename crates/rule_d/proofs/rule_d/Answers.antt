use mathlib.Core.Path.{◌≡◌, sym, ap, ◌∙◌}
use mathlib.Core.Bool.{Bool, true, false, not}
use mathlib.Core.List.{List}
use Prim.Native.Nat.{ℕ}
use borrow.Author.Rules.{rules}
use borrow.Author.Tests.{tests, not-true, not-false}
use Rattle.meaning.specs.Layout.{is_clock}
use Rattle.meaning.specs.Mem.{E, policy_in}
use Rattle.meaning.specs.Rules.{rule_d, end_none, clock_right, list_right}
use Rattle.invariants.proofs.Tests.{joins}
use Rattle.readers.proofs.Ranges.{every_from, every_below}
use Rattle.rule_d.proofs.rule_d.Goals as goal

-- a policy whose lists have no order is CLOCK
clock : (ws : List ℕ) {p : ℕ} {r : Bool} → p ≡ policy_in ws → r ≡ not (is_clock p) → r ≡ false → is_clock (policy_in ws) ≡ true
clock ws ep e h = not-false _ (ap (λ (p : ℕ). not (is_clock p)) (sym ep) ∙ sym e ∙ h)

-- and any other is not
listed : (ws : List ℕ) {p : ℕ} {r : Bool} → p ≡ policy_in ws → r ≡ not (is_clock p) → r ≡ true → is_clock (policy_in ws) ≡ false
listed ws ep e h = not-true _ (ap (λ (p : ℕ). not (is_clock p)) (sym ep) ∙ sym e ∙ h)

pub returns-then-has_order : goal.returns-then-has_order
unfolding rule_d
returns-then-has_order c =
    let ws = c.args.d.now.words.now in
    simp (listed ws c.word.ensures c.has_order.ensures c.if-has_order.true) (every_from (list_right ws) c.all.ensures.ran (λ x b q k. search (rules, tests)) 1 5 4 (cc) (cc))

pub returns-then-all : goal.returns-then-all
unfolding rule_d
returns-then-all c =
    let ws = c.args.d.now.words.now in
    simp (clock ws c.word.ensures c.has_order.ensures c.if-has_order.false)
    (joins (sym (every_below (end_none ws) c.all-2.ensures.ran (λ x b q k. search (rules, tests)) 8 (cc)) ∙ c.if-all.true)
    (every_below (clock_right ws) c.all-then-all.ensures.ran (λ x b q k. search (rules, tests)) (E ws) (cc)))

pub returns-else-all : goal.returns-else-all
unfolding rule_d
returns-else-all c =
    let ws = c.args.d.now.words.now in
    let ends = every_below (end_none ws) c.all-2.ensures.ran (λ x b q k. search (rules, tests)) 8 (cc) in
    simp (clock ws c.word.ensures c.has_order.ensures c.if-has_order.false) (simp (sym ends ∙ c.if-all.false) (c.if-all.false))
