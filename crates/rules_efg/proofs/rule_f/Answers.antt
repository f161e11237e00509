use mathlib.Core.Path.{◌≡◌, ap, ◌∙◌}
use Prim.Native.Nat.{ℕ, ◌+◌}
use native.Mathlib.Omega.{arith}
use borrow.Author.Rules.{rules}
use borrow.Author.Tests.{tests}
use Rattle.meaning.specs.Base.{every}
use Rattle.meaning.specs.Mem.{E}
use Rattle.meaning.specs.Rules.{held_count, slot_right, rule_f}
use Rattle.readers.proofs.Ranges.{every_below}
use Rattle.rules_efg.proofs.rule_f.Goals as goal

pub returns : goal.returns
unfolding rule_f
returns c =
    let ws = c.args.d.now.words.now in
    let n = c.count_on.result + c.count_on-2.result in
    let held : n ≡ held_count ws = omega (arith, c.count_on.ensures.0, c.count_on-2.ensures.0) in
    every_below (slot_right ws n) c.all.ensures.ran (λ x b q k. search (rules, tests)) (E ws) (cc) ∙ ap (λ (k : ℕ). every (E ws) (slot_right ws k)) held
