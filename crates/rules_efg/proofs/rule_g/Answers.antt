use mathlib.Core.Path.{◌≡◌, sym, ap, ◌∙◌}
use mathlib.Core.Bool.{true}
use mathlib.Core.List.{List}
use Prim.Native.Nat.{ℕ, ◌^◌}
use native.Mathlib.Omega.{arith}
use borrow.Author.Rules.{rules}
use borrow.Author.Tests.{tests}
use Rattle.std.proofs.lemmas.Iterator.{serves_from_Range}
use Rattle.meaning.specs.Base.{every}
use Rattle.meaning.specs.Mem.{E, bits_in}
use Rattle.meaning.specs.Rules.{bucket_in, rule_g, chain_right, chained}
use Rattle.invariants.proofs.Tests.{joins, every_at}
use Rattle.readers.proofs.Rules.{bucket_fits}
use Rattle.readers.proofs.Ranges.{every_below}
use Rattle.rules_efg.proofs.rule_g.Goals as goal

-- as many buckets as the index bits say
buckets : (ws : List ℕ) {k n : ℕ} → k ≡ bits_in ws → n ≡ 2 ^ k → n ≡ 2 ^ bits_in ws
buckets ws e h = h ∙ ap (λ (k : ℕ). 2 ^ k) e

pub all-requires-then-all-clause-callable : goal.all-requires-then-all-clause-callable
all-requires-then-all-clause-callable c =
    let ws = c.args.d.now.words.now in
    let n = 2 ^ bits_in ws in
    let e = buckets ws c.word.ensures c.buckets_of-buckets.ensures.0 in
    let chains : every n (chain_right ws) ≡ true = sym (every_below (chain_right ws) c.all.ensures.ran (λ x b q k. search (rules, tests)) n (cc)) ∙ c.if-all.true in
    serves_from_Range (λ x q k. search (rules, tests)) (λ x a b k p g e r m. (omega arith, every_at n (chain_right ws) chains (bucket_in ws x) (bucket_fits ws c.args.d.now.sized x)))

pub returns-then-all : goal.returns-then-all
unfolding rule_g
returns-then-all c =
    let ws = c.args.d.now.words.now in
    let e = buckets ws c.word.ensures c.buckets_of-buckets.ensures.0 in
    joins (sym (every_below (chain_right ws) c.all.ensures.ran (λ x b q k. search (rules, tests)) (2 ^ bits_in ws) (cc)) ∙ c.if-all.true)
    (every_below (chained ws) c.all-then-all.ensures.ran (λ x b q k. search (rules, tests)) (E ws) (cc))

pub returns-else-all : goal.returns-else-all
unfolding rule_g
returns-else-all c =
    let ws = c.args.d.now.words.now in
    let e = buckets ws c.word.ensures c.buckets_of-buckets.ensures.0 in
    let chains = every_below (chain_right ws) c.all.ensures.ran (λ x b q k. search (rules, tests)) (2 ^ bits_in ws) (cc) in
    simp (sym chains ∙ c.if-all.false) c.if-all.false
