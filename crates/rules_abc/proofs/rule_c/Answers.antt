use borrow.Author.Rules.{rules}
use borrow.Author.Tests.{tests}
use Rattle.meaning.specs.Mem.{E}
use Rattle.meaning.specs.Rules.{entry_right, rule_c}
use Rattle.readers.proofs.Ranges.{every_below}
use Rattle.rules_abc.proofs.rule_c.Goals as goal

pub returns : goal.returns
unfolding rule_c
returns c =
    let ws = c.args.d.now.words.now in
    every_below (entry_right ws) c.all.ensures.ran (λ x b q k. search (rules, tests)) (E ws) (cc)
