use borrow.Author.Rules.{rules}
use borrow.Author.Tests.{tests}
use Rattle.meaning.specs.Mem.{E}
use Rattle.meaning.specs.Rules.{page_new, rule_e}
use Rattle.readers.proofs.Ranges.{every_below}
use Rattle.rules_efg.proofs.rule_e.Goals as goal

pub returns : goal.returns
unfolding rule_e
returns c =
    let ws = c.args.d.now.words.now in
    every_below (page_new ws) c.all.ensures.ran (λ x b q k. search (rules, tests)) (E ws) (cc)
