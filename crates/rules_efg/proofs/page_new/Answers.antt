use mathlib.Core.Path.{sym, ◌∙◌}
use mathlib.Core.Bool.{not}
use borrow.Author.Rules.{rules}
use borrow.Author.Tests.{tests}
use lib.Dec.{eqb}
use Rattle.meaning.specs.Base.{◌⇒◌}
use Rattle.meaning.specs.Rules.{page_in, used, page_new}
use Rattle.invariants.proofs.Tests.{imp_is}
use Rattle.readers.proofs.Ranges.{every_below}
use Rattle.rules_efg.proofs.page_new.Goals as goal

pub returns-else-not-is_used : goal.returns-else-not-is_used
unfolding page_new
returns-else-not-is_used c =
    let ws = c.args.d.now.words.now in
    let i = c.args.i in
    imp_is (sym c.is_used.ensures ∙ c.if-not-is_used.false) (every_below (λ h. used ws h ⇒ not (eqb (page_in ws h) (page_in ws i))) c.all.ensures.ran (λ x b q k. search (rules, tests)) i (cc))
