use Rattle.links.proofs.Walks.{back_says}
use borrow.Author.Rules.{rules}
use Rattle.links.proofs.back.Goals as goal

pub returns : goal.returns
returns c = back_says (search rules) (cc)
