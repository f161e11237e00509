use Rattle.index.proofs.Hanging.{hang_turns}
use borrow.Author.Rules.{rules}
use Rattle.index.proofs.hang.Goals as goal

pub returns : goal.returns
returns c = hang_turns _ (search rules) (cc)
