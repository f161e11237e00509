use Rattle.fresh.proofs.Wiping.{form_words}
use borrow.Author.Rules.{rules}
use Rattle.fresh.proofs.form_fresh.Goals as goal

pub returns : goal.returns
returns c = search (form_words, rules)
