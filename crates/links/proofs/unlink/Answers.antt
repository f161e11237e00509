use Rattle.links.proofs.Linking.{unlink_turns, on_next, on_prev}
use borrow.Author.Rules.{rules}
use Rattle.links.proofs.unlink.Goals as goal

pub join-requires : goal.join-requires
join-requires c = (search (on_next, rules), search (on_prev, rules))

pub returns : goal.returns
returns c = unlink_turns (cc)
