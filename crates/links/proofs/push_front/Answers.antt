use Rattle.links.proofs.Linking.{push_turns, off_prev}
use borrow.Author.Rules.{rules}
use native.Mathlib.Omega.{arith}
use Rattle.links.proofs.push_front.Goals as goal

pub lead-requires : goal.lead-requires
lead-requires c = (omega arith, search (off_prev, rules))

pub returns : goal.returns
returns c = push_turns (search rules) (cc)
