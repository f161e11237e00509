use Rattle.links.proofs.Walks.{walk_readable, walk_lists}
use native.Mathlib.Omega.{arith}
use Rattle.links.proofs.listed.Goals as goal

pub invariant_of-result : goal.invariant_of-result
invariant_of-result c = record { column = omega arith; readable = walk_readable c.args.j c.requires.ready c.requires.le_j c.front.ensures c.word.ensures }

pub returns : goal.returns
returns c = record {
  lists = walk_lists c.args.j c.requires.le_j c.front.ensures c.word.ensures;
  readable = walk_readable c.args.j c.requires.ready c.requires.le_j c.front.ensures c.word.ensures;
}
