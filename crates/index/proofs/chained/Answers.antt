use Rattle.index.proofs.Walks.{walk_readable, walk_chains}
use native.Mathlib.Omega.{arith}
use Rattle.index.proofs.chained.Goals as goal

pub invariant_of-result : goal.invariant_of-result
invariant_of-result c = record { column = omega arith; readable = walk_readable c.args.page c.requires c.bucket_at-b.ensures.0 c.word.ensures c.word-2.ensures }

pub returns : goal.returns
returns c = record {
  chains = walk_chains c.args.page c.bucket_at-b.ensures.0 c.word.ensures c.word-2.ensures;
  readable = walk_readable c.args.page c.requires c.bucket_at-b.ensures.0 c.word.ensures c.word-2.ensures;
}
