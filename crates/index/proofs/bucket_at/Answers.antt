use Rattle.invariants.proofs.Chained.{bucket_small}
use Rattle.index.proofs.Hanging.{chain_room}
use Rattle.cells.proofs.Bounds.{bits_le}
use borrow.Author.Rules.{rules}
use native.Mathlib.Omega.{arith}
use Rattle.index.proofs.bucket_at.Goals as goal

pub bucket_of-b-requires : goal.bucket_of-b-requires
bucket_of-b-requires c = omega (arith, bits_le)

pub overflow_add-result-2 : goal.overflow_add-result-2
overflow_add-result-2 c = omega (arith, bucket_small _ _ c.bucket_of-b.ensures)

pub returns : goal.returns
returns c = (cc, search (chain_room, rules))
