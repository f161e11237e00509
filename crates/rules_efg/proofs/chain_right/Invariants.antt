use Prim.Native.Nat.{◌+◌, ◌-◌}
use Rattle.meaning.specs.Layout.{bucket_at}
use Rattle.meaning.specs.Mem.{word, E}
use Rattle.meaning.specs.Rules.{of_bucket}
use Rattle.readers.specs.Sized.{chain_in}
use Rattle.invariants.proofs.Listed.{Trail}
use Rattle.rules_efg.proofs.chain_right.Given as goal

abbrev pub invariant-loop : goal.invariant-loop
invariant-loop l =
    let ws = l.d.words.now in
    Trail (E ws) (of_bucket ws l.b) (chain_in ws) (word ws (bucket_at (E ws) l.b)) l.e (E ws + 1 - l.counter)
