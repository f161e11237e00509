use Prim.Native.Nat.{◌+◌, ◌-◌}
use Rattle.meaning.specs.Mem.{E}
use Rattle.invariants.proofs.Listed.{Rest}
use Rattle.rule_d.proofs.list_right.Given as goal

abbrev pub invariant-loop-visited : goal.invariant-loop-visited
invariant-loop-visited l = let ws = l.d.words.now in Rest ws l.j l.e l.before (E ws + 1 - l.visited)
