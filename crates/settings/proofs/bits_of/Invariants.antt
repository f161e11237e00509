use Rattle.std.proofs.Common.{◌≡◌, ◌-◌}
use Rattle.meaning.specs.Layout.{bits_of, bits_from}
use Rattle.settings.proofs.bits_of.Given as goal

abbrev pub invariant-loop-k : goal.invariant-loop-k
invariant-loop-k l = bits_of l.fn.n ≡ bits_from (10 - l.k) l.k l.fn.n
