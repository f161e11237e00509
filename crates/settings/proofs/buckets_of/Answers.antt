use native.Mathlib.Omega.{arith}
use lib.Pow.{pow_mono}
use Rattle.settings.proofs.buckets_of.Goals as goal

pub returns : goal.returns
returns c = omega (arith, pow_mono {i = c.args.k} {j = 10} c.requires)
