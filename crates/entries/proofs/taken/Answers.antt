use Prim.Native.Nat.{ℕ, ◌+◌, ◌*◌, ◌≤◌}
use lib.ListN.{length}
use mathlib.Core.Path.{◌≡◌, refl}
use mathlib.Core.Bool.{true, false}
use Rattle.std.proofs.Common.{rules, tests}
use Rattle.std.proofs.lemmas.Iterator.{cases_from_any, serves_from_Range, YieldsList-from_range}
use Rattle.cells.proofs.Bounds.{entry_room}
use Rattle.entries.specs.Written.{sits_at}
use Rattle.entries.proofs.Scans.{sits_some}
use native.Mathlib.Omega.{arith}
use Rattle.entries.proofs.taken.Goals as goal

pub any-requires-clause-callable : goal.any-requires-clause-callable
any-requires-clause-callable c = serves_from_Range (λ x q k. search (rules, tests)) (λ x g h. let room : 16 + 8 * x + 8 ≤ length c.args.words.now = entry_room c.requires c.word-n.ensures h in search rules)

pub returns : goal.returns
returns c =
    let at = λ (i : ℕ). sits_at c.args.words.now c.args.s i in
    sits_some c.args.s c.any.result c.word-n.ensures
    (cases_from_any _ _ c.any.result (λ i. at i ≡ true) (λ i. at i ≡ false) c.any.ensures.ran (YieldsList-from_range 0 c.word-n.result c.word-n.result refl (omega arith)) (λ x q k. search (rules, tests)) (λ x q k. search (rules, tests)))
