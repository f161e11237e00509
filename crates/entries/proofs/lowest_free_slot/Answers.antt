use Prim.Native.Nat.{ℕ}
use mathlib.Core.Path.{refl}
use mathlib.Core.Bool.{Bool, true, false}
use Rattle.std.proofs.Common.{rules, tests}
use Rattle.std.proofs.lemmas.Iterator.{first_from_find, YieldsList-from_range}
use Rattle.meaning.specs.Mem.{taken}
use Rattle.invariants.specs.Places.{Says}
use Rattle.cells.specs.Told.{GivesOf}
use Rattle.entries.proofs.Scans.{least_found, slot_least}
use native.Mathlib.Omega.{arith}
use Rattle.entries.proofs.lowest_free_slot.Goals as goal

pub returns : goal.returns
returns c =
    let says = λ (b : Bool) (x : ℕ). Says c.args.words.now (GivesOf taken x b) in
    let r = first_from_find _ _ c.find.result (says false) (says true) c.find.ensures.ran (YieldsList-from_range 0 c.word-c.result c.word-c.result refl (omega arith)) (λ x q k. search (rules, tests)) (λ x q k. search (rules, tests)) in
    slot_least c.word-c.ensures (rw c.unwrap_or.ensures (least_found c.find.result r))
