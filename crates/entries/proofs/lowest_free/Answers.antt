use Prim.Native.Nat.{ℕ, ◌+◌, ◌*◌, ◌≤◌}
use lib.ListN.{length}
use mathlib.Core.Path.{◌≡◌, refl}
use Rattle.std.proofs.Common.{rules, tests}
use Rattle.std.proofs.lemmas.Iterator.{first_from_find, serves_from_Range, YieldsList-from_range}
use Rattle.meaning.specs.Layout.{cell_at, list_col}
use Rattle.meaning.specs.Mem.{word}
use Rattle.cells.proofs.Bounds.{entry_room}
use Rattle.entries.proofs.Scans.{least_found, free_least}
use native.Mathlib.Omega.{arith}
use Rattle.entries.proofs.lowest_free.Goals as goal

pub find-requires-clause-callable : goal.find-requires-clause-callable
find-requires-clause-callable c = serves_from_Range (λ x q k. search (rules, tests)) (λ x g h. let room : 16 + 8 * x + 8 ≤ length c.args.words.now = entry_room c.requires c.word-n.ensures h in search rules)

pub returns : goal.returns
returns c =
    let at = λ (e : ℕ). word c.args.words.now (cell_at e list_col) in
    let r = first_from_find _ _ c.find.result (λ e. at e ≡ 0) (λ e. at e ≡ 0 → ⊥) c.find.ensures.ran (YieldsList-from_range 0 c.word-n.result c.word-n.result refl (omega arith)) (λ x q k. search (rules, tests)) (λ x q k. search (rules, tests)) in
    free_least c.word-n.ensures (rw c.unwrap_or.ensures (least_found c.find.result r))
