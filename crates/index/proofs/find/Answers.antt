use Prim.Native.Nat.{ℕ}
use mathlib.Core.Path.{sym, ap, ◌∙◌}
use mathlib.Core.List.{List}
use Rattle.meaning.specs.Neighbours.{NONE}
use Rattle.cells.specs.Steps.{steps}
use Rattle.cells.proofs.Trails.{readable_tail}
use Rattle.index.specs.Told.{look_in}
use Rattle.index.proofs.Walks.{page_at, look_hit, look_past, look_end, found_by}
use Rattle.index.proofs.find.Goals as goal

pub returns-then-cell-page : goal.returns-then-cell-page
returns-then-cell-page c =
    let g = page_at c.args.words.now in let p = c.args.page in
    let all = ap steps c.into_iter-entry-iterator.ensures.into_iter_gives in
    let left = ap (λ (L : List ℕ). look_in g c.loop-entry.before L p) c.in-Some.ensures.steps in
    let hit = look_hit g p c.loop-entry.before c.in-Some.entry (steps c.next.new.self) (sym c.cell.ensures ∙ c.if-cell-page.true) in
    found_by c.chained-entry-items.ensures.chains (sym hit ∙ sym left ∙ sym c.loop-entry.invariant.0 ∙ ap (λ (L : List ℕ). look_in g NONE L p) all)

pub loop-entry-preserved : goal.loop-entry-preserved
loop-entry-preserved c =
    let g = page_at c.args.words.now in let p = c.args.page in
    let left = ap (λ (L : List ℕ). look_in g c.loop-entry.before L p) c.in-Some.ensures.steps in
    let past = look_past g p c.loop-entry.before c.in-Some.entry (steps c.next.new.self) (λ z. c.if-cell-page.false (c.cell.ensures ∙ z)) in
    (c.loop-entry.invariant.0 ∙ left ∙ past, readable_tail c.args.words.now c.in-Some.ensures.steps c.loop-entry.invariant.1)

pub returns : goal.returns
returns c =
    let g = page_at c.args.words.now in let p = c.args.page in
    let all = ap steps c.into_iter-entry-iterator.ensures.into_iter_gives in
    let left = ap (λ (L : List ℕ). look_in g c.loop-entry.before L p) c.in-None.ensures.steps.0 in
    found_by c.chained-entry-items.ensures.chains (sym (look_end g p c.loop-entry.before) ∙ sym left ∙ sym c.loop-entry.invariant.0 ∙ ap (λ (L : List ℕ). look_in g NONE L p) all)
