use Prim.Native.Nat.{◌<◌}
use mathlib.Core.Path.{refl}
use mathlib.Core.Logic.{inl}
use Rattle.std.proofs.lemmas.Iterator.Consumers.{YieldsList-end}
use Rattle.cells.specs.Steps.{steps}
use Rattle.meaning.specs.Layout.{cell_at, page_col}
use Rattle.meaning.specs.Mem.{word}
use Rattle.meaning.specs.Calls.{over}
use Rattle.links.proofs.Walks.{list_few, list_fits}
use Rattle.links.proofs.Copying.{numbered_walk, walk_turn, turn_readable, copy_more, copied}
use borrow.Author.Rules.{rules}
use native.Mathlib.Omega.{arith}
use Rattle.links.proofs.write_pages.Goals as goal

pub loop-k-init-derived : goal.loop-k-init-derived
loop-k-init-derived c =
    let few = list_few c.requires.ready c.listed.ensures.lists in
    rw (c.into_iter-k-iterator.ensures.into_iter_gives, c.enumerate-k-items.ensures.source, c.enumerate-k-items.ensures.count) ((tt, tt, inl (omega arith)), tt)

pub loop-k-init : goal.loop-k-init
unfolding over
loop-k-init c = refl

pub cell-requires : goal.cell-requires
cell-requires c =
    let t = walk_turn c.listed.result c.into_iter-k-iterator.ensures.into_iter_gives c.enumerate-k-items.ensures.source c.enumerate-k-items.ensures.count c.loop-k.yielded c.loop-k.k-iterator c.loop-k.yielded_by c.next.result c.next.new.self c.in-Some.k c.in-Some.entry c.in-Some.is c.next.ensures.steps in
    (omega arith, turn_readable c.args.words.now (steps c.listed.result) c.listed.ensures.readable t.0 t.2)

pub offset_bounds-res-k : goal.offset_bounds-res-k
offset_bounds-res-k c =
    let t = walk_turn c.listed.result c.into_iter-k-iterator.ensures.into_iter_gives c.enumerate-k-items.ensures.source c.enumerate-k-items.ensures.count c.loop-k.yielded c.loop-k.k-iterator c.loop-k.yielded_by c.next.result c.next.new.self c.in-Some.k c.in-Some.entry c.in-Some.is c.next.ensures.steps in
    let few = list_few c.requires.ready c.listed.ensures.lists in
    let l : c.in-Some.k < 1024 = omega arith in search rules

pub bounds-res-k : goal.bounds-res-k
bounds-res-k c =
    let t = walk_turn c.listed.result c.into_iter-k-iterator.ensures.into_iter_gives c.enumerate-k-items.ensures.source c.enumerate-k-items.ensures.count c.loop-k.yielded c.loop-k.k-iterator c.loop-k.yielded_by c.next.result c.next.new.self c.in-Some.k c.in-Some.entry c.in-Some.is c.next.ensures.steps in
    omega (arith, list_fits c.requires.ready c.listed.ensures.lists c.requires.fits)

pub loop-k-preserved : goal.loop-k-preserved
loop-k-preserved c =
    let t = walk_turn c.listed.result c.into_iter-k-iterator.ensures.into_iter_gives c.enumerate-k-items.ensures.source c.enumerate-k-items.ensures.count c.loop-k.yielded c.loop-k.k-iterator c.loop-k.yielded_by c.next.result c.next.new.self c.in-Some.k c.in-Some.entry c.in-Some.is c.next.ensures.steps in
    copy_more (λ i. word c.args.words.now (cell_at i page_col)) c.args.res.now c.loop-k.yielded c.in-Some.k c.in-Some.entry t.1 (omega (arith, list_fits c.requires.ready c.listed.ensures.lists c.requires.fits)) c.cell.ensures c.loop-k.invariant

pub returns-clause-copied : goal.returns-clause-copied
returns-clause-copied c =
    let road = numbered_walk c.into_iter-k-iterator.ensures.into_iter_gives c.enumerate-k-items.ensures.source c.enumerate-k-items.ensures.count in
    copied c.loop-k.yielded c.listed.ensures.lists (YieldsList-end road c.loop-k.yielded c.loop-k.k-iterator c.loop-k.yielded_by c.next.result c.next.new.self c.in-None.is c.next.ensures.steps).0 c.loop-k.invariant
