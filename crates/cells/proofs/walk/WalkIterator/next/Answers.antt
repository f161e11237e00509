use mathlib.Core.Path.{ap, refl}
use lib.ListN.{length}
use borrow.Author.Rules.{rules}
use native.Mathlib.Omega.{arith}
use Rattle.cells.proofs.Trails.{trail_none, trail_over, trail_step, readable_head, readable_tail}
use Rattle.cells.proofs.walk.WalkIterator.next.Goals as goal
use Rattle.cells.proofs.walk.WalkIterator.next.Goals.{then-self-eq0-via-then-self-eq0, then-self-eq0-via-else-self-eq0+then-self}

pub returns-then-self-eq0-clause-steps : goal.returns-then-self-eq0-clause-steps
returns-then-self-eq0-clause-steps c =
    let s = c.args.self.now in
    elim c.then-self-eq0.branch [
      | then-self-eq0-via-then-self-eq0 w ↦ let e = trail_over s.words.now s.link s.left s.next w.if-self-eq0.true in (e, e)
      | then-self-eq0-via-else-self-eq0+then-self w ↦ let e = trail_none s.words.now s.link s.left s.next w.if-self.true in (e, e)
    ]

pub cell-self-requires : goal.cell-self-requires
cell-self-requires c =
    let s = c.args.self.now in let column = s.column in
    (omega arith, readable_head s.words.now (trail_step s.words.now s.link s.left s.next c.if-self-eq0.false c.if-self.false refl refl) s.readable)

pub invariant_of-self : goal.invariant_of-self
invariant_of-self c =
    let s = c.args.self.now in
    record {
      column = s.column;
      readable = readable_tail s.words.now (trail_step s.words.now s.link s.left s.next c.if-self-eq0.false c.if-self.false c.cell-self.ensures refl) s.readable;
    }

pub returns-clause-steps : goal.returns-clause-steps
returns-clause-steps c = let s = c.args.self.now in trail_step s.words.now s.link s.left s.next c.if-self-eq0.false c.if-self.false c.cell-self.ensures refl

pub returns-clause-goes : goal.returns-clause-goes
returns-clause-goes c =
    let s = c.args.self.now in
    let e = ap length (trail_step s.words.now s.link s.left s.next c.if-self-eq0.false c.if-self.false c.cell-self.ensures refl) in search rules
