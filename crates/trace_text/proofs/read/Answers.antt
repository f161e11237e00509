use mathlib.Core.Path.{refl, sym}
use lib.ListN.{length}
use Rattle.meaning.proofs.Exits.{passed_on}
use Rattle.trace_text.proofs.Reading.{read_long, refuses, refuses_head, accepts}
use Rattle.trace_text.proofs.read.Goals as goal

pub returns-then-text-gt65535 : goal.returns-then-text-gt65535
returns-then-text-gt65535 c = let a = c.args in refuses a.text.now a.trace.now (read_long a.text.now (length a.trace.now) c.if-text-gt65535.true)

pub returns-in_err-head : goal.returns-in_err-head
returns-in_err-head c =
    let a = c.args in
    rw (passed_on _ c.from_residual.ensures.1) (refuses_head a.text.now a.trace.now c.if-text-gt65535.false refl (c.in_err-head.ensures (length a.trace.now)))

pub returns-in_err-read_pages : goal.returns-in_err-read_pages
returns-in_err-read_pages c =
    let a = c.args in let s = c.in_ok-head.head.settings in let e = c.in_err-read_pages.ensures in
    rw (passed_on _ c.from_residual-in_err-read_pages.ensures.1, e.1)
    (refuses_head a.text.now a.trace.now c.if-text-gt65535.false c.in_ok-head.ensures (e.0 s.policy s.capacity s.first s.second))

pub returns : goal.returns
returns c =
    let a = c.args in let e = c.in_ok-read_pages.ensures in
    accepts a.text.now a.trace.now c.if-text-gt65535.false c.in_ok-head.ensures e.0 e.1 (sym e.2) e.3
