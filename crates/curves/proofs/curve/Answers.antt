-- `curve` meets its contract: what it does not refuse is what `curve_into` leaves.
use Prim.Native.Nat.{ℕ}
use mathlib.Core.Path.{◌≡◌, ap, ◌∙◌}
use native.Mathlib.Omega.{arith}
use lib.ListN.{length, take}
use lib.Seq.{length-take-le}
use Rattle.meaning.specs.Base.{series, pad}
use Rattle.meaning.specs.Neighbours.{NONE}
use Rattle.curves.specs.PageList.{hits_of, pages_of}
use Rattle.traces.proofs.Depth.{told}
use Rattle.traces.proofs.Pages.{all_pages}
use Rattle.curves.proofs.Answers.{done}
use Rattle.curves.proofs.curve.Goals as goal

pub curve_into-requires : goal.curve_into-requires
curve_into-requires c =
    let a = c.args in
    let r : length (take a.largest a.res.now) ≡ a.largest = length-take-le a.largest a.res.now (omega arith) in
    let w : length (take a.largest a.work.now) ≡ a.largest = length-take-le a.largest a.work.now (omega arith) in
    ((omega arith, omega arith), omega arith, told a.trace.now c.contains.ensures.value c.if-contains.false)

pub returns : goal.returns
returns c =
    let a = c.args in
    let t = a.trace.now in
    let i = c.curve_into in
    let h = told t c.contains.ensures.value c.if-contains.false in
    let w : length (take a.largest a.work.now) ≡ a.largest = length-take-le a.largest a.work.now (omega arith) in
    done a.largest t a.res.now a.work.now (omega arith) (omega arith) (omega arith) h (omega arith) (omega arith)
    (all_pages t (λ k. omega (arith, c.type_inv.trace k)) h)
    i.new.res i.new.work
    (i.ensures.0 ∙ ap (λ (k : ℕ). series (hits_of t) k 1) w)
    (i.ensures.1 ∙ ap (λ (k : ℕ). pad NONE k (pages_of k t)) w)
