use mathlib.Core.Path.{◌≡◌, ap, ◌∙◌}
use lib.ListN.{length, take}
use lib.Seq.{sets, length-take-le}
use native.Mathlib.Omega.{arith}
use Rattle.meaning.specs.Text.{first_wrong, pages_in}
use Rattle.trace_text.proofs.Lines.{pages_sound}
use Rattle.trace_text.proofs.Reading.{stored}
use Rattle.trace_text.proofs.read_pages.Goals as goal

pub returns : goal.returns
returns c =
    let a = c.args in let t = a.text.now in let d = a.trace.now in let n = a.count in
    let z : first_wrong n 6 t ≡ 0 = omega arith in
    let k : length (take n d) ≡ n = length-take-le n d (omega arith) in
    (omega arith, omega arith, z, stored d n (pages_in n t) (pages_sound n 6 t (omega arith) z).1 (omega arith) (c.store.ensures ∙ ap (λ m. sets (take n d) 0 (pages_in m t)) k))
