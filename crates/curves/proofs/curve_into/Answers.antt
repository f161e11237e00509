-- `curve_into` meets its contract, from what it calls, by `places` and `curve_is`.
use Prim.Native.Nat.{ℕ}
use mathlib.Core.Path.{◌≡◌, ap, ◌∙◌}
use lib.ListN.{length, replicate, length-replicate}
use Rattle.meaning.specs.Neighbours.{NONE}
use Rattle.curves.specs.PageList.{list_after}
use Rattle.curves.specs.Curve.{bumps, sums}
use Rattle.curves.proofs.Counts.{places, curve_is}
use Rattle.curves.proofs.curve_into.Goals as goal

pub returns : goal.returns
returns c =
    let a = c.args in
    let pre = c.requires in
    let f = c.fill in
    let g = c.fill-2 in
    let v = c.walk in
    let t = a.trace.now in
    let n = length a.work.now in
    let r : f.new.self ≡ replicate n 0 = f.ensures.after (λ y e. e) ∙ ap (λ (k : ℕ). replicate k 0) pre.0.0 in
    let w : g.new.self ≡ replicate n NONE = g.ensures.after (λ y e. e) in
    let l : length g.new.self ≡ n = ap length w ∙ length-replicate n NONE in (
      c.add_up.ensures ∙ ap (sums 0) (v.ensures.0 ∙ (λ j. bumps (l j) (r j) (w j) t)) ∙ curve_is n t pre.2,
      v.ensures.1 ∙ (λ j. list_after (l j) (w j) t) ∙ places n t pre.2,
    )
