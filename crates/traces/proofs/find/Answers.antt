use lib.Dec.{eqb}
use Prim.Native.Nat.{ℕ}
use borrow.Author.Rules.{rules}
use Rattle.std.proofs.lemmas.Iterator.{YieldsList-from_slice}
use Rattle.std.proofs.lemmas.Iterator.Search.{position_from_yields_List}
use Rattle.traces.proofs.Depth.{place_of}
use Rattle.traces.proofs.find.Goals as goal

pub returns : goal.returns
returns c =
    let a = c.args in
    place_of a.s.now a.p (position_from_yields_List (λ (x : ℕ). eqb x a.p) _ _ _ c.position.ensures.ran (YieldsList-from_slice a.s.now cc) (λ x b q k. search rules))
