use mathlib.Core.Path.{refl, sym, ap, ◌∙◌}
use mathlib.Core.List.{List}
use Prim.Native.Nat.{ℕ}
use native.Mathlib.Omega.{arith}
use borrow.Author.Rules.{rules}
use borrow.Author.Tests.{tests}
use lib.Dec.{eqb}
use Rattle.std.proofs.lemmas.Iterator.Consumers.{YieldsList-from_first}
use Rattle.std.proofs.lemmas.Iterator.Search.{any_from_yields_List}
use Rattle.meaning.specs.Neighbours.{has}
use Rattle.meaning.specs.Rules.{chained}
use Rattle.readers.proofs.Rules.{bucket_fits}
use Rattle.invariants.proofs.Tests.{imp_is}
use Rattle.cells.specs.Steps.{steps}
use Rattle.rules_efg.proofs.Chains.{whole_chain, chain_readable, visits}
use Rattle.rules_efg.proofs.chained.Goals as goal

pub first_of-requires : goal.first_of-requires
first_of-requires c = rw c.bucket_in.ensures (bucket_fits c.args.d.now.words.now c.args.d.now.sized c.args.i)

pub invariant_of-any : goal.invariant_of-any
invariant_of-any c = record { column = omega arith; readable = chain_readable c.args.d.now.words.now c.requires.right c.bucket_in.ensures c.first_of.ensures _ c.args.d.now.sized }

pub returns : goal.returns
unfolding chained
returns c =
    let i = c.args.i in
    imp_is (sym c.is_used.ensures ∙ c.if-not-is_used.false)
    (any_from_yields_List (λ (e : ℕ). eqb i e) c.any.new.self _ c.any.result c.any.ensures.ran (YieldsList-from_first (λ x. x) steps _ refl) (λ x b q k. search (rules, tests))
    ∙ visits i _ ∙ ap (λ (L : List ℕ). has L i) (whole_chain c.args.d.now.words.now c.requires.right c.bucket_in.ensures c.first_of.ensures (omega (arith, c.len.ensures))))
