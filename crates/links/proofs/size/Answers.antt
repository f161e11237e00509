use Prim.Native.Nat.{◌≤◌}
use mathlib.Core.Logic.{inl}
use mathlib.Core.Path.{refl}
use Rattle.std.proofs.lemmas.Iterator.Consumers.{count_from_yields_List, YieldsList-from_first}
use Rattle.cells.specs.Steps.{steps}
use Rattle.links.proofs.Walks.{list_size, list_few}
use borrow.Author.Rules.{rules}
use native.Mathlib.Omega.{arith}
use Rattle.links.proofs.size.Goals as goal

pub count-requires-clause-fits : goal.count-requires-clause-fits
count-requires-clause-fits c = inl (omega (arith, list_few c.requires.ready c.listed.ensures.lists))

pub overflow_cast-result : goal.overflow_cast-result
overflow_cast-result c = let few = list_few c.requires.ready c.listed.ensures.lists in let b = c.count.ensures.bound in let l : c.count.result ≤ 1024 = omega arith in search rules

pub returns-clause-says : goal.returns-clause-says
returns-clause-says c =
    list_size c.listed.ensures.lists (count_from_yields_List c.listed.result c.count.result c.count.ensures.ran (YieldsList-from_first (λ x. x) steps (steps c.listed.result) refl))

pub returns-clause-upper_bound : goal.returns-clause-upper_bound
returns-clause-upper_bound c = omega (arith, list_few c.requires.ready c.listed.ensures.lists, c.count.ensures.bound)
