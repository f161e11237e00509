use mathlib.Core.Path.{◌≡◌, refl, ap, ◌∙◌}
use Prim.Native.Nat.{ℕ}
use borrow.Author.Rules.{rules}
use borrow.Author.Tests.{tests}
use lib.Dec.{eqb}
use Rattle.std.specs.declared.option.Option.{Option}
use Rattle.std.specs.declared.option.Option.TheVariants.{Some, None}
use Rattle.std.specs.Option.{is_none}
use Rattle.meaning.specs.Rules.{sound}
use Rattle.meaning.specs.Calls.{audited}
use Rattle.sound.specs.declared.Rule.{Rule}
use Rattle.sound.specs.declared.Rule.TheVariants.{A, B, C, D, E, F, G, H}
use Rattle.sound.specs.Numbers.{number_or_0}
use Rattle.sound.proofs.audit.Goals as goal

-- only where there is no rule is the number 0
none : (r : Option Rule) → is_none r ≡ eqb (number_or_0 r) 0
none None = refl
none (Some A) = refl
none (Some B) = refl
none (Some C) = refl
none (Some D) = refl
none (Some E) = refl
none (Some F) = refl
none (Some G) = refl
none (Some H) = refl

pub returns : goal.returns
unfolding audited sound
returns c =
    let r = c.first_broken.result in
    let e : c.is_none.result ≡ is_none r = search (rules, tests) in
    e ∙ none r ∙ ap (λ (x : ℕ). eqb x 0) c.first_broken.ensures
