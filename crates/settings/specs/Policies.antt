-- Document 01's number of each policy, and what is said of settings before any words.
use Rattle.std.specs.Prelude.{ℕ, ◌≡◌, not, eqb, leb, ◌&&◌, false, Result, MatchResult, if◌then◌else◌}
use Rattle.meaning.specs.Layout.{Settings}
use Rattle.meaning.specs.Calls.{plain, Said, refused, gave, refusal_of}
use Rattle.meaning.specs.declared.Refusal.{Refusal as Refusing}
use Rattle.meaning.specs.declared.Refusal.TheVariants.{NoSuchPolicy}
use Rattle.settings.specs.declared.Policy.{Policy}
use Rattle.settings.specs.declared.Policy.TheVariants.{Lru, Clock, Segmented, TwoQ, Arc}

-- The number of a policy.
abbrev pub number_of : Policy → ℕ
number_of Lru = 1
number_of Clock = 2
number_of Segmented = 3
number_of TwoQ = 4
number_of Arc = 5

-- The result is the policy of this number, or refusal 1 where there is none.
abbrev pub IsOfNumber : ℕ → Result Policy Refusing → Type 0
IsOfNumber n r = MatchResult r (λ p. number_of p ≡ n) (λ e. (e ≡ NoSuchPolicy) × ((leb 1 n && leb n 5) ≡ false))

-- What is said of settings: refusal 1, 2 or 3, or the policy that they name.
unfoldable pub judged : Settings → Said ℕ
judged s = if not (eqb (refusal_of s) 0) then refused (plain (refusal_of s)) else gave s.policy
