-- The first f words are those of a free entry.
use Rattle.std.proofs.Common.{◌≡◌, true, get_or, ℕ}
use lib.Dec.{eqb}
use Rattle.meaning.specs.Base.{every}
use Rattle.meaning.specs.Layout.{cell_at}
use Rattle.meaning.specs.Mem.{word}
use Rattle.meaning.specs.Rules.{free_words}
use Rattle.rules_abc.proofs.is_free.Given as goal

abbrev pub invariant-loop-f : goal.invariant-loop-f
invariant-loop-f l = every l.f (λ (x : ℕ). eqb (word l.d.words.now (cell_at l.i x)) (get_or free_words x 0)) ≡ true
