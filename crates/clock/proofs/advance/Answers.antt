use Rattle.clock.proofs.OfClock.{hand_below, advance_zero, advance_next}
use native.Mathlib.Omega.{arith}
use borrow.Author.Rules.{rules}
use Rattle.clock.proofs.advance.Goals as goal

pub overflow_add-h : goal.overflow_add-h
overflow_add-h c = omega (arith, hand_below c.word-c.ensures c.word-h.ensures c.requires)

pub returns-then-h-c : goal.returns-then-h-c
returns-then-h-c c = search (advance_zero, rules)

pub returns : goal.returns
returns c = search (advance_next, rules)
