use Prim.Native.Nat.{ℕ, ◌+◌, ◌-◌, ◌≤◌, ◌<◌}
use mathlib.Core.Bool.{Bool, true, false, false≢true}
use mathlib.Core.List.{List}
use mathlib.Core.Path.{◌≡◌, refl, sym, ap, ◌∙◌}
use native.Mathlib.Omega.{arith}
use lib.Dec.{eqb}
use borrow.Author.Tests.{eqb-true, eq-eqb, ne_eqb}
use Rattle.meaning.specs.Neighbours.{NONE}
use Rattle.meaning.specs.Layout.{tail_at}
use Rattle.meaning.specs.Mem.{word, E}
use Rattle.meaning.specs.Rules.{count, list_in, list_right, next_in, previous_in}
use Rattle.invariants.proofs.Tests.{fails}
use Rattle.invariants.proofs.Listed.{Rest, right_is, is_right, over_long, here, here_back, rest_more, all_steps, all_last, rest_done}
use Rattle.rule_d.proofs.list_right.Goals as goal

-- two tests that pass together are one
agree : (r s : Bool) → (r ≡ true → s ≡ true) → (s ≡ true → r ≡ true) → r ≡ s
agree true s f g = sym (f refl)
agree false s f g = fails s (λ h. absurd (false≢true (g h)))

-- in a turn: so many entries were visited, and then e
module _ {ws : List ℕ} {j e before v : ℕ} (r : Rest ws j e before (E ws + 1 - v)) (turn : v ≤ E ws) where
  -- the walk is over, and the tail that was read is the entry visited last: the count decides
  counted : e ≡ NONE → word ws (tail_at j) ≡ before → {k : ℕ} → k ≡ count ws j → eqb k v ≡ list_right ws j
  counted end t {k} c = agree (eqb k v) (list_right ws j)
      (λ h. is_right (rest_done r end t (omega (arith, eqb-true k v h))))
      (λ h. eq-eqb k v (omega (arith, all_steps r.trail end, (right_is _ _ h).exact)))

  -- and where it is not, the list is not right
  untold : e ≡ NONE → {t : ℕ} → t ≡ word ws (tail_at j) → (t ≡ before → ⊥) → eqb t before ≡ list_right ws j
  untold end {t} k u = ne_eqb t before u ∙ fails _ (λ h. u (k ∙ (right_is _ _ h).tail ∙ all_last r end))

  -- one step more
  onward : (e ≡ NONE → ⊥) → e < E ws → list_in ws e ≡ j → previous_in ws e ≡ before → Rest ws j (next_in ws e) e (E ws + 1 - (v + 1))
  onward some b l p =
      let k : E ws + 1 - (v + 1) ≡ E ws + 1 - v - 1 = omega arith in
      rw k (rest_more r some (omega arith) b l p)

-- the tail that was read is that of list j
tail : (ws : List ℕ) (j : ℕ) {a t : ℕ} → t ≡ word ws a → a ≡ tail_at j → t ≡ word ws (tail_at j)
tail ws j e k = e ∙ ap (word ws) k

pub returns-then-word-before : goal.returns-then-word-before
returns-then-word-before c =
    counted c.loop-visited.invariant (omega arith) c.if-e.true (sym (tail c.args.d.now.words.now c.args.j c.word.ensures c.tail_at.ensures) ∙ c.if-word-before.true) c.count_on.ensures.0

pub returns-else-word-before : goal.returns-else-word-before
returns-else-word-before c =
    untold c.loop-visited.invariant (omega arith) c.if-e.true (tail c.args.d.now.words.now c.args.j c.word.ensures c.tail_at.ensures) c.if-word-before.false

pub returns-then-n-e : goal.returns-then-n-e
returns-then-n-e c =
    let at = c.loop-visited in
    fails _ (λ h. omega (arith, (here at.invariant.trail c.if-e.false (omega arith) (right_is _ _ h).kept).0))

pub returns-then-cell-j : goal.returns-then-cell-j
returns-then-cell-j c =
    let at = c.loop-visited in
    fails _ (λ h. c.if-cell-j.true (c.cell.ensures ∙ eqb-true _ _ (here at.invariant.trail c.if-e.false (omega arith) (right_is _ _ h).kept).1))

pub returns-then-lost : goal.returns-then-lost
returns-then-lost c =
    let at = c.loop-visited in
    fails _ (λ h. c.if-lost.true (c.cell-in-loop-visited.ensures ∙ here_back at.invariant c.if-e.false (omega arith) (right_is _ _ h)))

pub loop-visited-preserved : goal.loop-visited-preserved
loop-visited-preserved c =
    rw c.cell-e.ensures
    (onward c.loop-visited.invariant (omega arith) c.if-e.false (omega arith) (sym c.cell.ensures ∙ c.if-cell-j.false) (sym c.cell-in-loop-visited.ensures ∙ c.if-lost.false))

pub returns-else-lost : goal.returns-else-lost
returns-else-lost c =
    fails _ (λ h. over_long (onward c.loop-visited.invariant (omega arith) c.if-e.false (omega arith) (sym c.cell.ensures ∙ c.if-cell-j.false) (sym c.cell-in-loop-visited.ensures ∙ c.if-lost.false)).trail (omega arith) (right_is _ _ h).kept)
