-- Rules d and g at one list or bucket, taken apart and put together; and what is left of a walk in a turn of the loop that checks it.
use mathlib.Core.Path.{◌≡◌, ap, sym, ◌∙◌}
use mathlib.Core.Bool.{Bool, true, ◌&&◌}
use mathlib.Core.List.{List, [], ◌∷◌}
use Prim.Native.Nat.{ℕ, ◌+◌, ◌-◌, ◌≤◌, ◌<◌}
use native.Mathlib.Omega.{arith}
use lib.ListN.{length}
use lib.Dec.{eqb, leb, ltb}
use borrow.Author.Tests.{eq-eqb, eqb-true, ltb-true, lt-ltb, leb-true, le-leb}
use Rattle.meaning.specs.Base.{all, last_or, walk}
use Rattle.meaning.specs.Neighbours.{NONE, has, Nodup}
use Rattle.meaning.specs.Layout.{head_at, tail_at}
use Rattle.meaning.specs.Mem.{word, E}
use Rattle.meaning.specs.Rules.{distinct, list_in, previous_in, next_in, on, within, count, list_from, keeps_to, backwards, list_right}
use Rattle.invariants.proofs.Tests.{and_left, and_right, both, three}
use Rattle.invariants.proofs.Numbers.{tally_le}
use Rattle.invariants.proofs.Counted.{all_at, nodup_distinct, distinct_nodup}
use Rattle.invariants.proofs.Walks.{walk_step, walk_stop, once}

-- A walk visits only numbers below n that pass the test, each once, and then NONE.
pub record Kept (n : ℕ) (f : ℕ → Bool) (l : List ℕ) : Type 0 where
  pub once : Nodup l
  pub only : all (within n f) l ≡ true
  pub ends : length l ≤ n

-- What the rule says of a walk.
pub keeps_is : (n : ℕ) (f : ℕ → Bool) (l : List ℕ) → keeps_to n f l ≡ true → Kept n f l
unfolding keeps_to
keeps_is n f l h =
    let p = three (distinct l) (all (within n f) l) (leb (length l) n) h in
    record { once = distinct_nodup l p.0; only = p.1; ends = leb-true _ _ p.2 }

-- What makes the rule hold of a walk.
pub is_keeps : {n : ℕ} {f : ℕ → Bool} {l : List ℕ} → Kept n f l → keeps_to n f l ≡ true
unfolding keeps_to
is_keeps {l} v = both (both (nodup_distinct l v.once) v.only) (le-leb _ _ v.ends)

-- what a walk visits is below n and passes
pub visited : {n : ℕ} {f : ℕ → Bool} {l : List ℕ} → Kept n f l → (i : ℕ) → has l i ≡ true → (i < n) × (f i ≡ true)
visited {n} {f} {l} k i h = let p = all_at (within n f) l k.only i h in (ltb-true i n (and_left (ltb i n) (f i) p), and_right (ltb i n) (f i) p)

-- In a turn of a walk from start: e is next, and that many steps are left.
pub record Trail (n : ℕ) (f : ℕ → Bool) (next : ℕ → ℕ) (start e left : ℕ) : Type 0 where
  pub most : left ≤ n + 1
  pub only : all (within n f) (walk NONE (n + 1) next start) ≡ all (within n f) (walk NONE left next e)
  pub steps : length (walk NONE (n + 1) next start) + left ≡ n + 1 + length (walk NONE left next e)

module _ {n : ℕ} {f : ℕ → Bool} {next : ℕ → ℕ} {start e left : ℕ} (r : Trail n f next start e left) where
  -- no step is left, and e is not NONE
  pub over_long : left ≡ 0 → Kept n f (walk NONE (n + 1) next start) → ⊥
  over_long z v = omega (arith, r.steps, v.ends, ap (λ (m : ℕ). length (walk NONE m next e)) z)

  module _ (some : e ≡ NONE → ⊥) (more : 0 < left) where
    step : walk NONE left next e ≡ e ∷ walk NONE (left - 1) next (next e)
    step = walk_step next left e more some

    -- a walk that is right visits e by right
    pub here : Kept n f (walk NONE (n + 1) next start) → (e < n) × (f e ≡ true)
    here v =
        let p : within n f e ≡ true = and_left _ _ (sym (r.only ∙ ap (all (within n f)) step) ∙ v.only) in
        (ltb-true e n (and_left (ltb e n) (f e) p), and_right (ltb e n) (f e) p)

    -- one step more
    pub trail_more : e < n → f e ≡ true → Trail n f next start (next e) (left - 1)
    trail_more h k =
        record {
          most = omega (arith, r.most);
          only = r.only ∙ ap (all (within n f)) step ∙ simp (lt-ltb e n h, k);
          steps = omega (arith, r.steps, ap length step);
        }

  module _ (end : e ≡ NONE) where
    none : walk NONE left next e ≡ []
    none = walk_stop next left e end

    -- so many steps were made
    pub all_steps : length (walk NONE (n + 1) next start) + left ≡ n + 1
    all_steps = omega (arith, r.steps, ap length none)

    -- the walk is right, if a step is left
    pub trail_done : 0 < left → Kept n f (walk NONE (n + 1) next start)
    trail_done h =
        record {
          once = once next (n + 1) start (omega (arith, all_steps));
          only = r.only ∙ ap (all (within n f)) none;
          ends = omega (arith, all_steps);
        }

-- ── rule d at list j ──

-- What rule d says of list j.
pub record Listed (ws : List ℕ) (j : ℕ) : Type 0 where
  pub kept : Kept (E ws) (on ws j) (list_from ws j)
  pub exact : length (list_from ws j) ≡ count ws j
  pub tail : word ws (tail_at j) ≡ last_or NONE (list_from ws j)
  pub back : backwards ws NONE (list_from ws j) ≡ true

-- What the rule says of a list.
pub right_is : (ws : List ℕ) (j : ℕ) → list_right ws j ≡ true → Listed ws j
unfolding list_right
right_is ws j h =
    let l = list_from ws j in
    let t = eqb (word ws (tail_at j)) (last_or NONE l) in
    let p = three (keeps_to (E ws) (on ws j) l) (eqb (length l) (count ws j)) (t && backwards ws NONE l) h in
    record { kept = keeps_is (E ws) (on ws j) l p.0; exact = eqb-true _ _ p.1; tail = eqb-true _ _ (and_left t _ p.2); back = and_right t _ p.2 }

-- What makes the rule hold of a list.
pub is_right : {ws : List ℕ} {j : ℕ} → Listed ws j → list_right ws j ≡ true
unfolding list_right
is_right v = both (both (is_keeps v.kept) (eq-eqb _ _ v.exact)) (both (eq-eqb _ _ v.tail) v.back)

-- in a turn: `before` was visited last
pub record Rest (ws : List ℕ) (j e before left : ℕ) : Type 0 where
  pub trail : Trail (E ws) (on ws j) (next_in ws) (word ws (head_at j)) e left
  pub last : last_or NONE (list_from ws j) ≡ last_or before (walk NONE left (next_in ws) e)
  pub back : backwards ws NONE (list_from ws j) ≡ backwards ws before (walk NONE left (next_in ws) e)

module _ {ws : List ℕ} {j e before left : ℕ} (r : Rest ws j e before left) where
  module _ (some : e ≡ NONE → ⊥) (more : 0 < left) where
    went : walk NONE left (next_in ws) e ≡ e ∷ walk NONE (left - 1) (next_in ws) (next_in ws e)
    went = walk_step (next_in ws) left e more some

    -- a list that is right leads back from e
    pub here_back : Listed ws j → previous_in ws e ≡ before
    here_back v = eqb-true _ _ (and_left _ _ (sym (r.back ∙ ap (backwards ws before) went) ∙ v.back))

    -- one step more
    pub rest_more : e < E ws → list_in ws e ≡ j → previous_in ws e ≡ before → Rest ws j (next_in ws e) e (left - 1)
    rest_more h k p =
        record {
          trail = trail_more r.trail some more h (eq-eqb _ _ k);
          last = r.last ∙ ap (last_or before) went;
          back = r.back ∙ ap (backwards ws before) went ∙ simp (eq-eqb (previous_in ws e) before p);
        }

  module _ (end : e ≡ NONE) where
    -- `before` is the last of the list
    pub all_last : last_or NONE (list_from ws j) ≡ before
    all_last = r.last ∙ ap (last_or before) (walk_stop (next_in ws) left e end)

    -- the list is right, if its tail and its count are
    pub rest_done : word ws (tail_at j) ≡ before → count ws j + left ≡ E ws + 1 → Listed ws j
    rest_done t n =
        record {
          kept = trail_done r.trail end (omega (arith, tally_le (E ws) (on ws j)));
          exact = omega (arith, all_steps r.trail end);
          tail = t ∙ sym all_last;
          back = r.back ∙ ap (backwards ws before) (walk_stop (next_in ws) left e end);
        }
