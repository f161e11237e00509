-- A chain that is right, as a walk of the code goes along it.
use mathlib.Core.Path.{◌≡◌, refl, sym, ap, ◌∙◌}
use mathlib.Core.Bool.{Bool, true, ◌||◌}
use mathlib.Core.List.{List, [], ◌∷◌}
use Prim.Native.Nat.{ℕ, zero, suc, ◌+◌, ◌*◌, ◌≤◌}
use native.Mathlib.Omega.{arith}
use lib.ListN.{length}
use lib.Dec.{eqb, ltb}
use borrow.Author.Tests.{ltb-true}
use Rattle.std.specs.List.{list_any}
use Rattle.meaning.specs.Base.{all, walk}
use Rattle.meaning.specs.Neighbours.{NONE, has}
use Rattle.meaning.specs.Layout.{bucket_at, chain_col}
use Rattle.meaning.specs.Mem.{word, E}
use Rattle.meaning.specs.Rules.{within, of_bucket, bucket_from, chain_right}
use Rattle.readers.specs.Sized.{Sized, chain_in}
use Rattle.invariants.proofs.Lists.{split}
use Rattle.invariants.proofs.Tests.{and_left, and_right}
use Rattle.invariants.proofs.Walks.{walk_stop, walk_on}
use Rattle.invariants.proofs.Listed.{Kept, keeps_is}
use Rattle.cells.specs.Trail.{trail, Readable}
use Rattle.cells.proofs.Trails.{trail_none, trail_step, readable_more}

-- the entries from e on, where they are n and k at most, are what a walk of k steps yields
same_trail : (ws : List ℕ) (n k e : ℕ) → length (walk NONE (n + 1) (chain_in ws) e) ≤ n → length (walk NONE (n + 1) (chain_in ws) e) ≤ k
    → trail ws chain_col k e ≡ walk NONE (n + 1) (chain_in ws) e
unfolding trail
same_trail ws n zero e h l = split e NONE
    (λ p t. sym (walk_stop (chain_in ws) (n + 1) e p))
    (λ p t. absurd (omega (arith, ap length (walk_on (chain_in ws) n e h p))))
same_trail ws n (suc k) e h l = split e NONE
    (λ p t. trail_none ws chain_col (suc k) e p ∙ sym (walk_stop (chain_in ws) (n + 1) e p))
    (λ p t. let w = walk_on (chain_in ws) n e h p in
    trail_step ws chain_col (suc k) e {k' = k} (λ z. omega arith) p refl (omega arith)
    ∙ ap (λ (r : List ℕ). e ∷ r) (same_trail ws n k (chain_in ws e) (omega (arith, ap length w)) (omega (arith, ap length w))) ∙ sym w)

-- however many steps a walk has: where the entries from e on are n at most, and all are there, their words may be read
along_readable : (ws : List ℕ) (n : ℕ) (f : ℕ → Bool) → 16 + 8 * n ≤ length ws → (k e : ℕ) → all (within n f) (walk NONE (n + 1) (chain_in ws) e) ≡ true
    → length (walk NONE (n + 1) (chain_in ws) e) ≤ n → Readable ws (trail ws chain_col k e)
unfolding trail
along_readable ws n f room zero e a h = λ j l. absurd (omega arith)
along_readable ws n f room (suc k) e a h = split e NONE
    (λ p t. rw (trail_none ws chain_col (suc k) e p) (λ j l. absurd (omega arith)))
    (λ p t. let w = walk_on (chain_in ws) n e h p in
    let v = sym (ap (all (within n f)) w) ∙ a in
    let b = ltb-true e n (and_left (ltb e n) (f e) (and_left (within n f e) _ v)) in
    rw (trail_step ws chain_col (suc k) e {k' = k} (λ z. omega arith) p refl (omega arith))
    (readable_more ws e _ (omega (arith, b)) (along_readable ws n f room k (chain_in ws e) (and_right (within n f e) _ v) (omega (arith, ap length w)))))

-- the walk from the first entry of bucket b, whose chain is right
module _ (ws : List ℕ) {a b i : ℕ} (right : chain_right ws b ≡ true) (ea : a ≡ b) (ei : i ≡ word ws (bucket_at (E ws) a)) where
  -- what the rule says of its chain
  kept : Kept (E ws) (of_bucket ws b) (bucket_from ws b)
  unfolding chain_right
  kept = keeps_is (E ws) (of_bucket ws b) (bucket_from ws b) right

  -- with as many steps as there are entries it yields the whole chain
  pub whole_chain : {k : ℕ} → k ≡ E ws → trail ws chain_col k i ≡ bucket_from ws b
  whole_chain ek = rw (ei, ea, ek) (same_trail ws (E ws) (E ws) (word ws (bucket_at (E ws) b)) kept.ends kept.ends)

  -- what it yields may be read
  pub chain_readable : (k : ℕ) → Sized ws → Readable ws (trail ws chain_col k i)
  chain_readable k s = rw (ei, ea) (along_readable ws (E ws) (of_bucket ws b) (omega (arith, s.fits)) k (word ws (bucket_at (E ws) b)) kept.only kept.ends)

-- whether a number is visited, as `any` asks it
pub visits : (i : ℕ) (L : List ℕ) → list_any (λ (e : ℕ). eqb i e) L ≡ has L i
unfolding has
visits i [] = refl
visits i (x ∷ L) = ap (λ (r : Bool). eqb i x || r) (visits i L)
