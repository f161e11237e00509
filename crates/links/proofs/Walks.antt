-- The walk along a list: its length and its back.
use Prim.Native.Nat.{ℕ, ◌≤◌}
use mathlib.Core.Path.{◌≡◌, ap, ◌∙◌}
use mathlib.Core.List.{List}
use native.Mathlib.Omega.{arith}
use lib.ListN.{length}
use Rattle.meaning.specs.Layout.{head_at, tail_at, next_col}
use Rattle.meaning.specs.Mem.{Mem, word, size, back, E, entry_count}
use Rattle.invariants.specs.Places.{top, head, tail, cell, next, Repr, Ready, Says}
use Rattle.cells.specs.Told.{GivesOf}
use Rattle.invariants.proofs.Chained.{holes}
use Rattle.cells.specs.Trail.{trail, Readable}
use Rattle.cells.proofs.Trails.{trail_whole}
use Rattle.links.specs.Told.{Lists, Shorter}

-- what the links lead through from the head of list j on, as many as there are entries, is list j, and its words may be read
walked : {ws : List ℕ} {i n : ℕ} (j : ℕ) (m : Mem) → Repr ws m → (1 ≤ j) × (j ≤ 4) → i ≡ word ws (head_at j) → n ≡ E ws
    → (trail ws next_col n i ≡ m.order j) × Readable ws (trail ws next_col n i)
walked {ws} {i} {n} j m R hj ei en =
    let a : n ≡ entry_count m = en ∙ R.holds.at (top 2) (omega arith) in
    rw a (trail_whole ws next_col (entry_count m) R.fine.few (omega (arith, R.holds.size)) m.order m.lists R.fine.linked (λ i h. R.holds.at (cell next i) h) j (ei ∙ R.holds.at (head j) hj))

pub walk_readable : {ws : List ℕ} {ok : Mem → Type 0} {i n : ℕ} (j : ℕ) → Ready ws ok → (1 ≤ j) × (j ≤ 4) → i ≡ word ws (head_at j) → n ≡ E ws → Readable ws (trail ws next_col n i)
walk_readable j o hj ei en = (walked j o.mem o.repr hj ei en).1

pub walk_lists : {ws : List ℕ} {i n : ℕ} (j : ℕ) → (1 ≤ j) × (j ≤ 4) → i ≡ word ws (head_at j) → n ≡ E ws → Says ws (Lists j (trail ws next_col n i))
walk_lists j hj ei en = record { of = λ m R. record { is = (walked j m R hj ei en).0 } }

-- how many stand on a list
pub list_size : {ws : List ℕ} {j k : ℕ} {L : List ℕ} → Says ws (Lists j L) → k ≡ length L → Says ws (GivesOf size j k)
unfolding size
list_size s e = record { of = λ m R. record { is = e ∙ ap length (s.of m R).is } }

pub list_few : {ws : List ℕ} {ok : Mem → Type 0} {j : ℕ} {L : List ℕ} → Ready ws ok → Says ws (Lists j L) → length L ≤ 1024
list_few {j = j} o s = let m = o.mem in let F = o.repr.fine in
    omega (arith, ap length (s.of m o.repr).is, holes (entry_count m) (m.order j) (F.linked.once j) (λ z g. (F.linked.member j z g).0), F.few)

-- a list fits where it is shorter than n
pub list_fits : {ws : List ℕ} {ok : Mem → Type 0} {j n : ℕ} {L : List ℕ} → Ready ws ok → Says ws (Lists j L) → Says ws (Shorter j n) → length L ≤ n
unfolding size
list_fits o s f = let m = o.mem in omega (arith, ap length (s.of m o.repr).is, (f.of m o.repr).fits)

pub back_says : {ws : List ℕ} {j r : ℕ} → (1 ≤ j) × (j ≤ 4) → r ≡ word ws (tail_at j) → Says ws (GivesOf back j r)
unfolding back
back_says {j = j} hj e = record { of = λ m R. record { is = e ∙ R.holds.at (tail j) hj } }
