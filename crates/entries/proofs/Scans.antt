-- What is read off all entries and off all slots: the lowest free entry, the held pages, and the lowest free slot.
use Prim.Native.Nat.{ℕ, ◌≤◌, ◌<◌}
use mathlib.Core.Path.{◌≡◌, sym, ap, ap₂, subst, ◌∙◌}
use mathlib.Core.Bool.{Bool, true, false, not, ◌&&◌}
use mathlib.Core.List.{List}
use native.Mathlib.Omega.{arith}
use Rattle.std.proofs.Math.Nat.{zero-add}
use lib.Dec.{eqb}
use lib.ListN.{length}
use Rattle.std.specs.Prelude.{Option, Some, None}
use Rattle.std.specs.Bool.{MatchBool}
use Rattle.std.specs.List.{AllWithin, HoldsAt, range_with_len}
use Rattle.std.specs.Option.{MatchOption, unwrap_or}
use Rattle.std.proofs.lemmas.List.FromFn.{length-range_with_len, get_or-range_with_len}
use borrow.Author.Tests.{eq-eqb, ne_eqb}
use Rattle.meaning.specs.Base.{tally, first, some}
use Rattle.meaning.specs.Layout.{is_held, cell_at, list_col}
use Rattle.meaning.specs.Mem.{Mem, word, lowest, held, sits, taken, free_slot, E, capacity_in, capacity_of, entry_count}
use Rattle.meaning.specs.Rules.{holds}
use Rattle.invariants.specs.Places.{top, cell, list, slot, Repr, Says}
use Rattle.invariants.proofs.Numbers.{first_at, some_hit, some_miss}
use Rattle.invariants.proofs.Read.{held_tally, held_is}
use Rattle.cells.specs.Told.{Gives, GivesOf}
use Rattle.entries.specs.Written.{sits_at}

-- ── Chains over the numbers below n ──

-- r is the least number below n of which Yes holds, or n; No holds of those before it
pub record Least (Yes No : ℕ → Type 0) (n r : ℕ) : Type 0 where
  pub within : r ≤ n
  pub before : (e : ℕ) → e < r → No e
  pub hit : r < n → Yes r

-- what holds at each place of the numbers below n holds of each number
each_below : {n k : ℕ} (P : ℕ → Type 0) → k ≤ n → AllWithin P (range_with_len 0 n) 0 k → (e : ℕ) → e < k → P e
each_below {n} P h a e l = subst P (get_or-range_with_len 0 n e 0 (omega arith) ∙ zero-add e) (a e 0 (omega arith) l)

-- what holds at a place of the numbers below n holds of its number
some_below : {n k : ℕ} (P : ℕ → Type 0) → k < n → HoldsAt P (range_with_len 0 n) k → P k
some_below {n} {k} P h a = subst P (get_or-range_with_len 0 n k 0 h ∙ zero-add k) (a 0)

-- what `find` over the numbers below n answers, or n
pub least_found : {n : ℕ} {Yes No : ℕ → Type 0} (r : Option ℕ)
    → MatchOption r (AllWithin No (range_with_len 0 n) 0 (length (range_with_len 0 n)))
    (λ x. Yes x × (i : ℕ) × (i < length (range_with_len 0 n)) × HoldsAt (λ y. y ≡ x) (range_with_len 0 n) i × AllWithin No (range_with_len 0 n) 0 i)
    → Least Yes No n (unwrap_or r n)
least_found {n} {Yes} {No} None h = record {
  within = omega arith;
  before = each_below No (omega arith) (subst (λ (k : ℕ). AllWithin No (range_with_len 0 n) 0 k) (length-range_with_len 0 n) h);
  hit = λ l. absurd (omega arith);
}
least_found {n} {Yes} {No} (Some x) h =
    let i = h.1 in let l : i < n = omega (arith, h.2, length-range_with_len 0 n) in
    let e : i ≡ x = some_below (λ y. y ≡ x) l h.3 in
    record { within = omega arith; before = λ k g. each_below No (omega arith) h.4 k (omega arith); hit = λ g. h.0 }

-- the least number below n that passes the test, or n, is `first`
least : (f : ℕ → Bool) (n k : ℕ) → k ≤ n → ((e : ℕ) → e < k → f e ≡ false) → (k < n → f k ≡ true) → k ≡ first f 0 n
least f n k h a b = sym (first_at f 0 n k (omega arith) (omega arith) (λ e l g. a e g) (λ g. b (omega arith)))

-- ── The lowest free entry ──

-- r is the lowest free entry
pub free_least : {ws : List ℕ} {n r : ℕ} → n ≡ E ws → Least (λ e. word ws (cell_at e list_col) ≡ 0) (λ e. word ws (cell_at e list_col) ≡ 0 → ⊥) n r → Says ws (Gives lowest r)
unfolding lowest
free_least {n = n} {r = r} en l = record {
  of = λ m R. let a : n ≡ entry_count m = en ∙ R.holds.at (top 2) (omega arith) in record {
    is = least (λ e. eqb (m.lists e) 0) (entry_count m) r (omega (arith, a, l.within))
        (λ e h. ne_eqb (m.lists e) 0 (λ z. l.before e h (R.holds.at (cell list e) (omega (arith, a, l.within)) ∙ z)))
        (λ h. eq-eqb (m.lists r) 0 (sym (R.holds.at (cell list r) h) ∙ l.hit (omega (arith, a))));
  };
}

-- ── Whether a slot is taken, and the lowest that is not ──

-- what `any` over the numbers below n answers
pub sits_some : {ws : List ℕ} {n : ℕ} (x : ℕ) (b : Bool) → n ≡ E ws
    → MatchBool b ((k : ℕ) × (k < length (range_with_len 0 n)) × HoldsAt (λ i. sits_at ws x i ≡ true) (range_with_len 0 n) k)
    (AllWithin (λ i. sits_at ws x i ≡ false) (range_with_len 0 n) 0 (length (range_with_len 0 n)))
    → Says ws (GivesOf taken x b)
unfolding taken
sits_some {ws} {n} x b en h = record { of = λ m R. record { is = go m R b h } }
  where
    sits_is : (m : Mem) → Repr ws m → (i : ℕ) → i < entry_count m → sits_at ws x i ≡ sits m x i
    sits_is m R i g = ap₂ (λ (l t : ℕ). is_held l && eqb t x) (R.holds.at (cell list i) g) (R.holds.at (cell slot i) g)

    go : (m : Mem) → Repr ws m → (b : Bool)
        → MatchBool b ((k : ℕ) × (k < length (range_with_len 0 n)) × HoldsAt (λ i. sits_at ws x i ≡ true) (range_with_len 0 n) k)
        (AllWithin (λ i. sits_at ws x i ≡ false) (range_with_len 0 n) 0 (length (range_with_len 0 n)))
        → b ≡ some (entry_count m) (sits m x)
    go m R true h =
        let a : n ≡ entry_count m = en ∙ R.holds.at (top 2) (omega arith) in
        let l : h.0 < n = omega (arith, h.1, length-range_with_len 0 n) in
        sym (some_hit (entry_count m) (sits m x) h.0 (omega arith) (sym (sits_is m R h.0 (omega arith)) ∙ some_below (λ i. sits_at ws x i ≡ true) l h.2))
    go m R false h =
        let a : n ≡ entry_count m = en ∙ R.holds.at (top 2) (omega arith) in
        sym (some_miss (entry_count m) (sits m x) (λ i l. sym (sits_is m R i l) ∙ each_below (λ i. sits_at ws x i ≡ false) (omega (arith, length-range_with_len 0 n)) h i (omega (arith, length-range_with_len 0 n))))

-- r is the lowest free slot
pub slot_least : {ws : List ℕ} {c r : ℕ} → c ≡ capacity_in ws → Least (λ x. Says ws (GivesOf taken x false)) (λ x. Says ws (GivesOf taken x true)) c r → Says ws (Gives free_slot r)
unfolding free_slot
slot_least {c = c} {r = r} ec l = record {
  of = λ m R. let a : c ≡ capacity_of m = ec ∙ R.holds.at (top 1) (omega arith) in record {
    is = least (λ x. not (taken m x)) (capacity_of m) r (omega (arith, a, l.within))
        (λ x h. ap not (sym ((l.before x h).of m R).is))
        (λ h. ap not (sym ((l.hit (omega (arith, a))).of m R).is));
  };
}

-- ── The held pages ──

-- what the walk over all entries counted
pub held_all : {ws : List ℕ} {n k : ℕ} → n ≡ E ws → k ≡ tally n (holds ws) → Says ws (Gives held k)
held_all {ws} en ek = record { of = λ m R. record { is = ek ∙ ap (λ (x : ℕ). tally x (holds ws)) en ∙ sym (held_tally ws) ∙ held_is m ws R.holds } }
