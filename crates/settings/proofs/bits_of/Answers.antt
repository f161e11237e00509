use Rattle.std.proofs.Common.{◌≡◌, refl, sym, ap, ◌∙◌, ℕ, suc, ◌+◌, ◌-◌, ◌^◌, ◌≤◌, ◌<◌, arith, add-one}
use borrow.Author.Tests.{lt-leb, le-leb}
use Rattle.meaning.specs.Layout.{bits_of, bits_from}
use Rattle.settings.proofs.bits_of.Goals as goal

one_more : (m k n : ℕ) → 0 < m → bits_from m k n ≡ bits_from (suc (m - 1)) k n
one_more m k n h = let e : m ≡ suc (m - 1) = omega arith in ap (λ (x : ℕ). bits_from x k n) e

here : (m k n : ℕ) → 0 < m → n ≤ 2 ^ k → bits_from m k n ≡ k
unfolding bits_from
here m k n h l = one_more m k n h ∙ simp (le-leb n (2 ^ k) l)

past : (m k n : ℕ) → 0 < m → 2 ^ k < n → bits_from m k n ≡ bits_from (m - 1) (k + 1) n
unfolding bits_from
past m k n h l = one_more m k n h ∙ simp (lt-leb n (2 ^ k) l, add-one)

pub loop-k-init : goal.loop-k-init
unfolding bits_of
loop-k-init c = refl

pub returns-then-n-buckets_of : goal.returns-then-n-buckets_of
returns-then-n-buckets_of c = let at = c.loop-k in
    (sym (at.invariant ∙ here (10 - at.k) at.k c.args.n (omega arith) (omega arith)), omega arith)

pub loop-k-preserved : goal.loop-k-preserved
loop-k-preserved c = let at = c.loop-k in
    let less : 10 - at.k - 1 ≡ 10 - (at.k + 1) = omega arith in
    at.invariant ∙ past (10 - at.k) at.k c.args.n (omega arith) (omega arith) ∙ ap (λ (x : ℕ). bits_from x (at.k + 1) c.args.n) less

pub returns : goal.returns
unfolding bits_from
returns c = let at = c.loop-k in
    let end : at.k ≡ 10 = omega arith in
    (sym (at.invariant ∙ ap (λ (x : ℕ). bits_from (10 - x) x c.args.n) end), omega arith)
