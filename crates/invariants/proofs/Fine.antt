-- The operations leave a directory fine.
use Prim.Native.Nat.{ℕ, ◌≤◌, ◌<◌}
use mathlib.Core.Path.{◌≡◌, sym, ap, ◌∙◌}
use mathlib.Core.Bool.{true, false}
use native.Mathlib.Omega.{arith}
use borrow.Author.Tests.{ne_eqb}
use Rattle.meaning.specs.Neighbours.{NONE, put, has}
use Rattle.meaning.specs.Mem.{Mem, home, off, push, hang, unhang, with_slot, with_mark, blanked, to_front, fill, entry_count}
use Rattle.invariants.specs.Places.{Fine}
use Rattle.invariants.proofs.Lists.{split, eqb_same}
use Rattle.invariants.proofs.Families.{not_so, leave_has, leave_family, join_has, join_family}

pub put_same : {A : Type 0} (f : ℕ → A) (e : ℕ) (v : A) → put f e v e ≡ v
put_same f e v = simp (eqb_same e)

pub put_other : {A : Type 0} (f : ℕ → A) (e : ℕ) (v : A) (i : ℕ) → (i ≡ e → ⊥) → put f e v i ≡ f i
put_other f e v i n = simp (ne_eqb i e n)

pub off_fine : (m : Mem) → Fine m → (e : ℕ) → has (m.order (m.lists e)) e ≡ true → Fine (off e m)
unfolding off
off_fine m F e on = record {
  few = F.few;
  bits = F.bits;
  chains = F.chains;
  used = F.used;
  apart = F.apart;
  linked = leave_family (entry_count m) F.few m.order m.lists F.linked e (m.lists e) on (put m.lists e 0) (put_other m.lists e 0);
  range = λ l i h. F.range l i (leave_has (entry_count m) F.few m.order m.lists F.linked e (m.lists e) on (put m.lists e 0) (put_other m.lists e 0) l i h).0;
}

pub push_fine : (m : Mem) → Fine m → (e j : ℕ) → e < entry_count m → m.lists e ≡ 0 → (1 ≤ j) × (j ≤ 4) → Fine (push e j m)
unfolding push
push_fine m F e j he idle hj =
    let nowhere : (l : ℕ) → has (m.order l) e ≡ false = λ l. not_so _ (λ h. omega (arith, (F.linked.member l e h).1, (F.range l e h).0)) in
    record {
      few = F.few;
      bits = F.bits;
      chains = F.chains;
      used = F.used;
      apart = F.apart;
      linked = join_family (entry_count m) F.few m.order m.lists F.linked e j he nowhere (put m.lists e j) (put_same m.lists e j) (put_other m.lists e j);
      range = join_has (entry_count m) F.few m.order m.lists F.linked e j he nowhere (put m.lists e j) (put_same m.lists e j) (put_other m.lists e j)
          {P = λ l i. (1 ≤ l) × (l ≤ 4)} hj (λ l i q h. F.range l i h);
    }

pub hang_fine : (m : Mem) → Fine m → (e p : ℕ) → e < entry_count m → m.pages e ≡ NONE → (p ≡ NONE → ⊥) → ((i : ℕ) → m.pages i ≡ p → ⊥) → Fine (hang e p m)
unfolding hang
hang_fine m F e p he bare hp absent =
    let out : (b : ℕ) → has (m.chained b) e ≡ false = λ b. not_so _ (λ h. F.used b e h bare) in
    let at_e : home m (put m.pages e p e) ≡ home m p = ap (home m) (put_same m.pages e p) in
    let alike : (i : ℕ) → (i ≡ e → ⊥) → home m (put m.pages e p i) ≡ home m (m.pages i) = λ i n. ap (home m) (put_other m.pages e p i n) in
    record {
      few = F.few;
      bits = F.bits;
      linked = F.linked;
      range = F.range;
      chains = join_family (entry_count m) F.few m.chained (λ i. home m (m.pages i)) F.chains e (home m p) he out (λ i. home m (put m.pages e p i)) at_e alike;
      used = join_has (entry_count m) F.few m.chained (λ i. home m (m.pages i)) F.chains e (home m p) he out (λ i. home m (put m.pages e p i)) at_e alike
          {P = λ b i. put m.pages e p i ≡ NONE → ⊥} (λ z. hp (simp (eqb_same e) at z)) (λ b i q h z. F.used b i h (simp (ne_eqb i e q) at z));
      apart = λ i h z w. split i e
          (λ y t. split h e (λ x r. y ∙ sym x) (λ x r. absurd (absent h (sym (simp (t, r) at w)))))
          (λ y t. split h e (λ x r. absurd (absent i (simp (t, r) at w))) (λ x r. F.apart i h (simp t at z) (simp (t, r) at w)));
    }

pub unhang_fine : (m : Mem) → Fine m → (e : ℕ) → has (m.chained (home m (m.pages e))) e ≡ true → Fine (unhang e m)
unfolding unhang
unhang_fine m F e on =
    let alike : (i : ℕ) → (i ≡ e → ⊥) → home m (put m.pages e NONE i) ≡ home m (m.pages i) = λ i n. ap (home m) (put_other m.pages e NONE i n) in
    record {
      few = F.few;
      bits = F.bits;
      linked = F.linked;
      range = F.range;
      chains = leave_family (entry_count m) F.few m.chained (λ i. home m (m.pages i)) F.chains e (home m (m.pages e)) on (λ i. home m (put m.pages e NONE i)) alike;
      used = λ b i h z. let k = leave_has (entry_count m) F.few m.chained (λ i. home m (m.pages i)) F.chains e (home m (m.pages e)) on (λ i. home m (put m.pages e NONE i)) alike b i h in
          F.used b i k.0 (simp (ne_eqb i e k.1) at z);
      apart = λ i h z w. split i e
          (λ y t. absurd (z (simp t)))
          (λ y t. split h e (λ x r. absurd (z (w ∙ simp r))) (λ x r. F.apart i h (simp t at z) (simp (t, r) at w)));
    }

pub slot_fine : (m : Mem) → Fine m → (e s : ℕ) → Fine (with_slot e s m)
unfolding with_slot
slot_fine m F e s = record { few = F.few; bits = F.bits; linked = F.linked; chains = F.chains; range = F.range; used = F.used; apart = F.apart }

pub blanked_fine : (m : Mem) → Fine m → (e : ℕ) → Fine (blanked e m)
unfolding blanked with_mark with_slot
blanked_fine m F e = record { few = F.few; bits = F.bits; linked = F.linked; chains = F.chains; range = F.range; used = F.used; apart = F.apart }

-- the three operations of the policies
pub front_fine : (m : Mem) → Fine m → (e j : ℕ) → has (m.order (m.lists e)) e ≡ true → (1 ≤ j) × (j ≤ 4) → Fine (to_front e j m)
unfolding to_front
front_fine m F e j on hj =
    push_fine (off e m) (off_fine m F e on) e j (unfold off in (F.linked.member (m.lists e) e on).0) (unfold off in put_same m.lists e 0) hj

pub fill_fine : (m : Mem) → Fine m → (e p j s : ℕ) → e < entry_count m → m.lists e ≡ 0 → m.pages e ≡ NONE → p < NONE → ((i : ℕ) → m.pages i ≡ p → ⊥) → (1 ≤ j) × (j ≤ 4) → Fine (fill e p j s m)
unfolding fill
fill_fine m F e p j s he idle bare hp absent hj =
    push_fine (with_slot e s (hang e p m)) (slot_fine (hang e p m) (hang_fine m F e p he bare (λ z. omega arith) absent) e s) e j
    (unfold with_slot hang in he) (unfold with_slot hang in idle) hj
