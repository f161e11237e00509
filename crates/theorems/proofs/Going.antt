-- The steps of a request on a directory with lists, over any list number: to the front, removed, put out, entered, come back.
use Prim.Native.Nat.{ℕ, ◌+◌, ◌≤◌, ◌<◌}
use mathlib.Core.Path.{◌≡◌, refl, sym, ap, ◌∙◌}
use mathlib.Core.Bool.{true, false}
use mathlib.Core.List.{◌∷◌}
use native.Mathlib.Omega.{arith}
use borrow.Author.Tests.{ne_eqb}
use Rattle.meaning.specs.Neighbours.{NONE, put}
use Rattle.meaning.specs.Layout.{is_held}
use Rattle.meaning.specs.Mem.{Mem, held, size, off, push, hang, with_slot, fill, to_front, move_to, clear, enter, lowest, capacity_of, entry_count}
use Rattle.meaning.specs.Room.{Room, as_it_is, put_out, put_out_to, enters, returns}
use Rattle.invariants.specs.Proper.{Indexed, Ordered, Proper, Sits}
use Rattle.invariants.proofs.Numbered.{held_used}
use Rattle.invariants.proofs.Lists.{eqb_same, no_true}
use Rattle.theorems.specs.Change.{Moved, Quiet, placed}
use Rattle.theorems.specs.Served.{Served}
use Rattle.theorems.specs.Sizes.{Resized}
use Rattle.theorems.specs.Goes.{Goes, Out, Made}
use Rattle.theorems.proofs.Operations.{free_held, paged, front_moved, clear_moved, clear_bare, clear_quiet, clear_ordered, placed_moved, lowest_free}
use Rattle.theorems.proofs.Rooms.{front_proper, gap_as_is, vacant_out, removed, ghost_gone, enter_proper}
use Rattle.theorems.proofs.Moves.{move_moved, move_page, move_slot, move_quiet, vacant_to, return_proper}
use Rattle.theorems.proofs.Counts.{resized_after, spare}
use Rattle.theorems.proofs.Serving.{quiet_self, quiet_then, still_self, still_moved, still_ghost, makes_out, makes_none, served_load}

-- list 1 holds pages
pub held1 : is_held 1 ≡ true
unfolding is_held
held1 = refl

-- list 2 holds pages
pub held2 : is_held 2 ≡ true
unfolding is_held
held2 = refl

-- list 3 does not
pub not3 : is_held 3 ≡ false
unfolding is_held
not3 = refl

-- list 4 does not
pub not4 : is_held 4 ≡ false
unfolding is_held
not4 = refl

module _ (m : Mem) (P : Proper m) where
  I : Indexed m
  I = P.seated.indexed

  O : Ordered m
  O = P.ordered

  used : (e k : ℕ) → m.lists e ≡ k → is_held k ≡ true → m.lists e ≡ 0 → ⊥
  used e k z h y = held_used k h (sym z ∙ y)

  -- nothing happens
  pub self_goes : Goes 0 0 m m
  self_goes = record { proper = P; sizes = record { s1 = refl; s2 = refl; s3 = refl; s4 = refl }; quiet = quiet_self; still = still_self }

  -- a held page goes to the front of a list of held pages
  pub front_goes : (e k j : ℕ) → m.lists e ≡ k → is_held k ≡ true → (1 ≤ j) × (j ≤ 4) → is_held j ≡ true → Goes k j m (to_front e j m)
  front_goes e k j z h hj g =
      let u = used e k z h in
      let alike : is_held j ≡ is_held (m.lists e) = g ∙ sym (ap is_held z ∙ h) in
      let N = front_proper m P e j u hj alike in
      let M = front_moved m I O e j u hj in
      record {
        proper = N;
        sizes = resized_after I O N.seated.indexed N.ordered M k z;
        quiet = unfold to_front push off in record { tops = refl; marks = λ i. omega arith };
        still = still_moved M alike (unfold to_front push off in refl) (unfold to_front push off in refl);
      }

  clear_resized : (e k : ℕ) (u : m.lists e ≡ 0 → ⊥) → m.lists e ≡ k → Resized k 0 m (clear e m)
  clear_resized e k u z = resized_after I O (removed m I O e u) (clear_ordered m I e u O) (clear_moved m I e u) k z

  -- a ghost is removed
  pub ghost_goes : (e k : ℕ) → m.lists e ≡ k → (k ≡ 0 → ⊥) → is_held k ≡ false → Goes k 0 m (clear e m)
  ghost_goes e k z nz g =
      let u : m.lists e ≡ 0 → ⊥ = λ y. nz (sym z ∙ y) in
      record {
        proper = ghost_gone m P e u (ap is_held z ∙ g);
        sizes = clear_resized e k u z;
        quiet = clear_quiet m I e u;
        still = still_ghost (clear_moved m I e u) (ap is_held z ∙ g) free_held (clear_bare m I e u);
      }

  -- nothing is put out
  pub out_none : held m ≤ capacity_of m → Out 0 0 m (as_it_is m)
  unfolding as_it_is
  out_none h = record {
    vacant = record { gap = gap_as_is m P.seated h; ordered = O };
    sizes = self_goes.sizes;
    quiet = quiet_self;
    makes = makes_none m;
    stays = λ i n. (refl, refl);
  }

  apart_from : (e k : ℕ) → m.lists e ≡ k → is_held k ≡ true → (i : ℕ) → is_held (m.lists i) ≡ false → i ≡ e → ⊥
  apart_from e k z h i g y = no_true (sym g ∙ ap (λ (x : ℕ). is_held (m.lists x)) y ∙ ap is_held z ∙ h)

  -- a held page is put out to the ghosts j
  pub out_to_lem : (e k j : ℕ) → m.lists e ≡ k → is_held k ≡ true → (1 ≤ j) × (j ≤ 4) → is_held j ≡ false → Out k j m (put_out_to m e j)
  unfolding put_out_to
  out_to_lem e k j z h hj g =
      let u = used e k z h in let W = vacant_to m P e j (ap is_held z ∙ h) hj g in
      let M = move_moved m I e j NONE u in let p = move_page m I e j NONE u in
      record {
        vacant = W;
        sizes = resized_after I O W.gap.indexed W.ordered M k z;
        quiet = move_quiet m I e j NONE u;
        makes = makes_out M I (ap is_held z ∙ h) g (λ q hq w. sym p ∙ w);
        stays = λ i n. let d = apart_from e k z h i n in (M.lists i ∙ simp (ne_eqb i e d), M.pages i d);
      }

  -- a held page is put out and removed
  pub out_off : (e k : ℕ) → m.lists e ≡ k → is_held k ≡ true → Out k 0 m (put_out m e)
  unfolding put_out
  out_off e k z h =
      let u = used e k z h in let M = clear_moved m I e u in let b = clear_bare m I e u in
      record {
        vacant = vacant_out m P e (ap is_held z ∙ h);
        sizes = clear_resized e k u z;
        quiet = clear_quiet m I e u;
        makes = makes_out M I (ap is_held z ∙ h) free_held (λ q hq w. absurd (omega (arith, b, w)));
        stays = λ i n. let d = apart_from e k z h i n in (M.lists i ∙ simp (ne_eqb i e d), M.pages i d);
      }

-- an absent page is not held
pub not_held : {m : Mem} {p : ℕ} → ((i : ℕ) → m.pages i ≡ p → ⊥) → (s : ℕ) → Sits p s m → ⊥
not_held a s S = a S.entry S.page

-- nor is a ghost
ghost_not_held : {m : Mem} {p : ℕ} → Indexed m → (e : ℕ) → m.pages e ≡ p → (m.lists e ≡ 0 → ⊥) → is_held (m.lists e) ≡ false → (s : ℕ) → Sits p s m → ⊥
ghost_not_held {m} I e z u g s S =
    no_true (sym g ∙ ap (λ (i : ℕ). is_held (m.lists i)) (I.fine.apart e S.entry (paged m I e u) (z ∙ sym S.page)) ∙ S.held)

-- ── A page comes in, and ok is shown of any directory with those sizes ──

-- room made in one step
pub made_of : {sizes : Mem → Type 0} {k j : ℕ} {m : Mem} {r : Room} → Out k j m r → (Resized k j m r.mem → sizes r.mem) → Made sizes m r
made_of X f = record { vacant = X.vacant; quiet = X.quiet; makes = X.makes; fits = f X.sizes }

-- a new page enters at the front of list j
pub entering : (ok : Mem → Type 0) (m : Mem) (p : ℕ) (r : Room) {sizes : Mem → Type 0} → Made sizes m r → (j : ℕ) → (1 ≤ j) × (j ≤ 4) → is_held j ≡ true
    → p < NONE → ((i : ℕ) → m.pages i ≡ p → ⊥) → size r.mem 1 + size r.mem 2 + size r.mem 3 + size r.mem 4 < entry_count r.mem
    → ((x : Mem) → Proper x → Resized 0 j r.mem x → Quiet m x → ok x) → Served ok m p (enters r p j)
unfolding enters
entering ok m p r D j hj hh hp absent free good =
    let n = r.mem in let W = D.vacant in let R = D.makes in
    let f = spare n W.gap.indexed W.ordered free in
    let k = lowest_free n f.0 f.1 f.2 in
    let x = enter p j r.slot n in
    let X = enter_proper n r.slot p j f.0 W f.1 f.2 hp (λ i w. absent i (R.pages p hp i w)) hj hh in
    let M : Moved (lowest n) j n x = unfold enter fill push with_slot hang placed in placed_moved n W.gap.indexed (lowest n) p j r.slot (put n.order j (lowest n ∷ n.order j)) k.0 k.1 hp hj.0 hh in
    served_load ok m p r 0 (lowest n) j x R M (ap is_held k.1 ∙ free_held) hh (unfold enter fill push with_slot hang in simp (eqb_same (lowest n))) (unfold enter fill push with_slot hang in simp (eqb_same (lowest n))) (not_held absent)
    (good x X (resized_after W.gap.indexed W.ordered X.seated.indexed X.ordered M 0 k.1) (quiet_then D.quiet (unfold enter fill push with_slot hang in record { tops = refl; marks = λ i. omega arith })))

-- a ghost comes back, from list k to the front of list j
pub returning : (ok : Mem → Type 0) (m : Mem) (p : ℕ) (r : Room) {k₀ j₀ : ℕ} → Indexed m → Out k₀ j₀ m r → (e k j : ℕ) → m.pages e ≡ p → m.lists e ≡ k → (k ≡ 0 → ⊥) → is_held k ≡ false
    → (1 ≤ j) × (j ≤ 4) → is_held j ≡ true → ((x : Mem) → Proper x → Resized k j r.mem x → Quiet m x → ok x) → Served ok m p (returns r e j)
unfolding returns
returning ok m p r I X e k j z l nz g hj hh good =
    let n = r.mem in let J = X.vacant.gap.indexed in
    let stays = X.stays e (ap is_held l ∙ g) in
    let on = stays.0 ∙ l in
    let u : n.lists e ≡ 0 → ⊥ = λ y. nz (sym on ∙ y) in
    let N = return_proper n r.slot X.vacant e j u (ap is_held on ∙ g) hj hh in
    let M = move_moved n J e j r.slot u in
    served_load ok m p r 0 e j (move_to e j r.slot n) X.makes M (ap is_held on ∙ g) hh (move_page n J e j r.slot u ∙ stays.1 ∙ z) (move_slot n J e j r.slot u)
    (ghost_not_held I e z (λ y. nz (sym l ∙ y)) (ap is_held l ∙ g))
    (good (move_to e j r.slot n) N (resized_after J X.vacant.ordered N.seated.indexed N.ordered M k on) (quiet_then X.quiet (move_quiet n J e j r.slot u)))
