-- The held pages change as the answer says, and a look tells them: for every policy.
use Prim.Native.Nat.{ℕ, ◌<◌}
use mathlib.Core.Path.{◌≡◌, refl, sym, ap, ◌∙◌, subst}
use mathlib.Core.Bool.{Bool, true, false}
use mathlib.Core.Logic.{inl, inr, ⊎_elim, ◌↔◌}
use native.Mathlib.Omega.{arith}
use lib.Dec.{eqb}
use borrow.Author.Tests.{eq-eqb}
use Rattle.std.specs.Prelude.{if◌then◌else◌}
use Rattle.meaning.specs.Neighbours.{NONE}
use Rattle.meaning.specs.Layout.{is_held}
use Rattle.meaning.specs.Mem.{Mem, entry_of, list_on}
use Rattle.meaning.specs.Room.{Kind, hit, loaded, swapped, Done}
use Rattle.meaning.specs.Calls.{absent, remembered, held_in, sight}
use Rattle.meaning.specs.Policies.{request}
use Rattle.invariants.specs.Proper.{Indexed, Seated, Sits}
use Rattle.invariants.specs.Whole.{Whole}
use Rattle.invariants.proofs.Lists.{split}
use Rattle.invariants.proofs.Numbers.{by_test}
use Rattle.theorems.specs.Held.{Held, Changes}
use Rattle.theorems.specs.Served.{Served}
use Rattle.theorems.proofs.Operations.{free_held, real}
use Rattle.theorems.proofs.Rooms.{entry_is, list_is, entry_cases}
use Rattle.theorems.proofs.Serving.{hit_swapped, loaded_swapped, loaded_hit}
use Rattle.theorems.proofs.Whole.{request_served}

module _ {ok : Mem → Type 0} (m : Mem) (p : ℕ) (d : Done) (P : Seated m) (D : Served ok m p d) where
  -- where nothing is put out, all stay
  all_stay : d.reply.out ≡ NONE → (q : ℕ) → Held m q → Held d.mem q
  all_stay z q h = (h.0, D.stay q h.0 h.1 (λ y. real m P h.1 (y ∙ z)))

  here : (q : ℕ) → q ≡ p → Held d.mem q
  here q z = (d.reply.slot, subst (λ (x : ℕ). Sits x d.reply.slot d.mem) (sym z) D.here)

  -- a request that is served changes the held pages as its answer says
  served_changes : Changes d.reply.kind m p d.reply.out d.mem
  unfolding Changes
  served_changes = go d.reply.kind refl
    where
      go : (k : Kind) → d.reply.kind ≡ k → Changes k m p d.reply.out d.mem
      go hit e =
          let none = D.none (λ y. hit_swapped (sym e ∙ y)) in
          record {
            was = (d.reply.slot, D.known e);
            is = λ q. (
              (λ h. split q p
                  (λ z _. (d.reply.slot, subst (λ (x : ℕ). Sits x d.reply.slot m) (sym z) (D.known e)))
                  (λ z _. (h.0, D.others q h.0 h.1 z))),
              all_stay none q,
            );
          }
      go loaded e =
          let none = D.none (λ y. loaded_swapped (sym e ∙ y)) in
          record {
            new = λ h. D.new (λ y. loaded_hit (sym e ∙ y)) h.0 h.1;
            is = λ q. ((λ h. split q p (λ z _. inl z) (λ z _. inr (h.0, D.others q h.0 h.1 z))), ⊎_elim (here q) (all_stay none q));
          }
      go swapped e =
          let G = D.gone e in
          let new : Held m p → ⊥ = λ h. D.new (λ y. hit_swapped (sym y ∙ e)) h.0 h.1 in
          record {
            new = new;
            was = (d.reply.slot, G.0);
            gone = λ h. G.1 h.0 h.1;
            apart = λ z. new (d.reply.slot, subst (λ (x : ℕ). Sits x d.reply.slot m) z G.0);
            is = λ q. (
              (λ h. split q p (λ z _. inl z) (λ z _. inr (
                (h.0, D.others q h.0 h.1 z),
                λ y. G.1 h.0 (subst (λ (x : ℕ). Sits x h.0 d.mem) y h.1),
              ))),
              ⊎_elim (here q) (λ k. (k.0.0, D.stay q k.0.0 k.0.1 k.1)),
            );
          }

-- the held pages change as the answer says, whatever the policy
pub held_pages : (m : Mem) → Whole m → (p : ℕ) → p < NONE → Changes (request m p).reply.kind m p (request m p).reply.out (request m p).mem
held_pages m W p hp = served_changes m p (request m p) W.stocked.seated (request_served m W p hp)

-- a look says held in slot s exactly if the page is held there
pub look_agrees : (m : Mem) → Whole m → (p s : ℕ) → p < NONE → (sight m p ≡ held_in s) ↔ Sits p s m
unfolding sight
look_agrees m W p s hp = (entry_cases m I p hp found lost, seen)
  where
    I : Indexed m
    I = W.stocked.seated.indexed

    found : (e : ℕ) → m.pages e ≡ p → entry_of m p ≡ e → list_on m p ≡ m.lists e → sight m p ≡ held_in s → Sits p s m
    found e z w on h = by_test (is_held (list_on m p))
        (λ t. record { entry = e; held = ap is_held (sym on) ∙ t; page = z; slot = sym (ap m.slots w) ∙ slot_of (sym (simp t) ∙ h) })
        (λ t. absurd (not_held (eqb (list_on m p) 0) (sym (simp t) ∙ h)))
      where
        slot_of : held_in (m.slots (entry_of m p)) ≡ held_in s → m.slots (entry_of m p) ≡ s
        slot_of k = cc

        not_held : (b : Bool) → (if b then absent else remembered) ≡ held_in s → ⊥
        not_held true k = let e : ◌≡◌ {A = ℕ} 0 1 = cc in omega arith
        not_held false k = let e : ◌≡◌ {A = ℕ} 0 1 = cc in omega arith

    lost : ((i : ℕ) → m.pages i ≡ p → ⊥) → list_on m p ≡ 0 → sight m p ≡ held_in s → Sits p s m
    lost a on h = absurd (not_seen (sym (simp (ap is_held on ∙ free_held, eq-eqb (list_on m p) 0 on)) ∙ h))
      where
        not_seen : absent ≡ held_in s → ⊥
        not_seen k = let e : ◌≡◌ {A = ℕ} 0 1 = cc in omega arith

    seen : Sits p s m → sight m p ≡ held_in s
    seen S = simp (ap is_held (list_is m I p hp S.entry S.page) ∙ S.held) (ap held_in (ap m.slots (entry_is m I p hp S.entry S.page) ∙ S.slot))
