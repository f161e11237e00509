-- The held pages before and after an operation, room for a page, and a request: for every policy, with or without orders.
use Prim.Native.Nat.{ℕ, ◌<◌}
use mathlib.Core.Path.{◌≡◌, refl, sym, ap, ◌∙◌, subst}
use mathlib.Core.Bool.{Bool, true, false}
use native.Mathlib.Omega.{arith}
use lib.Dec.{eqb}
use borrow.Author.Tests.{eq-eqb, ne_eqb}
use Rattle.std.specs.Prelude.{if◌then◌else◌}
use Rattle.meaning.specs.Neighbours.{NONE}
use Rattle.meaning.specs.Layout.{is_held}
use Rattle.meaning.specs.Mem.{Mem}
use Rattle.meaning.specs.Room.{hit, loaded, swapped, Done, Room, as_it_is, hit_at, load}
use Rattle.invariants.specs.Proper.{Indexed, Seated, Sits}
use Rattle.invariants.specs.Ram.{Steps}
use Rattle.invariants.proofs.Numbered.{held_used}
use Rattle.invariants.proofs.Lists.{split, eqb_same, no_true}
use Rattle.theorems.specs.Change.{Moved, Still, Quiet}
use Rattle.theorems.specs.Served.{Makes, Served}
use Rattle.theorems.proofs.Operations.{paged}

-- nothing changes
pub quiet_self : {m : Mem} → Quiet m m
quiet_self = record { tops = refl; marks = λ i. omega arith }

-- one quiet change after another
pub quiet_then : {a b c : Mem} → Quiet a b → Quiet b c → Quiet a c
quiet_then q r = record { tops = r.tops ∙ q.tops; marks = λ i. omega (arith, q.marks i, r.marks i) }

-- nothing moves
pub still_self : {m : Mem} → Still m m
still_self = record { to = λ S. S; from = λ S. S; pages = λ p hp i w. w }

-- the same pages still, after the same pages
pub still_then : {a b c : Mem} → Still a b → Still b c → Still a c
still_then x y = record { to = λ S. y.to (x.to S); from = λ S. x.from (y.from S); pages = λ p hp i w. x.pages p hp i (y.pages p hp i w) }

-- where lists, pages and slots are the same, so are the held pages
pub still_same : {m n : Mem} → n.lists ≡ m.lists → n.pages ≡ m.pages → n.slots ≡ m.slots → Still m n
still_same {m} {n} l p s = record {
  to = λ S. record { entry = S.entry; held = ap (λ (f : ℕ → ℕ). is_held (f S.entry)) l ∙ S.held; page = ap (λ (f : ℕ → ℕ). f S.entry) p ∙ S.page; slot = ap (λ (f : ℕ → ℕ). f S.entry) s ∙ S.slot };
  from = λ S. record { entry = S.entry; held = sym (ap (λ (f : ℕ → ℕ). is_held (f S.entry)) l) ∙ S.held; page = sym (ap (λ (f : ℕ → ℕ). f S.entry) p) ∙ S.page; slot = sym (ap (λ (f : ℕ → ℕ). f S.entry) s) ∙ S.slot };
  pages = λ q hq i w. sym (ap (λ (f : ℕ → ℕ). f i) p) ∙ w;
}

module _ {e j : ℕ} {m n : Mem} (r : Moved e j m n) where
  list_at : (i : ℕ) → (i ≡ e → ⊥) → n.lists i ≡ m.lists i
  list_at i d = r.lists i ∙ simp (ne_eqb i e d)

  list_here : n.lists e ≡ j
  list_here = r.lists e ∙ simp (eqb_same e)

  -- a page held elsewhere stays
  goes : {q s : ℕ} (S : Sits q s m) → (S.entry ≡ e → ⊥) → Sits q s n
  goes S d = record { entry = S.entry; held = ap is_held (list_at S.entry d) ∙ S.held; page = r.pages S.entry d ∙ S.page; slot = r.slots S.entry d ∙ S.slot }

  came : {q s : ℕ} (S : Sits q s n) → (S.entry ≡ e → ⊥) → Sits q s m
  came S d = record { entry = S.entry; held = sym (ap is_held (list_at S.entry d)) ∙ S.held; page = sym (r.pages S.entry d) ∙ S.page; slot = sym (r.slots S.entry d) ∙ S.slot }

  -- a page on a list that does not hold pages is not held
  not_here : {q s : ℕ} (x : Mem) (S : Sits q s x) → is_held (x.lists e) ≡ false → S.entry ≡ e → ⊥
  not_here x S g y = no_true (sym g ∙ ap (λ (i : ℕ). is_held (x.lists i)) (sym y) ∙ S.held)

  -- an entry that goes from one list of held pages to another, or from one of ghosts to another, with its page and slot
  pub still_moved : is_held j ≡ is_held (m.lists e) → n.pages e ≡ m.pages e → n.slots e ≡ m.slots e → Still m n
  still_moved alike p s = record {
    to = λ S. split S.entry e
        (λ y _. record { entry = e; held = ap is_held list_here ∙ alike ∙ ap (λ (i : ℕ). is_held (m.lists i)) (sym y) ∙ S.held; page = p ∙ ap m.pages (sym y) ∙ S.page; slot = s ∙ ap m.slots (sym y) ∙ S.slot })
        (λ y _. goes S y);
    from = λ S. split S.entry e
        (λ y _. record { entry = e; held = sym (ap is_held list_here ∙ alike) ∙ ap (λ (i : ℕ). is_held (n.lists i)) (sym y) ∙ S.held; page = sym p ∙ ap n.pages (sym y) ∙ S.page; slot = sym s ∙ ap n.slots (sym y) ∙ S.slot })
        (λ y _. came S y);
    pages = λ q hq i w. split i e (λ y _. ap m.pages y ∙ sym p ∙ ap n.pages (sym y) ∙ w) (λ y _. sym (r.pages i y) ∙ w);
  }

  -- a page that stands in n stood in m, where entry e has its page or none
  was : ((p : ℕ) → p < NONE → n.pages e ≡ p → m.pages e ≡ p) → (p : ℕ) → p < NONE → (i : ℕ) → n.pages i ≡ p → m.pages i ≡ p
  was k p hp i w = split i e (λ y _. ap m.pages y ∙ k p hp (ap n.pages (sym y) ∙ w)) (λ y _. sym (r.pages i y) ∙ w)

  -- a ghost removed
  pub still_ghost : is_held (m.lists e) ≡ false → is_held j ≡ false → n.pages e ≡ NONE → Still m n
  still_ghost g h p = record {
    to = λ S. goes S (not_here m S g);
    from = λ S. came S (not_here n S (ap is_held list_here ∙ h));
    pages = was (λ q hq w. absurd (omega (arith, p, w)));
  }

  -- a held page put out
  pub makes_out : Indexed m → is_held (m.lists e) ≡ true → is_held j ≡ false → ((p : ℕ) → p < NONE → n.pages e ≡ p → m.pages e ≡ p)
      → Makes m (record { mem = n; slot = m.slots e; out = m.pages e })
  unfolding came
  makes_out I h g k = record {
    sits = λ S. came S (gone S);
    stay = λ S d. goes S (λ y. d (sym S.page ∙ ap m.pages y));
    gone = λ _. (
      record { entry = e; held = h; page = refl; slot = refl },
      λ s S. gone S (sym (I.fine.apart e S.entry (paged m I e (held_used _ h)) (sym (came S (gone S)).page))),
    );
    pages = was k;
  }
    where
      gone : {q s : ℕ} (S : Sits q s n) → S.entry ≡ e → ⊥
      gone S = not_here n S (ap is_held list_here ∙ g)

-- nothing put out
pub makes_none : (m : Mem) → Makes m (as_it_is m)
unfolding as_it_is
makes_none m = record { sits = λ S. S; stay = λ S _. S; gone = λ z. absurd (z refl); pages = λ p hp i w. w }

-- room made after a change that holds the same pages
pub makes_after : {m n : Mem} {r : Room} → Still m n → Makes n r → Makes m r
makes_after S R = record {
  sits = λ x. S.from (R.sits x);
  stay = λ x d. R.stay (S.to x) d;
  gone = λ z. let k = R.gone z in (S.from k.0, k.1);
  pages = λ p hp i w. S.pages p hp i (R.pages p hp i w);
}

-- room made before one
pub makes_before : {m n : Mem} {r : Room} → Makes m r → Still r.mem n → Makes m (record { mem = n; slot = r.slot; out = r.out })
makes_before R S = record {
  sits = λ x. R.sits (S.from x);
  stay = λ x d. S.to (R.stay x d);
  gone = λ z. let k = R.gone z in (k.0, λ s x. k.1 s (S.from x));
  pages = λ p hp i w. R.pages p hp i (S.pages p hp i w);
}

-- Hit is not Swapped
pub hit_swapped : hit ≡ swapped → ⊥
hit_swapped z = let e : ◌≡◌ {A = ℕ} 0 1 = cc in omega arith

-- Loaded is not Swapped
pub loaded_swapped : loaded ≡ swapped → ⊥
loaded_swapped z = let e : ◌≡◌ {A = ℕ} 0 1 = cc in omega arith

-- Loaded is not Hit
pub loaded_hit : loaded ≡ hit → ⊥
loaded_hit z = let e : ◌≡◌ {A = ℕ} 0 1 = cc in omega arith

not_hit : (b : Bool) → (if b then loaded else swapped) ≡ hit → ⊥
not_hit true k = loaded_hit k
not_hit false k = hit_swapped (sym k)

out_of : (x : ℕ) → (if eqb x NONE then loaded else swapped) ≡ swapped → x ≡ NONE → ⊥
out_of x k z = loaded_swapped (subst (λ (b : Bool). (if b then loaded else swapped) ≡ swapped) (eq-eqb x NONE z) k)

none_of : (x : ℕ) → ((if eqb x NONE then loaded else swapped) ≡ swapped → ⊥) → x ≡ NONE
none_of x k = split x NONE (λ z t. z) (λ z t. absurd (k (simp t)))

module _ (ok : Mem → Type 0) (m : Mem) (p : ℕ) where
  -- a hit on an entry that holds the page
  pub served_hit : (e : ℕ) (n : Mem) → m.pages e ≡ p → is_held (m.lists e) ≡ true → Still m n → ok n → Served ok m p (hit_at m e n)
  unfolding hit_at
  served_hit e n z h S k =
      let x : Sits p (m.slots e) m = record { entry = e; held = h; page = z; slot = refl } in
      record {
        keeps = k;
        here = S.to x;
        known = λ _. x;
        new = λ d. absurd (d refl);
        others = λ q s y _. S.from y;
        stay = λ q s y _. S.to y;
        gone = λ y. absurd (hit_swapped y);
        none = λ _. refl;
      }

  -- a page that is not held, loaded where room was made
  pub served_load : (r : Room) (c e j : ℕ) (n : Mem) → Makes m r → Moved e j r.mem n → is_held (r.mem.lists e) ≡ false → is_held j ≡ true
      → n.pages e ≡ p → n.slots e ≡ r.slot → ((s : ℕ) → Sits p s m → ⊥) → ok n → Served ok m p (load r c n)
  unfolding load
  served_load r c e j n R M g h z s new k = record {
    keeps = k;
    here = record { entry = e; held = ap is_held (list_here M) ∙ h; page = z; slot = s };
    known = λ w. absurd (not_hit (eqb r.out NONE) w);
    new = λ _. new;
    others = λ q x S d. R.sits (before S d);
    stay = λ q x S d. let y = R.stay S d in goes M y (not_here M r.mem y g);
    gone = λ w. let y = R.gone (out_of r.out w) in
        (y.0, λ x S. y.1 x (before S (λ v. new r.slot (subst (λ (o : ℕ). Sits o r.slot m) v y.0))));
    none = none_of r.out;
  }
    where
      before : {q x : ℕ} → Sits q x n → (q ≡ p → ⊥) → Sits q x r.mem
      before S d = came M S (λ y. d (sym S.page ∙ ap n.pages y ∙ z))

  -- a request after a change that holds the same pages
  pub served_after : (n : Mem) (d : Done) → Still m n → Served ok n p d → Served ok m p d
  served_after n d S D = record {
    keeps = D.keeps;
    here = D.here;
    known = λ w. S.from (D.known w);
    new = λ w s x. D.new w s (S.to x);
    others = λ q s x w. S.from (D.others q s x w);
    stay = λ q s x w. D.stay q s (S.to x) w;
    gone = λ w. let y = D.gone w in (S.from y.0, y.1);
    none = D.none;
  }

-- what holds afterwards, weakened
pub served_as : {ok ok' : Mem → Type 0} {m : Mem} {p : ℕ} {d : Done} → ((n : Mem) → ok n → ok' n) → Served ok m p d → Served ok' m p d
served_as f D = record { keeps = f _ D.keeps; here = D.here; known = D.known; new = D.new; others = D.others; stay = D.stay; gone = D.gone; none = D.none }

-- a policy whose requests are served is one of `Steps`
pub steps_of : {ok : Mem → Type 0} {rest : Mem → Mem → Type 0} {step : Mem → ℕ → Done} → ((m : Mem) → ok m → Seated m)
    → ((m : Mem) → ok m → (p : ℕ) → p < NONE → Served (λ n. ok n × rest m n) m p (step m p)) → Steps ok step
steps_of seat f = record {
  seated = seat;
  keeps = λ m p o hp. (f m o p hp).keeps.0;
  here = λ m p o hp. (f m o p hp).here;
  known = λ m p o hp. (f m o p hp).known;
  others = λ m p o hp. (f m o p hp).others;
}
