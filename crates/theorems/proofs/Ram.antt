-- Never the wrong slot: for every policy whose step is one of `Steps`, and so over any history from a fresh directory.
use Prim.Native.Nat.{ℕ, ◌+◌, ◌<◌}
use mathlib.Core.Path.{◌≡◌, refl, sym, ap, ◌∙◌, subst}
use mathlib.Core.Bool.{true}
use mathlib.Core.List.{List}
use native.Mathlib.Omega.{arith}
use lib.Dec.{leb}
use borrow.Author.Tests.{ne_eqb, leb-true, ltb-true}
use Rattle.meaning.specs.Base.{all}
use Rattle.meaning.specs.Neighbours.{NONE, put}
use Rattle.meaning.specs.Layout.{Settings, settings_refusal}
use Rattle.meaning.specs.Mem.{Mem, words, empty, settings_top, fresh, held, capacity_of}
use Rattle.meaning.specs.Room.{Kind, hit, loaded, swapped, Done, Reply}
use Rattle.meaning.specs.Policies.{request}
use Rattle.meaning.specs.Rules.{sizes_right}
use Rattle.meaning.specs.Calls.{plain, gave, Outcome, refuse, answered, on_page, requested, Event, ask, happens, run}
use Rattle.invariants.proofs.Histories.{run_keeps}
use Rattle.invariants.specs.Proper.{Seated, Sits}
use Rattle.invariants.specs.Whole.{Whole, members}
use Rattle.invariants.specs.Ram.{loads_as, loads, Right, Steps}
use Rattle.invariants.proofs.Numbered.{held_used}
use Rattle.invariants.proofs.Lists.{split}
use Rattle.invariants.proofs.Tests.{and_left}
use Rattle.invariants.proofs.Back.{fresh_whole, whole_sound}
use Rattle.invariants.proofs.Trip.{decode_indexed}
use Rattle.theorems.specs.Change.{Header}
use Rattle.theorems.specs.Safe.{fits, ram_by, loading, RightSaid, Stands, Safe}
use Rattle.theorems.proofs.Counts.{held_members}
use Rattle.theorems.proofs.Operations.{slots_apart, pages_apart}
use Rattle.theorems.proofs.Serving.{steps_of}
use Rattle.theorems.proofs.Whole.{request_served}
use Rattle.theorems.proofs.Held.{look_agrees}

module _ (ok : Mem → Type 0) (step : Mem → ℕ → Done) (T : Steps ok step) where
  module _ (m : Mem) (p : ℕ) (o : ok m) (hp : p < NONE) (ram : ℕ → ℕ) (right : Right ram m) where
    P' : Seated (step m p).mem
    P' = T.seated (step m p).mem (T.keeps m p o hp)

    pub hit_right : (step m p).reply.kind ≡ hit → ram (step m p).reply.slot ≡ p
    hit_right h = right p (step m p).reply.slot (T.known m p o hp h)

    -- a page loaded into the slot that is named, and the others where they were
    loaded_right : (q s : ℕ) → Sits q s (step m p).mem → put ram (step m p).reply.slot p s ≡ q
    loaded_right q s S = split s (step m p).reply.slot
        (λ z t. simp t (slots_apart (step m p).mem P' (T.here m p o hp) (subst (λ (x : ℕ). Sits q x (step m p).mem) z S)))
        (λ z t. simp t (right q s (T.others m p o hp q s S (λ y. z (pages_apart (step m p).mem P' (subst (λ (x : ℕ). Sits x s (step m p).mem) y S) (T.here m p o hp))))))

    pub right_after : Right (loads (step m p).reply p ram) (step m p).mem
    unfolding loads loads_as
    right_after q s S = go (step m p).reply.kind refl
      where
        go : (k : Kind) → (step m p).reply.kind ≡ k → loads_as k ram (step m p).reply.slot p s ≡ q
        go hit e = split q p
            (λ z t. ap ram (pages_apart (step m p).mem P' (subst (λ (x : ℕ). Sits x s (step m p).mem) z S) (T.here m p o hp)) ∙ hit_right e ∙ sym z)
            (λ z t. right q s (T.others m p o hp q s S z))
        go loaded e = loaded_right q s S
        go swapped e = loaded_right q s S

-- the public request is such a step, on any whole directory
pub request_steps : Steps Whole request
request_steps = steps_of {rest = λ m n. Header m n} (λ m W. W.stocked.seated) (λ m W p hp. request_served m W p hp)

-- ── A whole directory ──

-- every slot in use is one of the C
slot_below : (m : Mem) → Whole m → (q s : ℕ) → Sits q s m → s < capacity_of m
unfolding sizes_right
slot_below m W q s S =
    let below = ltb-true _ (held m) (W.stocked.seated.slotted.back S.entry S.held).0 in
    let few = leb-true (members m 1 + members m 2) (capacity_of m) (and_left (leb (members m 1 + members m 2) (capacity_of m)) _ W.sizes) in
    omega (arith, below, few, held_members m, S.slot)

-- the directory is safe
pub whole_safe : (m : Mem) → Whole m → Safe m
whole_safe m W = record { within = slot_below m W; apart = λ q r x a b. slots_apart m W.stocked.seated a b; look = look_agrees m W }

-- the public request on its words is the request on it
pub served_words : (m : Mem) (p : ℕ) → Whole m → p < NONE → requested (words m) p ≡ record { said = gave (request m p).reply; left = words (request m p).mem }
unfolding requested on_page answered
served_words m p W h = simp (whole_sound m W, ne_eqb p NONE (λ z. omega (arith, z)), decode_indexed m W.stocked.seated.indexed)

-- a request for NONE is refused with 6, and changes nothing
none_refused : (m : Mem) → Whole m → requested (words m) NONE ≡ refuse (plain 6) (words m)
unfolding requested on_page
none_refused m W = simp (whole_sound m W)

-- ── One event ──

module _ (s : Settings) (ram : ℕ → ℕ) (ws : List ℕ) (x : Stands s ram ws) where
  -- what an event comes to, of the directory
  event_is : (p : ℕ) → (p < NONE → happens ws (ask p) ≡ record { said = gave (request x.mem p).reply; left = words (request x.mem p).mem })
      × (p ≡ NONE → happens ws (ask p) ≡ refuse (plain 6) ws)
  unfolding happens
  event_is p = (
    λ h. ap (λ (v : List ℕ). requested v p) x.is ∙ served_words x.mem p x.whole h,
    λ z. rw (z, x.is) (none_refused x.mem x.whole),
  )

  -- the directory stands after it
  pub event_stands : (e : Event) → fits e ≡ true → Stands s (loading ram e (happens ws e)) (happens ws e).left
  unfolding loading ram_by fits refuse
  event_stands (ask p) f = split p NONE
      (λ z t. subst (λ (o : Outcome Reply (List ℕ)). Stands s (ram_by ram (ask p) o.said) o.left) (sym ((event_is p).1 z)) x)
      (λ z t.
      let h : p < NONE = omega (arith, z, leb-true p NONE f) in
      let m = x.mem in
      let d = request m p in
      let k = (request_served m x.whole p h).keeps in
      subst (λ (o : Outcome Reply (List ℕ)). Stands s (ram_by ram (ask p) o.said) o.left) (sym ((event_is p).0 h)) (record {
        mem = d.mem;
        whole = k.0;
        header = λ i n. k.1 i n ∙ x.header i n;
        is = refl;
        right = right_after Whole request request_steps m p x.whole h ram x.right;
      }))

  -- its capacity is that of the settings
  capacity_is : capacity_of x.mem ≡ s.C
  unfolding fresh empty settings_top
  capacity_is = x.header 1 (omega arith)

  -- what it says is right
  pub event_right : (e : Event) → fits e ≡ true → RightSaid s.C ram e (happens ws e).said
  unfolding RightSaid fits refuse
  event_right (ask p) f = split p NONE
      (λ z t. subst (λ (o : Outcome Reply (List ℕ)). RightSaid s.C ram (ask p) o.said) (sym ((event_is p).1 z)) (z, refl))
      (λ z t.
      let h : p < NONE = omega (arith, z, leb-true p NONE f) in
      let m = x.mem in
      let D = request_served m x.whole p h in
      subst (λ (o : Outcome Reply (List ℕ)). RightSaid s.C ram (ask p) o.said) (sym ((event_is p).0 h)) (
        omega (arith, slot_below (request m p).mem D.keeps.0 p (request m p).reply.slot D.here, D.keeps.1 1 (omega arith), capacity_is),
        hit_right Whole request request_steps m p x.whole h ram x.right,
      ))

-- ── Any history ──

-- nothing is held in a fresh directory
fresh_holds : (s : Settings) (q x : ℕ) → Sits q x (fresh s) → ⊥
unfolding fresh empty
fresh_holds s q x S = held_used 0 S.held refl

-- a fresh directory stands, whatever RAM holds
pub fresh_stands : (s : Settings) → settings_refusal s.policy s.C s.first s.second ≡ 0 → (ram : ℕ → ℕ) → Stands s ram (words (fresh s))
fresh_stands s h ram = record { mem = fresh s; whole = fresh_whole s h; header = λ t n. refl; is = refl; right = λ q x S. absurd (fresh_holds s q x S) }

-- and stands at the end of any history
pub always_stands : (s : Settings) (ram : ℕ → ℕ) (ws : List ℕ) → Stands s ram ws → (es : List Event) → all fits es ≡ true
    → Stands s (run happens loading ram ws es).gathered (run happens loading ram ws es).left
always_stands s ram ws x es f = run_keeps happens loading fits (Stands s) (λ r w e g y. event_stands s r w y e g) es f ram ws x
