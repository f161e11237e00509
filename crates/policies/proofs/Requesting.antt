-- A request on words, from the steps of the policies.
use Prim.Native.Nat.{ℕ, ◌<◌}
use mathlib.Core.Path.{◌≡◌, sym, ap, ◌∙◌, subst}
use mathlib.Core.Bool.{true, false, ◌&&◌}
use mathlib.Core.List.{List}
use native.Mathlib.Omega.{arith}
use lib.Dec.{eqb, leb}
use lib.ListN.{length}
use borrow.Author.Tests.{eq-eqb, ne_eqb, le-leb}
use Rattle.invariants.proofs.Tests.{both}
use Rattle.meaning.specs.declared.Answer.{Answer}
use Rattle.std.specs.Prelude.{Result, Ok, Err}
use Rattle.meaning.specs.declared.Refusal.{Refusal as Refusing}
use Rattle.meaning.specs.Neighbours.{NONE}
use Rattle.meaning.specs.Mem.{Mem, decode, capacity_of, first_of, policy_in, policy_of, second_of}
use Rattle.meaning.specs.Room.{Reply, Done}
use Rattle.meaning.specs.Lru.{lru}
use Rattle.meaning.specs.Clock.{clock}
use Rattle.meaning.specs.Segmented.{segmented}
use Rattle.meaning.specs.TwoQ.{two_q}
use Rattle.meaning.specs.Arc.{arc}
use Rattle.meaning.specs.Policies.{request}
use Rattle.meaning.specs.Rules.{sound}
use Rattle.meaning.specs.Calls.{refused, gave, Outcome, refuse, answered, on_page, requested, slot_of, slot_for}
use Rattle.meaning.specs.Answers.{refusal_says, request_says, slot_says}
use Rattle.invariants.specs.Places.{top, Ready}
use Rattle.invariants.specs.Assumed.{Lru, Clock, Segmented, TwoQ, Arc}
use Rattle.invariants.proofs.Trip.{repr_words}
use Rattle.theorems.proofs.Whole.{lru_whole, clock_whole, segmented_whole, two_q_whole, arc_whole, request_whole}
use Rattle.invariants.proofs.Accepted.{accepted}
use Rattle.sound.proofs.Door.{door}
use Rattle.sound.proofs.Entry.{page_refused, page_allowed}
use Rattle.invariants.proofs.Back.{whole_sound}
use Rattle.rooms.specs.Rooms.{Ends, Serves, asking}
use Rattle.policies.specs.Requests.{Stepped, Requested, SlotGiven}

-- ── The step ──

-- sound words have a first one
pub sound_long : (ws : List ℕ) → sound ws ≡ true → 0 < length ws
sound_long ws s = omega (arith, (door ws s).0.holds.size)

-- a step of the directory's policy is the request's
stepped : {ws ws' : List ℕ} {p : ℕ} {ok : Mem → Type 0} {step : Mem → Done} {r : Answer} → sound ws ≡ true → p < NONE
    → Serves ws ws' ok step r → ok (decode ws) → step (decode ws) ≡ request (decode ws) p → Stepped ws p r ws'
unfolding answered
stepped {ws} {ws'} {p} {r = r} s hp S o e =
    let D = door ws s in
    let k = subst (Ends ws' r) e (S.to (decode ws) D.0 o) in
    let w = repr_words ws' (request (decode ws) p).mem k.repr in
    record {
      said = ap gave k.says;
      left = sym w;
      given = k.says;
      keeps = subst (λ (v : List ℕ). sound v ≡ true) w (whole_sound (request (decode ws) p).mem (request_whole (decode ws) p D.1 hp));
    }

module _ (ws : List ℕ) {x : ℕ} (s : sound ws ≡ true) (ex : x ≡ policy_in ws) where
  policy : x ≡ policy_of (decode ws)
  policy = ex ∙ (door ws s).0.holds.at (top 0) (omega arith)

  ready : {ok : Mem → Type 0} → ok (decode ws) → Ready ws ok
  ready o = record { mem = decode ws; repr = (door ws s).0; meets = o }

  is_lru : x ≡ 1 → Lru (decode ws)
  is_lru z = lru_whole (decode ws) (door ws s).1 (sym policy ∙ z)

  is_clock_lem : x ≡ 2 → Clock (decode ws)
  is_clock_lem z = clock_whole (decode ws) (door ws s).1 (sym policy ∙ z)

  is_segmented : x ≡ 3 → Segmented (decode ws)
  is_segmented z = segmented_whole (decode ws) (door ws s).1 (sym policy ∙ z)

  is_two_q : x ≡ 4 → TwoQ (decode ws)
  is_two_q z = two_q_whole (decode ws) (door ws s).1 (sym policy ∙ z)

  -- word 0 names a policy
  pub names_policy : (leb 1 x && leb x 5) ≡ true
  names_policy =
      let m = decode ws in
      let k = (accepted (policy_of m) (capacity_of m) (first_of m) (second_of m) (door ws s).1.headed.settings).policy in
      both (le-leb 1 x (omega (arith, k, policy))) (le-leb x 5 (omega (arith, k, policy)))

  is_arc : x ≡ 5 → Arc (decode ws)
  is_arc z = arc_whole (decode ws) (door ws s).1 (sym policy ∙ z)

  -- policy 1 is an LRU directory
  pub ready_lru : x ≡ 1 → Ready ws Lru
  ready_lru z = ready (is_lru z)

  -- policy 2 is a CLOCK directory
  pub ready_clock : x ≡ 2 → Ready ws Clock
  ready_clock z = ready (is_clock_lem z)

  -- policy 3 is a segmented directory
  pub ready_segmented : x ≡ 3 → Ready ws Segmented
  ready_segmented z = ready (is_segmented z)

  -- policy 4 is a 2Q directory
  pub ready_two_q : x ≡ 4 → Ready ws TwoQ
  ready_two_q z = ready (is_two_q z)

  -- policy 5 is an ARC directory
  pub ready_arc : x ≡ 5 → Ready ws Arc
  ready_arc z = ready (is_arc z)

  -- which policy word 0 names, and which it does not
  test : (n : ℕ) → x ≡ n → eqb (policy_of (decode ws)) n ≡ true
  test n z = eq-eqb (policy_of (decode ws)) n (sym policy ∙ z)

  other : (n k : ℕ) → x ≡ n → (n ≡ k → ⊥) → eqb (policy_of (decode ws)) k ≡ false
  other n k z d = ne_eqb (policy_of (decode ws)) k (λ y. d (sym z ∙ policy ∙ y))

  module _ {p : ℕ} (hp : p < NONE) {ws' : List ℕ} {r : Answer} where
    -- LRU's step is the request's
    pub step_lru : x ≡ 1 → Serves ws ws' Lru (asking lru p) r → Stepped ws p r ws'
    unfolding asking request
    step_lru z S = stepped s hp S (is_lru z) (simp (test 1 z))

    -- so is CLOCK's
    pub step_clock : x ≡ 2 → Serves ws ws' Clock (asking clock p) r → Stepped ws p r ws'
    unfolding asking request
    step_clock z S = stepped s hp S (is_clock_lem z) (simp (test 2 z, other 2 1 z (omega arith)))

    -- so is segmented LRU's
    pub step_segmented : x ≡ 3 → Serves ws ws' Segmented (asking segmented p) r → Stepped ws p r ws'
    unfolding asking request
    step_segmented z S = stepped s hp S (is_segmented z) (simp (test 3 z, other 3 1 z (omega arith), other 3 2 z (omega arith)))

    -- so is 2Q's
    pub step_two_q : x ≡ 4 → Serves ws ws' TwoQ (asking two_q p) r → Stepped ws p r ws'
    unfolding asking request
    step_two_q z S = stepped s hp S (is_two_q z) (simp (test 4 z, other 4 1 z (omega arith), other 4 2 z (omega arith), other 4 3 z (omega arith)))

    -- so is ARC's
    pub step_arc : x ≡ 5 → Serves ws ws' Arc (asking arc p) r → Stepped ws p r ws'
    unfolding asking request
    step_arc z S = stepped s hp S (is_arc z) (simp (other 5 1 z (omega arith), other 5 2 z (omega arith), other 5 3 z (omega arith), other 5 4 z (omega arith)))

-- ── The call ──

module _ (ws : List ℕ) (p : ℕ) where
  -- 5 and 6: the words or the page are refused
  pub not_asked : {r : Refusing} → refused (refusal_says r) ≡ on_page ws p (gave (tt {0})) refused → Requested ws p (Err r) ws
  unfolding requested refuse
  not_asked e = let o = page_refused ws p (answered ws p) (λ x. refuse x ws) e in record { answer = sym (ap (λ (x : Outcome Reply (List ℕ)). x.said) o); memory = sym (ap (λ (x : Outcome Reply (List ℕ)). x.left) o) }

  -- else the step's answer is the call's
  pub a_page : {ws' : List ℕ} {r : Answer} → gave (tt {0}) ≡ on_page ws p (gave (tt {0})) refused → Stepped ws p r ws' → Requested ws p (Ok r) ws'
  unfolding requested on_page
  a_page e S = let t = page_allowed ws p e in let u = ne_eqb p NONE t.1 in record { answer = S.said ∙ sym (simp (t.0, u)); memory = S.left ∙ sym (simp (t.0, u)) }

-- On sound words and a page, the public request is the request.
pub request_is : (ws : List ℕ) (p : ℕ) → sound ws ≡ true → p < NONE → requested ws p ≡ answered ws p
unfolding requested on_page
request_is ws p s hp = simp (s, ne_eqb p NONE (λ z. omega (arith, z)))

-- ── The slot ──

-- the slot of the request's answer is the call's
pub slot_given : {ws ws' : List ℕ} {p : ℕ} {a : Result Answer Refusing} {r : Result ℕ Refusing} → Requested ws p a ws' → slot_says r ≡ slot_of (request_says a) → SlotGiven ws p r ws'
unfolding slot_for
slot_given Q e = record { answer = e ∙ ap slot_of Q.answer; memory = Q.memory }
