-- CLOCK keeps its directory, and answers with the right slot; its sweep ends and clears at most C marks.
use Prim.Native.Nat.{ℕ, zero, suc, ◌+◌, ◌≤◌, ◌<◌}
use mathlib.Core.Path.{◌≡◌, refl, sym, ap, ◌∙◌, subst}
use mathlib.Core.Bool.{true, false, not}
use mathlib.Core.List.{[]}
use native.Mathlib.Omega.{arith}
use lib.Dec.{eqb, leb}
use borrow.Author.Tests.{eq-eqb, ne_eqb, lt-ltb, leb-true, leb-false, ltb-true, eqb-true, eqb-false}
use Rattle.std.specs.Prelude.{if◌then◌else◌}
use Rattle.meaning.specs.Neighbours.{NONE, put}
use Rattle.meaning.specs.Layout.{is_held}
use Rattle.meaning.specs.Mem.{Mem, held, full, list_on, lowest, free_slot, with_word6, with_mark, with_slot, hang, unhang, blanked, seat, clear, enter_seat, capacity_of, entry_count, hand_of}
use Rattle.meaning.specs.Room.{Room, as_it_is, put_out, hit_at, load}
use Rattle.meaning.specs.Clock.{advance, Swept, sweep, seats, clock_swap, clock_load, clock}
use Rattle.invariants.specs.Ram.{Steps}
use Rattle.invariants.specs.Assumed.{Clock}
use Rattle.invariants.proofs.Numbered.{held_used}
use Rattle.invariants.proofs.Lists.{split, eqb_same}
use Rattle.invariants.proofs.Numbers.{by_test, first_at, tally_le, tally_one}
use Rattle.theorems.specs.Change.{Moved, Still, Header, placed}
use Rattle.theorems.specs.Sweep.{turned, Rested, Spare}
use Rattle.theorems.specs.Served.{Makes, Served}
use Rattle.theorems.specs.Marked.{marked}
use Rattle.theorems.proofs.Operations.{free_held, clear_moved, clear_bare, clear_quiet, clear_idle, placed_moved, placed_idle, free_slot_lem, lowest_free}
use Rattle.theorems.proofs.Rooms.{gap_as_is, gap_out, placed_seated, entry_cases}
use Rattle.invariants.proofs.Counted.{tally_full}
use Rattle.theorems.proofs.Counts.{tally_pos}
use Rattle.theorems.proofs.Word6.{word6_seated, mark_seated}
use Rattle.theorems.proofs.Bare.{off_bare, off_fine_bare, placed_fine_bare}
use Rattle.theorems.proofs.Serving.{still_self, still_then, still_same, makes_out, makes_none, served_hit, served_load, served_after, served_as, steps_of}
use Rattle.theorems.proofs.Going.{held1, not_held}

-- the hand stays below C
advance_clock : (m : Mem) → Clock m → Clock (advance m)
unfolding advance
advance_clock m K = record {
  seated = word6_seated m (if eqb (hand_of m + 1) (capacity_of m) then 0 else hand_of m + 1) K.seated;
  idle = unfold with_word6 in K.idle;
  unordered = unfold with_word6 in record { bare = K.unordered.bare; own = K.unordered.own };
  one = unfold with_word6 in K.one;
  all = unfold with_word6 in K.all;
  some = unfold with_word6 in K.some;
  hand = unfold with_word6 in by_test (eqb (hand_of m + 1) (capacity_of m))
      (λ t. simp t (omega (arith, K.some)))
      (λ t. simp t (omega (arith, K.hand, eqb-false (hand_of m + 1) (capacity_of m) t)));
  marks = unfold with_word6 in K.marks;
}

-- an entry with a page may be marked, and any entry unmarked
mark_clock : (m : Mem) → Clock m → (e v : ℕ) → v ≤ 1 → (m.pages e ≡ NONE → v ≡ 0) → Clock (with_mark e v m)
mark_clock m K e v hv fit = record {
  seated = mark_seated m e v K.seated fit;
  idle = unfold with_mark in K.idle;
  unordered = unfold with_mark in record { bare = K.unordered.bare; own = K.unordered.own };
  one = unfold with_mark in K.one;
  all = unfold with_mark in K.all;
  some = unfold with_mark in K.some;
  hand = unfold with_mark in K.hand;
  marks = unfold with_mark in (λ i. split i e (λ z t. simp t hv) (λ z t. simp t (K.marks i)));
}

-- ── The sweep ──

module _ (m : Mem) where
  -- one turn leaves a CLOCK directory
  pub turned_clock : Clock m → Clock (turned m)
  unfolding turned
  turned_clock K = advance_clock (with_mark (hand_of m) 0 m) (mark_clock m K (hand_of m) 0 (omega arith) (λ _. refl))

  turned_still : Still m (turned m)
  unfolding turned advance with_word6 with_mark
  turned_still = still_same refl refl refl

  turned_lists : (turned m).lists ≡ m.lists
  unfolding turned advance with_word6 with_mark
  turned_lists = refl

  turned_header : Header m (turned m)
  unfolding turned advance with_word6 with_mark
  turned_header t d = simp (ne_eqb t 6 d)

  turned_marked : (h : hand_of m < capacity_of m) → eqb (m.marks (hand_of m)) 0 ≡ false → marked m ≡ suc (marked (turned m))
  unfolding turned advance with_word6 with_mark marked
  turned_marked h t = tally_one (capacity_of m) (λ i. not (eqb (m.marks i) 0)) (λ i. not (eqb (put m.marks (hand_of m) 0 i) 0)) (hand_of m) h (simp t) (simp (eqb_same (hand_of m))) (λ i d. simp (ne_eqb i (hand_of m) d))

module _ (m : Mem) (c : ℕ) where
  -- a sweep of no turn changes nothing
  pub sweep_none : sweep zero m c ≡ record { mem = m; cleared = c }
  unfolding sweep
  sweep_none = refl

  -- a sweep stops at an entry without a mark
  pub sweep_stops : (n : ℕ) → eqb (m.marks (hand_of m)) 0 ≡ true → sweep n m c ≡ record { mem = m; cleared = c }
  unfolding sweep
  sweep_stops zero t = refl
  sweep_stops (suc n) t = simp t

  -- at a mark it turns, and goes on
  pub sweep_turns : (n : ℕ) → eqb (m.marks (hand_of m)) 0 ≡ false → sweep (suc n) m c ≡ sweep n (turned m) (c + 1)
  unfolding sweep turned
  sweep_turns n t = simp t

rests_here : (m : Mem) (c : ℕ) → Clock m → m.marks (hand_of m) ≡ 0 → Rested m (record { mem = m; cleared = c })
rests_here m c K z = record { clock = K; still = still_self; header = λ t d. refl; lists = refl; unmarked = z }

rests_later : (m : Mem) (s : Swept) → Rested (turned m) s → Rested m s
rests_later m s R = record {
  clock = R.clock;
  still = still_then (turned_still m) R.still;
  header = λ t d. R.header t d ∙ turned_header m t d;
  lists = R.lists ∙ turned_lists m;
  unmarked = R.unmarked;
}

no_marks : (m : Mem) → Clock m → marked m ≤ 0 → m.marks (hand_of m) ≡ 0
unfolding marked
no_marks m K h = split (m.marks (hand_of m)) 0 (λ z t. z) (λ z t.
    absurd (omega (arith, h, tally_pos (capacity_of m) (λ i. not (eqb (m.marks i) 0)) (hand_of m) K.hand (simp t))))

-- as many turns as there are marks are enough: the hand comes to rest at an entry without one
sweep_rests : (n : ℕ) (m : Mem) (c : ℕ) → Clock m → marked m ≤ n → Rested m (sweep n m c)
sweep_rests zero m c K h = subst (Rested m) (sym (sweep_none m c)) (rests_here m c K (no_marks m K h))
sweep_rests (suc n) m c K h = by_test (eqb (m.marks (hand_of m)) 0)
    (λ t. subst (Rested m) (sym (sweep_stops m c (suc n) t)) (rests_here m c K (eqb-true (m.marks (hand_of m)) 0 t)))
    (λ t. subst (Rested m) (sym (sweep_turns m c n t)) (rests_later m (sweep n (turned m) (c + 1))
    (sweep_rests n (turned m) (c + 1) (turned_clock m K) (omega (arith, h, turned_marked m K.hand t)))))

sweep_most : (n : ℕ) (m : Mem) (c : ℕ) → (sweep n m c).cleared ≤ c + n
sweep_most zero m c = rw (sweep_none m c) (omega arith)
sweep_most (suc n) m c = by_test (eqb (m.marks (hand_of m)) 0)
    (λ t. rw (sweep_stops m c (suc n) t) (omega arith))
    (λ t. rw (sweep_turns m c n t) (omega (arith, sweep_most n (turned m) (c + 1))))

-- what a sweep says it cleared is by how much fewer entries are marked
pub sweep_clears : (n : ℕ) (m : Mem) (c : ℕ) → Clock m → marked (sweep n m c).mem + (sweep n m c).cleared ≡ marked m + c
sweep_clears zero m c K = rw (sweep_none m c)
sweep_clears (suc n) m c K = by_test (eqb (m.marks (hand_of m)) 0)
    (λ t. rw (sweep_stops m c (suc n) t))
    (λ t. rw (sweep_turns m c n t) (omega (arith, sweep_clears n (turned m) (c + 1) (turned_clock m K), turned_marked m K.hand t)))

module _ (m : Mem) (K : Clock m) where
  -- the sweep of a request comes to rest
  pub sweep_rested : Rested m (sweep (capacity_of m) m 0)
  unfolding marked
  sweep_rested = sweep_rests (capacity_of m) m 0 K (tally_le (capacity_of m) (λ i. not (eqb (m.marks i) 0)))

  -- after the sweep of a request the hand is at an entry without a mark
  pub sweep_ends : (sweep (capacity_of m) m 0).mem.marks (hand_of (sweep (capacity_of m) m 0).mem) ≡ 0
  sweep_ends = sweep_rested.unmarked

  -- a full directory is full after the sweep
  pub sweep_full : capacity_of m ≤ held m → capacity_of (sweep (capacity_of m) m 0).mem ≤ held (sweep (capacity_of m) m 0).mem
  unfolding held
  sweep_full h = let R = sweep_rested in rw (R.lists, R.header 1 (omega arith), R.header 2 (omega arith)) h

-- ── Room ──

-- a new page takes its place
module _ (r : Room) (p : ℕ) (S : Spare r.slot r.mem) (hp : p < NONE) (absent : (i : ℕ) → r.mem.pages i ≡ p → ⊥) where
  seat_is : seats r p ≡ placed r.slot p 1 r.slot r.mem.order r.mem
  unfolding seats enter_seat seat with_slot hang placed
  seat_is = ap (λ (e : ℕ). placed e p 1 r.slot r.mem.order r.mem) S.low

  seat_moved : Moved r.slot 1 r.mem (seats r p)
  seat_moved = subst (Moved r.slot 1 r.mem) (sym seat_is) (placed_moved r.mem S.gap.indexed r.slot p 1 r.slot r.mem.order S.inside S.free hp (omega arith) held1)

  seat_page : ((seats r p).pages r.slot ≡ p) × ((seats r p).slots r.slot ≡ r.slot)
  seat_page = rw seat_is (unfold placed in (simp (eqb_same r.slot), simp (eqb_same r.slot)))

  seat_tops : (seats r p).tops ≡ r.mem.tops
  unfolding seats enter_seat seat with_slot hang
  seat_tops = refl

  seat_clock : Clock (seats r p)
  seat_clock = let m = r.mem in let s = r.slot in rw seat_is (record {
    seated = placed_seated m s p 1 s m.order S.gap S.inside S.free hp (omega arith) held1
        (placed_fine_bare m S.gap.indexed.fine s p 1 s S.inside (S.idle s S.free) hp absent S.unordered.bare);
    idle = placed_idle m S.gap.indexed s p 1 s m.order S.inside S.free hp (omega arith) held1 S.idle;
    unordered = unfold placed in record {
      bare = S.unordered.bare;
      own = λ i u. split i s (λ z t. simp t (sym z)) (λ z t. simp t (S.unordered.own i (simp t at u)));
    };
    one = unfold placed in (λ i u. split i s (λ z t. simp t) (λ z t. simp t (S.one i (simp t at u))));
    all = unfold placed in S.all;
    some = unfold placed in omega (arith, S.hand);
    hand = unfold placed in S.hand;
    marks = unfold placed in S.marks;
  })

module _ (m : Mem) (K : Clock m) where
  -- the lowest free entry has the lowest free slot
  pub spare_free : held m < capacity_of m → Spare (free_slot m) m
  spare_free h = rw slot (record {
    gap = rw slot at (gap_as_is m K.seated (omega arith));
    idle = K.idle;
    unordered = K.unordered;
    one = K.one;
    all = K.all;
    hand = K.hand;
    marks = K.marks;
    inside = omega (arith, K.all);
    free = free;
    low = low;
  })
    where
      slot : free_slot m ≡ held m
      slot = free_slot_lem m K.seated (omega arith)

      free : m.lists (held m) ≡ 0
      free = split (m.lists (held m)) 0 (λ z t. z) (λ z t.
          let i = held m in
          absurd (omega (arith, K.unordered.own i z, ltb-true (m.slots i) (held m) (K.seated.slotted.back i (ap is_held (K.one i z) ∙ held1)).0)))

      used : (i : ℕ) → i < held m → m.lists i ≡ 0 → ⊥
      used i l =
          let k = K.seated.slotted.there i (lt-ltb i (held m) l) in let a = K.seated.slotted.at i in
          let u = held_used (m.lists a) k.0 in
          let same : a ≡ i = sym (K.unordered.own a u) ∙ k.1 in
          λ z. u (ap m.lists same ∙ z)

      low : lowest m ≡ held m
      low = unfold lowest in first_at (λ i. eqb (m.lists i) 0) 0 (entry_count m) (held m) (omega arith) (omega (arith, K.all))
          (λ i _ l. ne_eqb (m.lists i) 0 (used i l)) (λ _. eq-eqb (m.lists (held m)) 0 free)

  -- in a full directory every entry is used
  all_used : capacity_of m ≤ held m → (i : ℕ) → i < entry_count m → is_held (m.lists i) ≡ true
  unfolding held
  all_used h i l = tally_full (entry_count m) (λ y. is_held (m.lists y)) (omega (arith, K.all)) i l

  module _ (h : capacity_of m ≤ held m) where
    here : is_held (m.lists (hand_of m)) ≡ true
    here = all_used h (hand_of m) (omega (arith, K.hand, K.all))

    -- the entry at the hand is used
    pub hand_used : m.lists (hand_of m) ≡ 0 → ⊥
    hand_used = held_used (m.lists (hand_of m)) here

    M : Moved (hand_of m) 0 m (clear (hand_of m) m)
    M = clear_moved m K.seated.indexed (hand_of m) hand_used

    -- the entry put out is the one that is free
    pub spare_out : Spare (m.slots (hand_of m)) (clear (hand_of m) m)
    spare_out =
        let I = K.seated.indexed in let h6 = hand_of m in let u = hand_used in let q = clear_quiet m I h6 u in
        let at = K.unordered.own h6 u in
        let t1 = ap (λ (f : ℕ → ℕ). f 1) q.tops in let t2 = ap (λ (f : ℕ → ℕ). f 2) q.tops in let t6 = ap (λ (f : ℕ → ℕ). f 6) q.tops in
        record {
          gap = gap_out m K.seated h6 here (off_fine_bare m I.fine h6 K.unordered.bare);
          idle = clear_idle m I h6 u K.idle;
          unordered = record { bare = clear_orders; own = λ i w. let d = other i w in M.slots i d ∙ K.unordered.own i (λ y. w (M.lists i ∙ simp (ne_eqb i h6 d) y)) };
          one = λ i w. let d = other i w in let k : (clear h6 m).lists i ≡ m.lists i = M.lists i ∙ simp (ne_eqb i h6 d) in k ∙ K.one i (λ y. w (k ∙ y));
          all = omega (arith, t1, t2, K.all);
          hand = omega (arith, t1, t6, K.hand);
          marks = λ i. omega (arith, q.marks i, K.marks i);
          inside = omega (arith, at, t2, K.hand, K.all);
          free = ap (clear h6 m).lists at ∙ gone;
          low = low ∙ sym at;
        }
      where
        gone : (clear (hand_of m) m).lists (hand_of m) ≡ 0
        gone = M.lists (hand_of m) ∙ simp (eqb_same (hand_of m))

        other : (i : ℕ) → ((clear (hand_of m) m).lists i ≡ 0 → ⊥) → i ≡ hand_of m → ⊥
        other i w y = w (ap (clear (hand_of m) m).lists y ∙ gone)

        clear_orders : (j : ℕ) → (clear (hand_of m) m).order j ≡ []
        clear_orders j = unfold clear blanked with_mark with_slot unhang in off_bare m (hand_of m) K.unordered.bare j

        low : lowest (clear (hand_of m) m) ≡ hand_of m
        low =
            let g = clear (hand_of m) m in
            let w = lowest_free g (hand_of m) (omega (arith, M.size, M.inside)) gone in
            split (lowest g) (hand_of m) (λ z t. z) (λ z t.
            absurd (held_used (m.lists (lowest g)) (all_used h (lowest g) (omega (arith, w.0, M.size))) (sym (M.lists (lowest g) ∙ simp t) ∙ w.1)))

    -- the page at the hand is put out
    pub out_makes : Makes m (put_out m (hand_of m))
    unfolding put_out
    out_makes = makes_out M K.seated.indexed here free_held (λ q hq w. absurd (omega (arith, clear_bare m K.seated.indexed (hand_of m) hand_used, w)))

-- ── A request ──

advance_moved : {e j : ℕ} {m n : Mem} → Moved e j m n → Moved e j m (advance n)
unfolding advance with_word6
advance_moved M = record { inside = M.inside; size = M.size; lists = M.lists; pages = M.pages; slots = M.slots }

advance_header : (m : Mem) → Header m (advance m)
unfolding advance with_word6
advance_header m t d = simp (ne_eqb t 6 d)

-- a full directory whose hand came to rest
swap_served : (m : Mem) → Clock m → capacity_of m ≤ held m → (c p : ℕ) → p < NONE → ((i : ℕ) → m.pages i ≡ p → ⊥) → Served (λ n. Clock n × Header m n) m p (clock_swap (record { mem = m; cleared = c }) p)
unfolding clock_swap
swap_served m K h c p hp absent =
    let r = put_out m (hand_of m) in
    let S : Spare r.slot r.mem = unfold put_out in spare_out m K h in
    let R = out_makes m K h in
    let gone : (i : ℕ) → r.mem.pages i ≡ p → ⊥ = λ i w. absent i (R.pages p hp i w) in
    let at = seat_page r p S hp gone in
    let q : r.mem.tops ≡ m.tops = unfold put_out in (clear_quiet m K.seated.indexed (hand_of m) (hand_used m K h)).tops in
    served_load (λ n. Clock n × Header m n) m p r c r.slot 1 (advance (seats r p)) R (advance_moved (seat_moved r p S hp gone)) (ap is_held S.free ∙ free_held) held1
    (unfold advance with_word6 in at.0) (unfold advance with_word6 in at.1) (not_held absent)
    (advance_clock (seats r p) (seat_clock r p S hp gone), λ t d. advance_header (seats r p) t d ∙ ap (λ (f : ℕ → ℕ). f t) (seat_tops r p S hp gone ∙ q))

-- one with a free slot
load_served : (m : Mem) → Clock m → held m < capacity_of m → (p : ℕ) → p < NONE → ((i : ℕ) → m.pages i ≡ p → ⊥) → Served (λ n. Clock n × Header m n) m p (clock_load m p)
unfolding clock_load
load_served m K h p hp absent =
    let r = as_it_is m in
    let S : Spare r.slot r.mem = unfold as_it_is in spare_free m K h in
    let gone : (i : ℕ) → r.mem.pages i ≡ p → ⊥ = unfold as_it_is in absent in
    let at = seat_page r p S hp gone in
    let q : r.mem.tops ≡ m.tops = unfold as_it_is in refl in
    served_load (λ n. Clock n × Header m n) m p r 0 r.slot 1 (seats r p) (makes_none m) (seat_moved r p S hp gone) (ap is_held S.free ∙ free_held) held1 at.0 at.1 (not_held absent)
    (seat_clock r p S hp gone, λ t d. ap (λ (f : ℕ → ℕ). f t) (seat_tops r p S hp gone ∙ q))

module _ (m : Mem) (K : Clock m) where
  -- a full directory, from anywhere
  full_served : capacity_of m ≤ held m → (p : ℕ) → p < NONE → ((i : ℕ) → m.pages i ≡ p → ⊥) → Served (λ n. Clock n × Header m n) m p (clock_swap (sweep (capacity_of m) m 0) p)
  full_served h p hp absent =
      let s = sweep (capacity_of m) m 0 in let R = sweep_rested m K in let n = s.mem in
      served_after (λ n. Clock n × Header m n) m p n (clock_swap s p) R.still
      (served_as (λ x k. (k.0, λ t d. k.1 t d ∙ R.header t d)) (swap_served n R.clock (sweep_full m K h) s.cleared p hp (λ i w. absent i (R.still.pages p hp i w))))

  -- a request is served, and leaves the header but for the hand
  pub clock_served : (p : ℕ) → p < NONE → Served (λ n. Clock n × Header m n) m p (clock m p)
  unfolding clock full
  clock_served p hp =
      entry_cases m K.seated.indexed p hp
      (λ e z w on.
      let l : m.lists e ≡ 1 = K.one e (λ y. omega (arith, z, K.idle e y)) in
      simp (w, eq-eqb (list_on m p) 1 (on ∙ l)) (served_hit (λ n. Clock n × Header m n) m p e (with_mark e 1 m) z (ap is_held l ∙ held1)
      (unfold with_mark in still_same refl refl refl) (mark_clock m K e 1 (omega arith) (λ y. absurd (omega (arith, z, y))), unfold with_mark in (λ t d. refl))))
      (λ absent on. simp (ne_eqb (list_on m p) 1 (λ y. omega (arith, on, y)))
      (by_test (leb (capacity_of m) (held m))
      (λ t. simp t (full_served (leb-true (capacity_of m) (held m) t) p hp absent))
      (λ t. simp t (load_served m K (leb-false (capacity_of m) (held m) t) p hp absent))))

-- CLOCK is a policy that never names the wrong slot
pub clock_steps : Steps Clock clock
clock_steps = steps_of (λ m K. K.seated) clock_served

-- a request clears at most C marks
pub clock_at_most : (m : Mem) (p : ℕ) → (clock m p).reply.cleared ≤ capacity_of m
unfolding clock hit_at clock_swap clock_load load
clock_at_most m p = by_test (eqb (list_on m p) 1)
    (λ t. simp t (omega arith))
    (λ t. simp t (by_test (full m) (λ f. simp f (omega (arith, sweep_most (capacity_of m) m 0))) (λ f. simp f (omega arith))))
