-- CLOCK's step, from its parts: its sweep counts the marks that the definition clears.
use Prim.Native.Nat.{ℕ, ◌+◌, ◌*◌, ◌-◌, ◌≤◌, ◌<◌}
use mathlib.Core.Path.{◌≡◌, refl, sym, ap, ◌∙◌, subst}
use mathlib.Core.Bool.{Bool, true, false, not}
use mathlib.Core.List.{List}
use mathlib.Core.Logic.{inr}
use native.Mathlib.Omega.{arith}
use lib.Dec.{eqb}
use lib.ListN.{length}
use borrow.Author.Tests.{eq-eqb, ne_eqb, leb-true, leb-false, not-true, not-false}
use Rattle.meaning.specs.declared.Answer.{Answer}
use Rattle.meaning.specs.declared.Answer.TheVariants.{Hit}
use Rattle.lists.specs.Told.{Found}
use Rattle.std.specs.Prelude.{Option, Some}
use Rattle.meaning.specs.Neighbours.{NONE}
use Rattle.meaning.specs.Layout.{cell_at, mark_col, slot_col}
use Rattle.meaning.specs.Mem.{Mem, word, held, full, lowest, list_on, with_word6, with_mark, with_slot, hang, seat, enter_seat, capacity_in, capacity_of, entry_count, hand_of, word6_in}
use Rattle.meaning.specs.Room.{Done, Room, as_it_is, put_out, hit_at, load}
use Rattle.meaning.specs.Clock.{advance, Swept, sweep, seats, clock_swap, clock_load, clock}
use Rattle.meaning.specs.Answers.{reply_of}
use Rattle.invariants.specs.Places.{top, cell, mark, Repr, Ready, Turns, Says, Any}
use Rattle.invariants.specs.Proper.{Indexed}
use Rattle.invariants.specs.Assumed.{Clock}
use Rattle.theorems.specs.Sweep.{turned, Spare}
use Rattle.theorems.proofs.Operations.{within, paged}
use Rattle.theorems.proofs.Rooms.{list_is, list_none}
use Rattle.theorems.proofs.Clock.{turned_clock, sweep_none, sweep_stops, sweep_turns, sweep_rested, sweep_full, spare_free, hand_used, spare_out, out_makes}
use Rattle.lists.specs.Asked.{Within, Kept}
use Rattle.lists.specs.Asked as asked
use Rattle.lists.specs.Told.{Gives, Answers}
use Rattle.rooms.specs.declared.freed.Freed.{Freed}
use Rattle.rooms.specs.Rooms.{Ends, Serves, Frees, asking, filling, given, loading, out_of, Then, Missing}
use Rattle.clock.specs.Inner.{at_mark, Rests, Sweeps, Handed, AtHand, hand_out, Seats, swapping, sweeping, ClockFull}
use Rattle.rooms.proofs.Rooming.{ready_as, frees_as, serves_as, room_serves, says_hit}
use Rattle.rooms.proofs.Spaces.{space_as, found_entry}

-- ── The hand ──

module _ {ws : List ℕ} {c h : ℕ} (ec : c ≡ capacity_in ws) (eh : h ≡ word6_in ws) where
  header : (m : Mem) → Repr ws m → (c ≡ capacity_of m) × (h ≡ hand_of m)
  header m R = (ec ∙ R.holds.at (top 1) (omega arith), eh ∙ R.holds.at (top 6) (omega arith))

  -- the hand that was read is below C
  pub hand_below : Ready ws Handed → h < c
  hand_below o = omega (arith, header o.mem o.repr, o.meets.hand)

  -- C-1 goes to 0
  pub advance_zero : {ws' : List ℕ} → h + 1 ≡ c → Turns ws ws' Any (with_word6 0) → Turns ws ws' Handed advance
  unfolding advance
  advance_zero z t = record { to = λ m R o. simp (eq-eqb (hand_of m + 1) (capacity_of m) (omega (arith, header m R))) (t.to m R tt) }

  -- any other goes on by 1
  pub advance_next : {ws' : List ℕ} → (h + 1 ≡ c → ⊥) → Turns ws ws' Any (with_word6 (h + 1)) → Turns ws ws' Handed advance
  unfolding advance
  advance_next {ws'} z t = record {
    to = λ m R o.
        let k = header m R in
        simp (ne_eqb (hand_of m + 1) (capacity_of m) (λ y. z (omega (arith, k, y)))) (subst (λ (x : ℕ). Repr ws' (with_word6 (x + 1) m)) k.1 (t.to m R tt));
  }

module _ {ws : List ℕ} {h : ℕ} (eh : h ≡ word6_in ws) where
  hand_is : (m : Mem) → Repr ws m → h ≡ hand_of m
  hand_is m R = eh ∙ R.holds.at (top 6) (omega arith)

  hand_in : Ready ws Clock → (m : Mem) → Repr ws m → h < entry_count m
  hand_in o m R =
      let K = o.meets in
      omega (arith, hand_is o.mem o.repr, o.repr.holds.at (top 2) (omega arith), R.holds.at (top 2) (omega arith), K.hand, K.all)

  -- the words of the entry at the hand may be read
  pub hand_room : Ready ws Clock → 16 + 8 * h + 8 ≤ length ws
  hand_room o = omega (arith, o.repr.holds.size, hand_in o o.mem o.repr)

  -- its mark
  pub hand_mark : {v : ℕ} → Ready ws Clock → v ≡ word ws (cell_at h mark_col) → Says ws (Gives at_mark (not (eqb v 0)))
  unfolding at_mark
  hand_mark o ev = record { of = λ m R. record { is = ap (λ (x : ℕ). not (eqb x 0)) (ev ∙ R.holds.at (cell mark h) (hand_in o m R) ∙ ap m.marks (hand_is m R)) } }

  -- it may be marked
  pub turn_within : Ready ws Clock → Ready ws (Within h)
  turn_within o = record { mem = o.mem; repr = o.repr; meets = record { within = hand_in o o.mem o.repr } }

  module _ {ws₁ : List ℕ} (t : Turns ws ws₁ (Within h) (with_mark h 0)) where
    -- and the hand is still below C
    pub turn_hand : Ready ws Clock → Ready ws₁ Handed
    unfolding with_mark
    turn_hand o = record { mem = with_mark h 0 o.mem; repr = t.to o.mem o.repr (record { within = hand_in o o.mem o.repr }); meets = record { hand = o.meets.hand } }

    -- so that is one turn
    pub turn_turns : {ws₂ : List ℕ} → Turns ws₁ ws₂ Handed advance → Turns ws ws₂ Clock turned
    unfolding turned
    turn_turns {ws₂} u = record {
      to = λ m R K.
          let e = hand_is m R in
          subst (λ (x : ℕ). Repr ws₂ (advance (with_mark x 0 m))) e
          (u.to (with_mark h 0 m) (t.to m R (record { within = omega (arith, e, K.hand, K.all) })) (unfold with_mark in record { hand = K.hand }));
    }

-- ── The sweep ──

-- after n turns from m: what is left of the sweep comes to what the whole comes to
pub record Swing (ws : List ℕ) (n : ℕ) (m : Mem) : Type 0 where
  pub now : Mem
  pub repr : Repr ws now
  pub clock : Clock now
  pub left : sweep (capacity_of m - n) now n ≡ sweep (capacity_of m) m 0

-- whatever CLOCK directory the words were
pub record Sweeping (ws₀ ws : List ℕ) (n : ℕ) : Type 0 where
  pub of : (m : Mem) → Repr ws₀ m → Clock m → Swing ws n m

module _ {ws₀ ws : List ℕ} {c n : ℕ} (ec : c ≡ capacity_in ws₀) (s : Sweeping ws₀ ws n) where
  capacity : (m : Mem) → Repr ws₀ m → c ≡ capacity_of m
  capacity m R = ec ∙ R.holds.at (top 1) (omega arith)

  rest : (m : Mem) (k : Swing ws n m) → sweep (capacity_of m - n) k.now n ≡ record { mem = k.now; cleared = n } → Rests ws n m
  rest m k e =
      let q = sym e ∙ k.left in
      record { repr = subst (λ (x : Swept). Repr ws x.mem) q k.repr; says = ap (λ (x : Swept). x.cleared) q }

  -- the hand comes to rest at an entry without a mark
  pub swing_rest : {b : Bool} → Says ws (Gives at_mark b) → b ≡ false → Sweeps ws₀ ws n
  unfolding at_mark
  swing_rest {b} a z = record {
    to = λ m R K.
        let k = s.of m R K in
        rest m k (sweep_stops k.now n (capacity_of m - n) (not-false _ (sym (a.of k.now k.repr).is ∙ z)));
  }

  -- or after C turns
  pub swing_over : c ≤ n → Sweeps ws₀ ws n
  swing_over h = record {
    to = λ m R K.
        let k = s.of m R K in let e = capacity m R in
        rest m k (ap (λ (x : ℕ). sweep x k.now n) (omega (arith, e)) ∙ sweep_none k.now n);
  }

  -- else there is one more turn
  pub swing_turn : {ws' : List ℕ} {b : Bool} → n < c → Says ws (Gives at_mark b) → b ≡ true → Turns ws ws' Clock turned → Sweeping ws₀ ws' (n + 1)
  unfolding at_mark
  swing_turn {b = b} h a z t = record {
    of = λ m R K.
        let k = s.of m R K in let e = capacity m R in
        let u = not-true _ (sym (a.of k.now k.repr).is ∙ z) in
        record {
          now = turned k.now;
          repr = t.to k.now k.repr k.clock;
          clock = turned_clock k.now k.clock;
          left = sym (sweep_turns k.now n (capacity_of m - (n + 1)) u) ∙ ap (λ (x : ℕ). sweep x k.now n) (omega (arith, e)) ∙ k.left;
        };
  }

-- ── Room ──

-- a new page finds room where an entry is free
seat_space : {s : ℕ} {n : Mem} → Spare s n → (p : ℕ) → ((i : ℕ) → n.pages i ≡ p → ⊥) → asked.Admits p n
seat_space {n = n} S p absent =
    let idle = ap n.lists S.low ∙ S.free in
    record { fresh = record { bare = record { within = omega (arith, S.low, S.inside); none = S.idle (lowest n) idle; absent = absent }; idle = idle } }

-- the page at the hand can be put out of a full directory, and leaves room
hand_space : (m : Mem) → Clock m → capacity_of m ≤ held m → (p : ℕ) → p < NONE → ((i : ℕ) → m.pages i ≡ p → ⊥) → Then AtHand hand_out (Seats p) m
unfolding hand_out put_out
hand_space m K h p hp absent =
    let e = hand_of m in let I = K.seated.indexed in let S = spare_out m K h in
    let u = hand_used m K h in let one = K.one e u in
    record {
      asks = record { kept = record { listed = record { within = within m I e u; range = (omega (arith, one), omega (arith, one)); on = inr (K.unordered.bare (m.lists e)) }; hung = I.hung e (paged m I e u) } };
      leaves = record { room = seat_space S p (λ i z. absent i ((out_makes m K h).pages p hp i z)); hand = S.hand; real = hp };
    }

module _ {ws ws₁ : List ℕ} {p : ℕ} where
  -- a new page leaves the hand
  pub seat_hand : (s : ℕ) → Turns ws ws₁ (asked.Admits p) (enter_seat p s) → Ready ws (Seats p) → Ready ws₁ Handed
  unfolding enter_seat seat with_slot hang
  seat_hand s t o = record { mem = enter_seat p s o.mem; repr = t.to o.mem o.repr o.meets.room; meets = record { hand = o.meets.hand } }

  -- and is loaded, and the hand advances
  pub seat_serves : {ws₂ : List ℕ} {r : Answer} (f : Freed) (c : ℕ)
      → Turns ws ws₁ (asked.Admits p) (enter_seat p f.slot) → Turns ws₁ ws₂ Handed advance → reply_of r ≡ loading f c → Serves ws ws₂ (Seats p) (given f (swapping p c)) r
  unfolding given swapping seats load loading
  seat_serves f c t u e = record {
    to = λ m R o. record {
      repr = u.to (enter_seat p f.slot m) (t.to m R o.room) (unfold enter_seat seat with_slot hang in record { hand = o.hand });
      says = e;
    };
  }

-- a new page takes its place where nothing is put out
seating : ℕ → Room → Done
seating p r = load r 0 (seats r p)

seating_serves : {ws ws₁ : List ℕ} {p : ℕ} {r : Answer} (f : Freed)
    → Turns ws ws₁ (asked.Admits p) (enter_seat p f.slot) → reply_of r ≡ loading f 0 → Serves ws ws₁ (asked.Admits p) (given f (seating p)) r
unfolding given seating seats load loading
seating_serves f t e = record { to = λ m R o. record { repr = t.to m R o; says = e } }

-- a new page in a free slot
pub load_serves : {ws ws₁ : List ℕ} {p : ℕ} {r : Answer} (f : Freed)
    → Frees ws ws Any as_it_is f → Turns ws ws₁ (asked.Admits p) (enter_seat p f.slot) → reply_of r ≡ loading f 0 → Serves ws ws₁ (asked.Admits p) (asking clock_load p) r
unfolding asking clock_load filling seating
load_serves {p = p} f F t e = serves_as (room_serves (seating p) F (seating_serves f t e)) (λ m R o. (record { asks = tt; leaves = space_as p m o }, refl))

module _ {ws : List ℕ} {h : ℕ} (eh : h ≡ word6_in ws) where
  -- the entry at the hand that was read can be removed
  pub hand_kept : {room : Mem → Room} {ok : Mem → Type 0} → Ready ws (Then AtHand room ok) → Ready ws (Kept h)
  hand_kept = ready_as (λ m R o. subst (λ (x : ℕ). Kept x m) (sym (hand_is eh m R)) o.asks.kept)

  -- and its page put out is the room
  pub hand_frees : {ws' : List ℕ} {f : Freed} → Frees ws ws' (Kept h) (out_of h) f → Frees ws ws' AtHand hand_out f
  unfolding out_of hand_out
  hand_frees F = frees_as F (λ m R o. (subst (λ (x : ℕ). Kept x m) (sym (hand_is eh m R)) o.kept, ap (put_out m) (hand_is eh m R)))

-- ── Full ──

swept_space : (m : Mem) (p : ℕ) → ClockFull p m → Then AtHand hand_out (Seats p) (sweep (capacity_of m) m 0).mem
swept_space m p o =
    let K = o.miss.kind in let R = sweep_rested m K in
    hand_space (sweep (capacity_of m) m 0).mem R.clock (sweep_full m K o.full) p o.miss.real (λ i z. o.miss.absent i (R.still.pages p o.miss.real i z))

module _ {ws ws₁ : List ℕ} {n p : ℕ} (w : Sweeps ws ws₁ n) where
  -- after the sweep the page at the hand can be put out
  pub swept_ready : Ready ws (ClockFull p) → Ready ws₁ (Then AtHand hand_out (Seats p))
  swept_ready o = record {
    mem = (sweep (capacity_of o.mem) o.mem 0).mem;
    repr = (w.to o.mem o.repr o.meets.miss.kind).repr;
    meets = swept_space o.mem p o.meets;
  }

  -- and the count is the definition's
  pub swept_serves : {ws₂ : List ℕ} {r : Answer} → Serves ws₁ ws₂ (Then AtHand hand_out (Seats p)) (filling hand_out (swapping p n)) r → Serves ws ws₂ (ClockFull p) (sweeping p) r
  unfolding filling hand_out swapping sweeping clock_swap
  swept_serves {ws₂} {r} S = record {
    to = λ m R o.
        let k = w.to m R o.miss.kind in let x = (sweep (capacity_of m) m 0).mem in
        let t = put_out x (hand_of x) in
        subst (λ (c : ℕ). Ends ws₂ r (load t c (advance (seats t p)))) k.says (S.to x k.repr (swept_space m p o));
  }

-- ── A page that is not held ──

module _ {ws : List ℕ} {p : ℕ} {b : Bool} (a : Says ws (Gives full b)) where
  clock_is : (m : Mem) → Missing Clock p m → list_on m p ≡ 0
  clock_is m o = list_none m o.kind.seated.indexed p o.real o.absent

  fills : b ≡ true → (m : Mem) → Repr ws m → Missing Clock p m → ClockFull p m
  unfolding full
  fills z m R o = record { miss = o; full = leb-true (capacity_of m) (held m) (sym (a.of m R).is ∙ z) }

  -- C are held
  pub miss_full : b ≡ true → Ready ws (Missing Clock p) → Ready ws (ClockFull p)
  miss_full z = ready_as (fills z)

  -- so the page is swapped in
  pub miss_swapped : {ws' : List ℕ} {r : Answer} → b ≡ true → Serves ws ws' (ClockFull p) (sweeping p) r → Serves ws ws' (Missing Clock p) (asking clock p) r
  unfolding asking sweeping clock
  miss_swapped z S = serves_as S (λ m R o. (fills z m R o, simp (clock_is m o, sym (a.of m R).is ∙ z)))

  space : b ≡ false → (m : Mem) → Repr ws m → Missing Clock p m → asked.Admits p m
  unfolding full
  space z m R o = seat_space (spare_free m o.kind (leb-false (capacity_of m) (held m) (sym (a.of m R).is ∙ z))) p o.absent

  -- fewer are held, so there is room
  pub miss_room : b ≡ false → Ready ws (Missing Clock p) → Ready ws (asked.Admits p)
  miss_room z = ready_as (space z)

  -- where the page is loaded
  pub miss_loaded : {ws' : List ℕ} {r : Answer} → b ≡ false → Serves ws ws' (asked.Admits p) (asking clock_load p) r → Serves ws ws' (Missing Clock p) (asking clock p) r
  unfolding asking clock
  miss_loaded z S = serves_as S (λ m R o. (space z m R o, simp (clock_is m o, sym (a.of m R).is ∙ z)))

-- ── The step ──

-- a CLOCK directory has its pages in the index
pub clock_indexed : (m : Mem) → Clock m → Indexed m
clock_indexed m K = K.seated.indexed

module _ {ws : List ℕ} {p : ℕ} {f : Option Found} (hp : p < NONE) (a : Says ws (Answers p f)) where
  module _ {found : Found} (z : f ≡ Some found) where
    -- a page that was found has an entry
    pub clock_within : Ready ws Clock → Ready ws (Within found.entry)
    clock_within = ready_as (λ m R o. record { within = (found_entry a z m R).hung.within })

    -- whose mark becomes 1
    pub clock_hit : {ws' : List ℕ} {s : ℕ} → s ≡ word ws (cell_at found.entry slot_col) → Turns ws ws' (Within found.entry) (with_mark found.entry 1) → Serves ws ws' Clock (asking clock p) (Hit s 0)
    unfolding asking clock
    clock_hit {ws'} {s} es t = record {
      to = λ m R K.
          let k = found_entry a z m R in
          let l : list_on m p ≡ 1 = list_is m K.seated.indexed p hp found.entry k.page ∙ K.one found.entry (λ y. omega (arith, k.page, K.idle found.entry y)) in
          simp (k.entry, l)
          (record { repr = unfold hit_at in t.to m R (record { within = k.hung.within }); says = says_hit es m R k.hung.within (with_mark found.entry 1 m) });
    }
