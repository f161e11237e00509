-- The answers of `report`.
use Prim.Native.Nat.{ℕ, suc, ◌+◌, ◌*◌, ◌-◌, ◌≤◌, ◌<◌}
use mathlib.Core.Path.{◌≡◌, sym, ap, ◌∙◌}
use mathlib.Core.Bool.{Bool, true, false, not}
use mathlib.Core.List.{List, ◌++◌, map}
use native.Mathlib.Omega.{arith}
use native.Mathlib.Numerals.{add-one}
use lib.ListN.{length, drop, set, length-map}
use lib.Seq.{sets, sets-eq}
use borrow.Author.Tests.{eq-eqb, eqb-true, lt-ltb, le-ltb, not-true, not-false}
use Rattle.std.specs.Prelude.{Ok, Err}
use Rattle.meaning.specs.declared.Refusal.TheVariants.{Unsound, NoSuchList, TooShort}
use Rattle.meaning.specs.Base.{first, series}
use Rattle.meaning.specs.Layout.{is_clock, is_held, is_list}
use Rattle.meaning.specs.Mem.{Mem, decode, size, held, sits, entry_count, policy_in, policy_of}
use Rattle.invariants.specs.Places.{top, cell, page, Repr, Says}
use Rattle.meaning.specs.Rules.{page_in, sound}
use Rattle.invariants.specs.Whole.{Whole}
use Rattle.meaning.specs.Calls.{gave, refuse, over, page_in_slot, pages_on, reported}
use Rattle.invariants.proofs.Numbers.{first_hit}
use Rattle.invariants.proofs.Unique.{below, order_read}
use Rattle.lists.specs.Told.{Gives, GivesOf, Shorter, Copied}
use Rattle.invariants.proofs.Numbered.{held_used}
use Rattle.invariants.proofs.Series.{length_series, series_same}
use Rattle.invariants.proofs.Tests.{and_left, and_right, both}
use Rattle.sound.proofs.Door.{door}
use Rattle.form_look_report.specs.Reports.{pages_of, ReportedAs}

-- The numbers from i on are stored: one, and then the rest.
pub sets_next : (f : ℕ → ℕ) (l : List ℕ) (i n : ℕ) → i < n → sets l i (series f (n - i) i) ≡ sets (set l i (f i)) (i + 1) (series f (n - (i + 1)) (i + 1))
sets_next f l i n h =
    let e : n - i ≡ suc (n - (i + 1)) = omega arith in
    ap (λ (k : ℕ). sets l i (series f k i)) e ∙ ap (λ (k : ℕ). sets (set l i (f i)) k (series f (n - (i + 1)) k)) (sym (add-one i))

-- All are stored.
pub sets_last : (f : ℕ → ℕ) (l : List ℕ) (i n : ℕ) → n ≤ i → sets l i (series f (n - i) i) ≡ l
sets_last f l i n h = let e : n - i ≡ 0 = omega arith in ap (λ (k : ℕ). sets l i (series f k i)) e

-- Stored from 0 on, they stand over the front.
pub sets_over : (f : ℕ → ℕ) (l : List ℕ) (n : ℕ) → n ≤ length l → sets l 0 (series f (n - 0) 0) ≡ over (series f n 0) l
unfolding over
sets_over f l n h =
    let e : n - 0 ≡ n = omega arith in
    let g : 0 + length (series f n 0) ≡ length (series f n 0) = omega arith in
    ap (λ (k : ℕ). sets l 0 (series f k 0)) e
    ∙ sets-eq (series f n 0) l 0 (omega (arith, length_series f n 0))
    ∙ ap (λ (k : ℕ). series f n 0 ++ drop k l) g

-- ── The pages of a list ──

module _ (ws : List ℕ) (s : sound ws ≡ true) where
  abbrev m : Mem
  m = decode ws

  R : Repr ws m
  R = (door ws s).0

  W : Whole m
  W = (door ws s).1

  -- the policy is in word 0
  policy_is : policy_in ws ≡ policy_of m
  policy_is = R.holds.at (top 0) (omega arith)

  module _ {p : ℕ} {b : Bool} (ep : p ≡ policy_in ws) (eb : b ≡ not (is_clock p)) (c : b ≡ false) where
    clock : is_clock (policy_of m) ≡ true
    clock = ap (λ (q : ℕ). is_clock q) (sym policy_is ∙ sym ep) ∙ not-false (is_clock p) (sym eb ∙ c)

    -- CLOCK's held entry s is the one in slot s
    seat_own : (i : ℕ) → is_held (m.lists i) ≡ true → m.slots i ≡ i
    seat_own i h = (W.clock clock).own i (held_used _ h)

    seat_is : (x : ℕ) → x < held m → (first (sits m x) 0 (entry_count m) ≡ x) × (x < entry_count m)
    seat_is x l =
        let a = W.stocked.seated.slotted.at x in
        let t = W.stocked.seated.slotted.there x (lt-ltb x (held m) l) in
        let z : a ≡ x = sym (seat_own a t.0) ∙ t.1 in
        let h : is_held (m.lists x) ≡ true = ap (λ (i : ℕ). is_held (m.lists i)) (sym z) ∙ t.0 in
        let b : x < entry_count m = below x (entry_count m) (λ g. g) (λ g. absurd (held_used _ h (W.stocked.seated.indexed.canonical.lists x g))) in
        let k = (first_hit (sits m x) 0 (entry_count m) x (omega arith) (omega arith) (both h (eq-eqb _ _ (seat_own x h)))).0 in
        let y = first (sits m x) 0 (entry_count m) in
        (sym (seat_own y (and_left _ _ k)) ∙ eqb-true _ _ (and_right (is_held (m.lists y)) _ k), b)

    clock_pages : (j : ℕ) → pages_on m j ≡ series (page_in ws) (held m) 0
    unfolding pages_on page_in_slot
    clock_pages j = simp clock (series_same (page_in_slot m) (page_in ws) (held m) 0 (λ k g h.
        let e = seat_is k (omega arith) in ap m.pages e.0 ∙ sym (R.holds.at (cell page k) e.1)))

    -- For CLOCK the pages are counted as held.
    pub clock_count : {n : ℕ} (j : ℕ) → Says ws (Gives held n) → n ≡ length (pages_of ws j)
    clock_count j g = (g.of m R).is ∙ sym (ap length (clock_pages j) ∙ length_series (page_in ws) (held m) 0)

    module _ (j : ℕ) {n : ℕ} (en : n ≡ length (pages_of ws j)) where
      all : n ≡ held m
      all = en ∙ ap length (clock_pages j) ∙ length_series (page_in ws) (held m) 0

      -- The entries of the pages may be read.
      pub clock_room : 16 + 8 * n ≤ length ws
      clock_room = below 0 n
          (λ h. omega (arith, all, R.holds.size, (seat_is (n - 1) (omega (arith, all))).1))
          (λ h. omega (arith, R.holds.size))

      -- The first n entries are the list.
      pub clock_written : (result : List ℕ) {result' : List ℕ} → result' ≡ over (series (page_in ws) n 0) result → result' ≡ over (pages_of ws j) result
      clock_written result w = w ∙ ap (λ (L : List ℕ). over L result) (ap (λ (k : ℕ). series (page_in ws) k 0) all ∙ sym (clock_pages j))

  module _ {p : ℕ} {b : Bool} (ep : p ≡ policy_in ws) (eb : b ≡ not (is_clock p)) (c : b ≡ true) (j : ℕ) where
    ordered : is_clock (policy_of m) ≡ false
    ordered = ap (λ (q : ℕ). is_clock q) (sym policy_is ∙ sym ep) ∙ not-true (is_clock p) (sym eb ∙ c)

    listed_pages : pages_on m j ≡ map m.pages (m.order j)
    unfolding pages_on
    listed_pages = simp ordered

    -- For any other policy the pages are counted along the list.
    pub listed_count : {n : ℕ} → Says ws (GivesOf size j n) → n ≡ length (pages_of ws j)
    unfolding size
    listed_count g = (g.of m R).is ∙ sym (ap length listed_pages ∙ length-map (m.order j) m.pages)

    -- The list is copied.
    pub listed_written : {result result' : List ℕ} → Says ws (Copied j result result') → result' ≡ over (pages_of ws j) result
    listed_written {result} g = (g.of m R).is ∙ ap (λ (L : List ℕ). over L result) (sym listed_pages)

    -- The list fits into a buffer that its pages fit into.
    pub listed_fits : {n : ℕ} (result : List ℕ) → (1 ≤ j) × (j ≤ 4) → n ≡ length (pages_of ws j) → n ≤ length result → Says ws (Shorter j (length result))
    unfolding size
    listed_fits result h en g = record {
      of = λ k r. record {
        fits = omega (arith, ap length (sym (order_read ws k r j h) ∙ order_read ws m R j h), en ∙ ap length listed_pages ∙ length-map (m.order j) m.pages);
      };
    }

-- ── The call ──

module _ (ws : List ℕ) (j : ℕ) (buffer : List ℕ) where
  -- The words are not a sound directory.
  pub report_unsound : sound ws ≡ false → ReportedAs ws j buffer (Err Unsound) buffer
  unfolding reported refuse
  report_unsound s = record { answer = simp s; memory = simp s }

  module _ (s : sound ws ≡ true) {p : ℕ} {b : Bool} (ep : p ≡ policy_in ws) (eb : b ≡ is_list p j) where
    uses : b ≡ is_list (policy_of (decode ws)) j
    uses = eb ∙ ap (λ (q : ℕ). is_list q j) (ep ∙ policy_is ws s)

    -- The list is none of the policy's.
    pub report_unlisted : b ≡ false → ReportedAs ws j buffer (Err NoSuchList) buffer
    unfolding reported refuse
    report_unlisted l = let u = sym uses ∙ l in record { answer = simp (s, u); memory = simp (s, u) }

    module _ (l : b ≡ true) {n : ℕ} (en : n ≡ length (pages_of ws j)) where
      -- The buffer is shorter than the list.
      pub report_short : length buffer < n → ReportedAs ws j buffer (Err TooShort) buffer
      unfolding reported refuse
      report_short h =
          let u = sym uses ∙ l in let t = lt-ltb (length buffer) (length (pages_of ws j)) (rw en at h) in
          record { answer = simp (s, u, t); memory = simp (s, u, t) }

      -- The list is written.
      pub report_gives : {result : List ℕ} → n ≤ length buffer → result ≡ over (pages_of ws j) buffer → ReportedAs ws j buffer (Ok n) result
      unfolding reported
      report_gives h w =
          let u = sym uses ∙ l in let t = le-ltb (length buffer) (length (pages_of ws j)) (rw en at h) in
          record { answer = simp (s, u, t) (ap gave en); memory = w ∙ sym (simp (s, u, t)) }
