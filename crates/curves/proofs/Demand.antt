-- Demand 3: for each capacity up to the largest, what `curve` leaves is what a fresh LRU directory of that capacity counts and then holds.
use Prim.Native.Nat.{ℕ, ◌+◌, ◌-◌, ◌≤◌}
use mathlib.Core.Path.{◌≡◌, sym, ap, ◌∙◌}
use mathlib.Core.List.{List}
use native.Mathlib.Omega.{arith}
use borrow.Author.Tests.{le-ltb, eq-eqb}
use lib.ListN.{length, take, drop, get_or, get_or-append}
use lib.Seq.{take-append-le}
use Rattle.meaning.specs.Base.{series, pad}
use Rattle.meaning.specs.Neighbours.{NONE}
use Rattle.meaning.specs.Layout.{length_of}
use Rattle.meaning.specs.Mem.{words, decode, fresh}
use Rattle.invariants.specs.Ram.{Pages}
use Rattle.meaning.specs.Calls.{gave, Outcome, over, refusal_of, formed, pages_on, Counts, ran, replayed, lru_run, lru_hits, lru_pages, Buffers, curved}
use Rattle.std.specs.Prelude.{Result, Ok}
use Rattle.meaning.specs.declared.Refusal.{Refusal}
use Rattle.meaning.proofs.Injective.{curve_settles}
use Rattle.invariants.proofs.Back.{fresh_sound}
use Rattle.curves.specs.Curve.{CurvedAs}
use Rattle.curves.proofs.PageList.{pages_front}
use Rattle.invariants.proofs.Series.{length_series}
use Rattle.curves.proofs.Counts.{series_get, length_pad, pad_front}
use Rattle.curves.proofs.Projection.{lru_of, accepts, pages_plain}
use Rattle.traces.proofs.Pages.{no_none}
use Rattle.curves.proofs.Answers.{outcome, outcome_done}

-- LRU of capacity c, formed in the buffer b and replayed on the trace t.
abbrev pub replay_of : ℕ → List ℕ → List ℕ → Outcome Counts (List ℕ)
replay_of c b t = replayed (formed (lru_of c) b).left t

-- The pages on the directory's list 1 after that, latest first.
abbrev pub held_after : ℕ → List ℕ → List ℕ → List ℕ
held_after c b t = pages_on (decode (replay_of c b t).left) 1

-- What `curve` left in r and w says of capacity c: result word c-1 is the hits that form and replay count at c; the pages that the directory of capacity c then holds are the front of those of capacity m; and the first c places of work show them. b and B are buffers of the exact length for c and for m.
pub record AtCapacity (m c : ℕ) (t B b r w : List ℕ) : Type 0 where
  pub counts : Counts
  pub forms : (formed (lru_of c) b).said ≡ gave tt
  pub replays : (replay_of c b t).said ≡ gave counts
  pub hits : get_or r (c - 1) 0 ≡ counts.hits
  pub front : held_after c b t ≡ take c (held_after m B t)
  pub places : take c w ≡ pad NONE c (held_after c b t)

module _ (t : List ℕ) (short : length t ≤ 65535) (ps : Pages t) (m : ℕ) (lo : 1 ≤ m) (hi : m ≤ 512) (r w : List ℕ) (room : m ≤ length r) (space : m ≤ length w)
    (a : Result (Unit {0}) Refusal) (r₁ w₁ : List ℕ) (left : CurvedAs m t r w a r₁ w₁) where
  is : curved m t r w ≡ outcome m t r w 0
  is = outcome_done m t r w lo hi short (no_none t ps) room space

  -- The call is done on every allowed trace and capacity, with room.
  pub done : a ≡ Ok tt
  done = curve_settles a (Ok tt) (left.answer ∙ ap (λ (o : Outcome (Unit {0}) Buffers). o.said) is)

  -- Result word c-1 holds the LRU hits at capacity c.
  hits_at : (c : ℕ) → 1 ≤ c → c ≤ m → get_or r₁ (c - 1) 0 ≡ lru_hits t c
  unfolding over
  hits_at c from to =
      let last : c - 1 + 1 ≡ c = omega arith in
      ap (λ (l : List ℕ). get_or l (c - 1) 0) (ap (λ (x : Buffers). x.result) (left.memory ∙ ap (λ (o : Outcome (Unit {0}) Buffers). o.left) is))
      ∙ get_or-append (series (lru_hits t) m 1) (drop (length (series (lru_hits t) m 1)) r) 0 (c - 1) (omega (arith, length_series (lru_hits t) m 1))
      ∙ series_get (lru_hits t) m 1 (c - 1) (omega arith)
      ∙ ap (lru_hits t) last

  -- What LRU of capacity c holds is the front of what it holds at m.
  inner : (c : ℕ) → 1 ≤ c → c ≤ m → lru_pages t c ≡ take c (lru_pages t m)
  inner c from to = pages_plain t c from (omega arith) ps ∙ pages_front c m t to ∙ ap (take c) (sym (pages_plain t m lo hi ps))

  -- The first c places of work show it.
  places_at : (c : ℕ) → 1 ≤ c → c ≤ m → take c w₁ ≡ pad NONE c (lru_pages t c)
  unfolding over
  places_at c from to =
      ap (take c) (ap (λ (x : Buffers). x.work) (left.memory ∙ ap (λ (o : Outcome (Unit {0}) Buffers). o.left) is))
      ∙ take-append-le c (pad NONE m (lru_pages t m)) (drop (length (pad NONE m (lru_pages t m))) w) (omega (arith, length_pad m (lru_pages t m)))
      ∙ pad_front c m (lru_pages t m) to
      ∙ ap (pad NONE c) (sym (inner c from to))

module _ (t : List ℕ) (short : length t ≤ 65535) (ps : Pages t) where
  module _ (c : ℕ) (lo : 1 ≤ c) (hi : c ≤ 512) (b : List ℕ) (exact : length b ≡ length_of (lru_of c)) where
    forms_is : formed (lru_of c) b ≡ record { said = gave tt; left = words (fresh (lru_of c)) }
    unfolding formed refusal_of
    forms_is = simp (accepts c lo hi, eq-eqb (length b) (length_of (lru_of c)) exact)

    replays_is : replay_of c b t ≡ ran (lru_run c t)
    unfolding replayed lru_run
    replays_is =
        ap (λ (o : Outcome (Unit {0}) (List ℕ)). replayed o.left t) forms_is
        ∙ simp (fresh_sound (lru_of c) (accepts c lo hi), le-ltb 65535 (length t) short, no_none t ps)

    held_is : held_after c b t ≡ lru_pages t c
    unfolding ran lru_pages
    held_is = ap (λ (o : Outcome Counts (List ℕ)). pages_on (decode o.left) 1) replays_is

  -- Demand 3, from what `curve` promises: for each capacity c from 1 to the largest, m.
  pub demand3 : (m : ℕ) → 1 ≤ m → m ≤ 512 → (r w : List ℕ) → m ≤ length r → m ≤ length w → (a : Result (Unit {0}) Refusal) (r₁ w₁ : List ℕ) → CurvedAs m t r w a r₁ w₁
      → (B : List ℕ) → length B ≡ length_of (lru_of m) → (c : ℕ) → 1 ≤ c → c ≤ m → (b : List ℕ) → length b ≡ length_of (lru_of c) → AtCapacity m c t B b r₁ w₁
  unfolding ran lru_hits
  demand3 m lo hi r w room space a r₁ w₁ left B large c from to b exact =
      let top : c ≤ 512 = omega arith in
      record {
        counts = (lru_run c t).gathered;
        forms = ap (λ (o : Outcome (Unit {0}) (List ℕ)). o.said) (forms_is c from top b exact);
        replays = ap (λ (o : Outcome Counts (List ℕ)). o.said) (replays_is c from top b exact);
        hits = hits_at t short ps m lo hi r w room space a r₁ w₁ left c from to;
        front = held_is c from top b exact ∙ inner t short ps m lo hi r w room space a r₁ w₁ left c from to ∙ ap (take c) (sym (held_is m lo hi B large));
        places = places_at t short ps m lo hi r w room space a r₁ w₁ left c from to ∙ ap (pad NONE c) (sym (held_is c from top b exact));
      }
