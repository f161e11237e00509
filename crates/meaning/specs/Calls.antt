-- Document 01, "Calls and their refusals": what each call on words says, and the lent words afterwards, on every input. Refusals come first and in document 01's order.
use Rattle.std.specs.Prelude.{ℕ, ◌+◌, Bool, not, ◌&&◌, ◌||◌, List, [], ◌∷◌, ◌++◌, map, length, drop, eqb, leb, ltb, if◌then◌else◌}
use Rattle.meaning.specs.Base.{first, series, pad}
use Rattle.meaning.specs.Neighbours.{NONE, has}
use Rattle.meaning.specs.Layout.{Settings, four, longest, most_capacity, is_clock, is_list, is_held, length_of, settings_refusal}
use Rattle.meaning.specs.Mem.{Mem, words, decode, fresh, entry_of, list_on, held, sits, entry_count, policy_of}
use Rattle.meaning.specs.Room.{Kind, hit, loaded, swapped, Reply}
use Rattle.meaning.specs.Policies.{request}
use Rattle.meaning.specs.Rules.{open_rules, sound}

-- A refusal: its number, and what it carries, the line for 10.
pub record Refusal : Type 0 where
  pub number : ℕ
  pub carried : ℕ

-- A refusal that carries nothing.
abbrev pub plain : ℕ → Refusal
plain n = record { number = n; carried = 0 }

-- A call refuses, or gives its answer.
pub data Said (A : Type 0) : Type 0 where
  refused : Refusal → Said A
  gave : A → Said A

-- What a call said, and how it left what was lent to it.
pub record Outcome (A L : Type 0) : Type 0 where
  pub said : Said A
  pub left : L

-- A refusal returns its number and what it carries, and nothing lent is changed.
unfoldable pub refuse : {A L : Type 0} → Refusal → L → Outcome A L
refuse r lent = record { said = refused r; left = lent }

-- The front of a buffer is overwritten; words past that stay.
unfoldable pub over : List ℕ → List ℕ → List ℕ
over front buffer = front ++ drop (length front) buffer

-- ── Form: 1, 2, 3, 4 ──

-- The refusal of settings, 0 for none.
unfoldable pub refusal_of : Settings → ℕ
refusal_of s = settings_refusal s.policy s.C s.first s.second

-- 4: the length of the lent words is not the exact one. Writes a fresh directory over whatever was there.
unfoldable pub formed : Settings → List ℕ → Outcome (Unit {0}) (List ℕ)
formed s ws =
    if not (eqb (refusal_of s) 0) then refuse (plain (refusal_of s)) ws else
    if not (eqb (length ws) (length_of s)) then refuse (plain 4) ws else
    record { said = gave tt; left = words (fresh s) }

-- The length that form asks: 1, 2, 3.
unfoldable pub words_for : Settings → Said ℕ
words_for s = if not (eqb (refusal_of s) 0) then refused (plain (refusal_of s)) else gave (length_of s)

-- ── Audit: yes exactly if sound; it has no refusal ──

unfoldable pub audited : List ℕ → Bool
audited ws = sound ws

-- ── Request: 5, 6 ──

-- A request on the words of a directory: its answer, and the words after it.
unfoldable pub answered : List ℕ → ℕ → Outcome Reply (List ℕ)
answered ws page =
    let d = request (decode ws) page in
    record { said = gave d.reply; left = words d.mem }

-- What any call checks that is lent words and a page, and then does: 5, the lent words are not a sound directory; 6, a page asked for is NONE.
unfoldable pub on_page : {A : Type 0} → List ℕ → ℕ → A → (Refusal → A) → A
on_page ws page answer refusal =
    if not (sound ws) then refusal (plain 5) else
    if eqb page NONE then refusal (plain 6) else answer

unfoldable pub requested : List ℕ → ℕ → Outcome Reply (List ℕ)
requested ws page = on_page ws page (answered ws page) (λ r. refuse r ws)

-- The slot of a request's answer: a caller that wants only the slot meets every refusal by name.
abbrev pub slot_of : Said Reply → Said ℕ
slot_of (refused r) = refused r
slot_of (gave r) = gave r.slot

unfoldable pub slot_for : List ℕ → ℕ → Outcome ℕ (List ℕ)
slot_for ws page = record { said = slot_of (requested ws page).said; left = (requested ws page).left }

-- ── What is asked in turn ──

-- What may be asked of a directory, and may change it: a request for a page.
pub data Event : Type 0 where
  ask : ℕ → Event

-- The public call that an event is.
unfoldable pub happens : List ℕ → Event → Outcome Reply (List ℕ)
happens ws (ask page) = requested ws page

-- What was gathered on the way, and what was left at the end.
pub record Ran (S W : Type 0) : Type 0 where
  pub gathered : S
  pub left : W

-- Events in turn: each meets what the one before left, and something is gathered from each event and its outcome.
unfoldable pub run : {S W : Type 0} → (W → Event → Outcome Reply W) → (S → Event → Outcome Reply W → S) → S → W → List Event → Ran S W
run answers gather s w [] = record { gathered = s; left = w }
run answers gather s w (e ∷ es) = let o = answers w e in run answers gather (gather s e o) o.left es

-- ── Look: 5, 6. Changes nothing ──

-- Absent, held with the slot, or remembered (on a ghost list).
pub data Sight : Type 0 where
  absent remembered : Sight
  held_in : ℕ → Sight

unfoldable pub sight : Mem → ℕ → Sight
sight m page =
    if is_held (list_on m page) then held_in (m.slots (entry_of m page)) else
    if eqb (list_on m page) 0 then absent else remembered

unfoldable pub looked : List ℕ → ℕ → Said Sight
looked ws page = on_page ws page (gave (sight (decode ws) page)) refused

-- ── Report: 5, 9, 8 ──

-- The page in slot s.
unfoldable pub page_in_slot : Mem → ℕ → ℕ
page_in_slot m s = m.pages (first (sits m s) 0 (entry_count m))

-- The pages of list j, front first. For CLOCK, list 1 is the held pages in slot order.
unfoldable pub pages_on : Mem → ℕ → List ℕ
pages_on m j = if is_clock (policy_of m) then series (page_in_slot m) (held m) 0 else map m.pages (m.order j)

-- 9: the list number is none of the policy's. 8: a buffer shorter than the list. Writes the list's pages and answers how many; words past that stay.
unfoldable pub reported : List ℕ → ℕ → List ℕ → Outcome ℕ (List ℕ)
reported ws j buffer =
    let m = decode ws in
    if not (sound ws) then refuse (plain 5) buffer else
    if not (is_list (policy_of m) j) then refuse (plain 9) buffer else
    if ltb (length buffer) (length (pages_on m j)) then refuse (plain 8) buffer else
    record { said = gave (length (pages_on m j)); left = over (pages_on m j) buffer }

-- ── Replay: 5, 7, 6 ──

-- The counts of hits, loads and swaps.
pub record Counts : Type 0 where
  pub hits : ℕ
  pub loads : ℕ
  pub swaps : ℕ

abbrev pub none : Counts
none = record { hits = 0; loads = 0; swaps = 0 }

-- One more answer of a kind.
unfoldable pub counted : Counts → Kind → Counts
counted c hit = record { hits = c.hits + 1; loads = c.loads; swaps = c.swaps }
counted c loaded = record { hits = c.hits; loads = c.loads + 1; swaps = c.swaps }
counted c swapped = record { hits = c.hits; loads = c.loads; swaps = c.swaps + 1 }

-- One more answer; a refusal counts nothing.
abbrev pub counted_by : Counts → Said Reply → Counts
counted_by c (refused r) = c
counted_by c (gave r) = counted c r.kind

-- The counts after one more event.
unfoldable pub counting : Counts → Event → Outcome Reply (List ℕ) → Counts
counting c e o = counted_by c o.said

-- The requests of a trace in turn, with their counts.
unfoldable pub in_turn : List ℕ → List ℕ → Ran Counts (List ℕ)
in_turn ws trace = run happens counting none ws (map ask trace)

unfoldable pub ran : Ran Counts (List ℕ) → Outcome Counts (List ℕ)
ran r = record { said = gave r.gathered; left = r.left }

-- 7: a trace over 65,535 pages. All pages are checked before the first request.
unfoldable pub replayed : List ℕ → List ℕ → Outcome Counts (List ℕ)
replayed ws trace =
    if not (sound ws) then refuse (plain 5) ws else
    if ltb longest (length trace) then refuse (plain 7) ws else
    if has trace NONE then refuse (plain 6) ws else
    ran (in_turn ws trace)

-- ── Curve: 2, 7, 6, 8 ──

-- What a fresh LRU directory of capacity c does with a trace.
unfoldable pub lru_run : ℕ → List ℕ → Ran Counts (List ℕ)
lru_run c trace = in_turn (words (fresh (four 1 c 0 0))) trace

-- The hits of LRU at capacity c.
unfoldable pub lru_hits : List ℕ → ℕ → ℕ
lru_hits trace c = (lru_run c trace).gathered.hits

-- The LRU list at capacity m, front first.
unfoldable pub lru_pages : List ℕ → ℕ → List ℕ
lru_pages trace m = pages_on (decode (lru_run m trace).left) 1

-- The two buffers that are lent to the curve.
pub record Buffers : Type 0 where
  pub result : List ℕ
  pub work : List ℕ

-- The two as one.
abbrev pub both : List ℕ → List ℕ → Buffers
both result work = record { result = result; work = work }

-- 2: m is not 1 to 512. 7: trace over 65,535 pages. 6: a page is NONE. 8: result or work under m words. 0: none of these.
unfoldable pub curve_refusal : ℕ → List ℕ → ℕ → ℕ → ℕ
curve_refusal m trace room places =
    if not (leb 1 m && leb m most_capacity) then 2 else
    if ltb longest (length trace) then 7 else
    if has trace NONE then 6 else
    if ltb room m || ltb places m then 8 else 0

-- Result word c-1 holds the LRU hits at capacity c, for c from 1 to m. Work's first m words hold the LRU list at capacity m, then NONE. Words past m stay in both.
unfoldable pub curved : ℕ → List ℕ → List ℕ → List ℕ → Outcome (Unit {0}) Buffers
curved m trace result work =
    let n = curve_refusal m trace (length result) (length work) in
    if not (eqb n 0) then refuse (plain n) (both result work) else
    record { said = gave tt; left = both (over (series (lru_hits trace) m 1) result) (over (pad NONE m (lru_pages trace m)) work) }

-- For a proof that computes: `unfolding open_calls` opens every definition of this file and of the files below it.
unfoldable pub open_calls : Unit {0}
unfolding open_rules refuse over refusal_of formed words_for audited answered on_page requested slot_for happens run sight looked page_in_slot pages_on reported counted counting in_turn ran replayed lru_run lru_hits lru_pages curve_refusal curved
open_calls = tt
