-- Document 01, "Bench sheet": the rows marked *, rows that tell its slips apart, and the figures that it names, as one statement over a list of rows.
use Prim.Native.Nat.{ℕ, ◌+◌}
use mathlib.Core.Bool.{Bool, true, false, ◌&&◌}
use mathlib.Core.List.{List, [], ◌∷◌, ◌++◌, map}
use lib.ListN.{length, replicate}
use lib.Dec.{T, eqb}
use Rattle.meaning.specs.Base.{all, same}
use Rattle.meaning.specs.Neighbours.{NONE}
use Rattle.meaning.specs.Layout.{Settings, four, bucket_of, length_of}
use Rattle.meaning.specs.Mem.{word, words, decode}
use Rattle.meaning.specs.Room.{Kind, hit, loaded, swapped, Reply}
use Rattle.meaning.specs.Rules.{sound}
use Rattle.meaning.specs.Calls.{Said, refused, gave, formed, refusal_of, reported, replayed, Counts, curved, Outcome, Event, ask as asks, happens, run}
use Rattle.meaning.specs.Text.{text_of, Contents, read_text}
use Rattle.meaning.specs.Program.{open_program, programmed, five_lines}

-- A line of a row's script: pages asked for, or what is then seen.
pub data Line : Type 0 where
  ask : List ℕ → Line
  -- the last answers, oldest first
  answers : List Reply → Line
  -- list j, front first
  pages : ℕ → List ℕ → Line
  -- word i
  stands : ℕ → ℕ → Line
  -- hits, loads and swaps of all that was asked, replayed from the start
  counts : ℕ → ℕ → ℕ → Line

pub data Row : Type 0 where
  directory : Settings → List Line → Row
  curve_of : ℕ → List ℕ → List ℕ → List ℕ → Row
  -- the refusal of settings, 0 for none
  settings : Settings → ℕ → Row
  length_is : Settings → ℕ → Row
  buckets_are : ℕ → List ℕ → List ℕ → Row
  -- a text, the room for its pages, the refusal and the line
  wrong_text : List ℕ → ℕ → ℕ → ℕ → Row
  -- a text, its settings and its pages
  example_text : List ℕ → ℕ → ℕ → ℕ → ℕ → List ℕ → Row
  -- what the replay program reads, and what it writes
  program : List ℕ → List ℕ → Row

abbrev hit_in : ℕ → Reply
hit_in s = record { kind = hit; slot = s; out = NONE; cleared = 0 }

abbrev loaded_in : ℕ → Reply
loaded_in s = record { kind = loaded; slot = s; out = NONE; cleared = 0 }

abbrev swapped_in : ℕ → ℕ → ℕ → Reply
swapped_in s out n = record { kind = swapped; slot = s; out = out; cleared = n }

-- The input of document 01's whole example.
abbrev example_input : List ℕ
example_input =
    112 ∷ 111 ∷ 108 ∷ 105 ∷ 99 ∷ 121 ∷ 61 ∷ 49 ∷ 10 ∷ 99 ∷ 97 ∷ 112 ∷ 97 ∷ 99 ∷ 105 ∷ 116 ∷ 121 ∷ 61 ∷ 50 ∷ 10 ∷ 102 ∷ 105 ∷ 114 ∷ 115 ∷ 116 ∷ 61 ∷ 48 ∷ 10 ∷ 115 ∷ 101 ∷ 99 ∷ 111 ∷ 110 ∷ 100 ∷ 61 ∷ 48 ∷ 10 ∷ 99 ∷ 111 ∷ 117 ∷ 110 ∷ 116 ∷ 61 ∷ 52 ∷ 10 ∷ 112 ∷ 97 ∷ 103 ∷ 101 ∷ 61 ∷ 55 ∷ 10 ∷ 112 ∷ 97 ∷ 103 ∷ 101 ∷ 61 ∷ 57 ∷ 10 ∷ 112 ∷ 97 ∷ 103 ∷ 101 ∷ 61 ∷ 55 ∷ 10 ∷ 112 ∷ 97 ∷ 103 ∷ 101 ∷ 61 ∷ 53 ∷ 10 ∷ []

abbrev pub rows : List Row
rows =
    -- S1
    directory (four 1 2 0 0)
    (ask (7 ∷ 9 ∷ 7 ∷ 5 ∷ [])
    ∷ answers (loaded_in 0 ∷ loaded_in 1 ∷ hit_in 0 ∷ swapped_in 1 9 0 ∷ []) ∷ pages 1 (5 ∷ 7 ∷ []) ∷ [])
    -- S2
    ∷ curve_of 5 (1 ∷ 2 ∷ 3 ∷ 4 ∷ 1 ∷ 2 ∷ 5 ∷ 1 ∷ 2 ∷ 3 ∷ 4 ∷ 5 ∷ []) (0 ∷ 0 ∷ 2 ∷ 4 ∷ 7 ∷ []) (5 ∷ 4 ∷ 3 ∷ 2 ∷ 1 ∷ [])
    -- S3
    ∷ directory (four 2 3 0 0) (ask (1 ∷ 2 ∷ 3 ∷ 1 ∷ 4 ∷ 5 ∷ []) ∷ answers (swapped_in 1 2 1 ∷ swapped_in 2 3 0 ∷ []) ∷ stands 6 0 ∷ [])
    -- S4
    ∷ directory (four 2 2 0 0) (ask (1 ∷ 2 ∷ 1 ∷ 2 ∷ 3 ∷ []) ∷ answers (swapped_in 0 1 2 ∷ []) ∷ stands 6 1 ∷ [])
    -- S5
    ∷ directory (four 3 3 1 0) (ask (1 ∷ 2 ∷ 1 ∷ 2 ∷ 3 ∷ 4 ∷ []) ∷ answers (swapped_in 0 1 0 ∷ []) ∷ pages 1 (4 ∷ 3 ∷ []) ∷ pages 2 (2 ∷ []) ∷ [])
    -- S6
    ∷ directory (four 4 3 1 2)
    (ask (1 ∷ 2 ∷ 3 ∷ 4 ∷ 1 ∷ 4 ∷ 5 ∷ 6 ∷ 4 ∷ 7 ∷ []) ∷ counts 1 3 6 ∷ pages 1 (7 ∷ 6 ∷ []) ∷ pages 2 (4 ∷ []) ∷ pages 3 (5 ∷ 3 ∷ []) ∷ [])
    -- S7
    ∷ directory (four 5 2 0 0)
    (ask (1 ∷ 2 ∷ 1 ∷ 3 ∷ 2 ∷ []) ∷ pages 1 (3 ∷ []) ∷ pages 2 (2 ∷ []) ∷ pages 3 [] ∷ pages 4 (1 ∷ []) ∷ stands 6 1
    ∷ ask (1 ∷ []) ∷ pages 1 [] ∷ pages 2 (1 ∷ 2 ∷ []) ∷ pages 3 (3 ∷ []) ∷ pages 4 [] ∷ stands 6 0
    ∷ ask (4 ∷ []) ∷ pages 1 (4 ∷ []) ∷ pages 2 (1 ∷ []) ∷ pages 3 (3 ∷ []) ∷ pages 4 (2 ∷ [])
    ∷ ask (5 ∷ []) ∷ pages 1 (5 ∷ []) ∷ pages 2 (1 ∷ []) ∷ pages 3 (4 ∷ []) ∷ pages 4 (2 ∷ []) ∷ [])
    -- S8
    ∷ directory (four 5 2 0 0) (ask (1 ∷ 2 ∷ 3 ∷ []) ∷ pages 1 (3 ∷ 2 ∷ []) ∷ pages 2 [] ∷ pages 3 [] ∷ pages 4 [] ∷ [])
    -- a tie on p with the page in B2 goes to T1
    ∷ directory (four 5 3 0 0)
    (ask (6 ∷ 6 ∷ 7 ∷ 8 ∷ 5 ∷ 7 ∷ 8 ∷ 6 ∷ []) ∷ answers (swapped_in 1 5 0 ∷ []) ∷ pages 1 [] ∷ pages 2 (6 ∷ 8 ∷ 7 ∷ []) ∷ pages 3 (5 ∷ []) ∷ pages 4 [] ∷ stands 6 1 ∷ [])
    -- p grows by B2/B1 = 2
    ∷ directory (four 5 3 0 0)
    (ask (2 ∷ 2 ∷ 6 ∷ 8 ∷ 5 ∷ 5 ∷ 6 ∷ 3 ∷ 1 ∷ 8 ∷ []) ∷ answers (swapped_in 0 6 0 ∷ [])
    ∷ pages 1 (1 ∷ 3 ∷ []) ∷ pages 2 (8 ∷ []) ∷ pages 3 [] ∷ pages 4 (6 ∷ 5 ∷ 2 ∷ []) ∷ stands 6 3 ∷ [])
    -- all four total 2C: the back of B2 goes
    ∷ directory (four 5 1 0 0) (ask (1 ∷ 1 ∷ 2 ∷ 2 ∷ 3 ∷ []) ∷ pages 1 (3 ∷ []) ∷ pages 2 [] ∷ pages 3 [] ∷ pages 4 (2 ∷ []) ∷ [])
    -- a hit in A1in moves nothing
    ∷ directory (four 4 2 1 1) (ask (1 ∷ 2 ∷ 1 ∷ []) ∷ answers (hit_in 0 ∷ []) ∷ pages 1 (2 ∷ 1 ∷ []) ∷ [])
    -- pages 0 and 5 share bucket 0 of four: the new entry is the front of the chain, and the first is behind it
    ∷ directory (four 1 3 0 0) (ask (0 ∷ 5 ∷ []) ∷ stands 40 1 ∷ stands 21 4294967295 ∷ stands 29 0 ∷ [])
    -- S9
    ∷ directory (four 1 2 0 0) (ask [] ∷ counts 0 0 0 ∷ [])
    ∷ curve_of 3 [] (0 ∷ 0 ∷ 0 ∷ []) (4294967295 ∷ 4294967295 ∷ 4294967295 ∷ [])
    -- S10
    ∷ directory (four 2 1 0 0) (ask (8 ∷ 8 ∷ 9 ∷ []) ∷ answers (swapped_in 0 8 1 ∷ []) ∷ [])
    -- S11
    ∷ settings (four 1 512 0 0) 0 ∷ settings (four 1 513 0 0) 2 ∷ settings (four 3 1 0 0) 2
    -- S12
    ∷ wrong_text [] 4 10 1
    -- a leading zero, a value past 4,294,967,295, and a missing byte 10
    ∷ wrong_text (112 ∷ 111 ∷ 108 ∷ 105 ∷ 99 ∷ 121 ∷ 61 ∷ 48 ∷ 49 ∷ 10 ∷ []) 4 10 1
    ∷ wrong_text (112 ∷ 111 ∷ 108 ∷ 105 ∷ 99 ∷ 121 ∷ 61 ∷ 52 ∷ 50 ∷ 57 ∷ 52 ∷ 57 ∷ 54 ∷ 55 ∷ 50 ∷ 57 ∷ 54 ∷ 10 ∷ []) 4 10 1
    ∷ wrong_text (112 ∷ 111 ∷ 108 ∷ 105 ∷ 99 ∷ 121 ∷ 61 ∷ 52 ∷ 50 ∷ 57 ∷ 52 ∷ 57 ∷ 54 ∷ 55 ∷ 50 ∷ 57 ∷ 53 ∷ 10 ∷ 99 ∷ 97 ∷ 112 ∷ 97 ∷ 99 ∷ 105 ∷ 116 ∷ 121 ∷ 61 ∷ 50 ∷ []) 4 10 2
    -- the whole example, with room for its pages and without; a byte after its end
    ∷ example_text example_input 1 2 0 0 (7 ∷ 9 ∷ 7 ∷ 5 ∷ [])
    -- the replay program on the whole example, on the empty text, and on a capacity of 4,294,967,295
    ∷ program example_input
    (114 ∷ 101 ∷ 102 ∷ 117 ∷ 115 ∷ 101 ∷ 100 ∷ 61 ∷ 48 ∷ 10 ∷ 108 ∷ 105 ∷ 110 ∷ 101 ∷ 61 ∷ 48 ∷ 10 ∷ 104 ∷ 105 ∷ 116 ∷ 115 ∷ 61 ∷ 49 ∷ 10 ∷ 108 ∷ 111 ∷ 97 ∷ 100 ∷ 115 ∷ 61 ∷ 50 ∷ 10 ∷ 115 ∷ 119 ∷ 97 ∷ 112 ∷ 115 ∷ 61 ∷ 49 ∷ 10 ∷ [])
    ∷ program []
    (114 ∷ 101 ∷ 102 ∷ 117 ∷ 115 ∷ 101 ∷ 100 ∷ 61 ∷ 49 ∷ 48 ∷ 10 ∷ 108 ∷ 105 ∷ 110 ∷ 101 ∷ 61 ∷ 49 ∷ 10 ∷ 104 ∷ 105 ∷ 116 ∷ 115 ∷ 61 ∷ 48 ∷ 10 ∷ 108 ∷ 111 ∷ 97 ∷ 100 ∷ 115 ∷ 61 ∷ 48 ∷ 10 ∷ 115 ∷ 119 ∷ 97 ∷ 112 ∷ 115 ∷ 61 ∷ 48 ∷ 10 ∷ [])
    ∷ program
    (112 ∷ 111 ∷ 108 ∷ 105 ∷ 99 ∷ 121 ∷ 61 ∷ 49 ∷ 10 ∷ 99 ∷ 97 ∷ 112 ∷ 97 ∷ 99 ∷ 105 ∷ 116 ∷ 121 ∷ 61 ∷ 52 ∷ 50 ∷ 57 ∷ 52 ∷ 57 ∷ 54 ∷ 55 ∷ 50 ∷ 57 ∷ 53 ∷ 10 ∷ 102 ∷ 105 ∷ 114 ∷ 115 ∷ 116 ∷ 61 ∷ 48 ∷ 10 ∷ 115 ∷ 101 ∷ 99 ∷ 111 ∷ 110 ∷ 100 ∷ 61 ∷ 48 ∷ 10 ∷ 99 ∷ 111 ∷ 117 ∷ 110 ∷ 116 ∷ 61 ∷ 48 ∷ 10 ∷ [])
    (114 ∷ 101 ∷ 102 ∷ 117 ∷ 115 ∷ 101 ∷ 100 ∷ 61 ∷ 50 ∷ 10 ∷ 108 ∷ 105 ∷ 110 ∷ 101 ∷ 61 ∷ 48 ∷ 10 ∷ 104 ∷ 105 ∷ 116 ∷ 115 ∷ 61 ∷ 48 ∷ 10 ∷ 108 ∷ 111 ∷ 97 ∷ 100 ∷ 115 ∷ 61 ∷ 48 ∷ 10 ∷ 115 ∷ 119 ∷ 97 ∷ 112 ∷ 115 ∷ 61 ∷ 48 ∷ 10 ∷ [])
    -- figures: 25 words and 9,232 words, buckets 0 4 1 6
    ∷ length_is (four 1 1 0 0) 25 ∷ length_is (four 5 512 0 0) 9232
    ∷ buckets_are 3 (0 ∷ 1 ∷ 2 ∷ 3 ∷ []) (0 ∷ 4 ∷ 1 ∷ 6 ∷ [])
    ∷ []

-- ── When a row holds ──

-- Of a row so far: the pages asked for and the answers, both latest first, and whether every directory on the way was sound and came back from decode.
pub record Noted : Type 0 where
  pub asked : List ℕ
  pub said : List (Said Reply)
  pub right : Bool

-- A directory's first words, its words so far, and what was noted on the way.
pub record State : Type 0 where
  pub start : List ℕ
  pub left : List ℕ
  pub noted : Noted

abbrev pub kind_no : Kind → ℕ
kind_no hit = 1
kind_no loaded = 2
kind_no swapped = 3

abbrev pub same_reply : Reply → Said Reply → Bool
same_reply a (refused r) = false
same_reply a (gave b) = eqb (kind_no a.kind) (kind_no b.kind) && eqb a.slot b.slot && eqb a.out b.out && eqb a.cleared b.cleared

-- the replies that were expected, against the latest
abbrev pub latest : List Reply → List (Said Reply) → Bool
latest [] said = true
latest (r ∷ rs) [] = false
latest (r ∷ rs) (s ∷ ss) = same_reply r s && latest rs ss

abbrev pub reversed : {A : Type 0} → List A → List A → List A
reversed [] acc = acc
reversed (r ∷ rs) acc = reversed rs (r ∷ acc)

-- sound, and given back by decode
abbrev pub well_kept : List ℕ → Bool
well_kept ws = sound ws && same (words (decode ws)) ws

abbrev pub noting : Noted → Event → Outcome Reply (List ℕ) → Noted
noting n (asks p) o = record { asked = p ∷ n.asked; said = o.said ∷ n.said; right = n.right && well_kept o.left }

abbrev pub asking : State → List ℕ → State
asking st ps =
    let r = run happens noting st.noted st.left (map asks ps) in
    record { start = st.start; left = r.left; noted = r.gathered }

abbrev pub gave_counts : ℕ → ℕ → ℕ → Said Counts → Bool
gave_counts h l s (refused r) = false
gave_counts h l s (gave c) = eqb c.hits h && eqb c.loads l && eqb c.swaps s

abbrev pub gave_number : ℕ → Said ℕ → Bool
gave_number n (refused r) = false
gave_number n (gave k) = eqb k n

abbrev pub was_done : Said (Unit {0}) → Bool
was_done (refused r) = false
was_done (gave u) = true

-- a report answers how many pages these are, gives them, and leaves the last word of the buffer
abbrev pub reports : List ℕ → ℕ → List ℕ → Bool
reports ws j ps =
    let o = reported ws j (replicate (length ps + 1) 77) in
    gave_number (length ps) o.said && same o.left (ps ++ (77 ∷ []))

abbrev pub script : State → List Line → Bool
script st [] = st.noted.right
script st (ask ps ∷ ls) = script (asking st ps) ls
script st (answers rs ∷ ls) = latest (reversed rs []) st.noted.said && script st ls
script st (pages j ps ∷ ls) = reports st.left j ps && script st ls
script st (stands i v ∷ ls) = eqb (word st.left i) v && script st ls
script st (counts h l s ∷ ls) =
    let o = replayed st.start (reversed st.noted.asked []) in
    gave_counts h l s o.said && same o.left st.left && script st ls

abbrev pub curve_holds : ℕ → List ℕ → List ℕ → List ℕ → Bool
curve_holds m trace result work =
    let c = curved m trace (replicate (m + 1) 9) (replicate (m + 1) 9) in
    was_done c.said && same c.left.result (result ++ (9 ∷ [])) && same c.left.work (work ++ (9 ∷ []))

abbrev pub is_wrong : Said Contents → ℕ → ℕ → Bool
is_wrong (refused r) n l = eqb r.number n && eqb r.carried l
is_wrong (gave t) n l = false

abbrev pub is_read : Said Contents → List ℕ → List ℕ → Bool
is_read (refused r) four trace = false
is_read (gave t) four trace = let s = t.settings in same (s.policy ∷ s.C ∷ s.first ∷ s.second ∷ []) four && same t.pages trace

-- it is the writer's, it is read with just enough room, and one page less or one byte more is refused
abbrev pub text_holds : List ℕ → ℕ → ℕ → ℕ → ℕ → List ℕ → Bool
text_holds text p c f g trace =
    same (text_of p c f g trace) text
    && is_read (read_text text (length trace)) (p ∷ c ∷ f ∷ g ∷ []) trace
    && is_wrong (read_text text 3) 8 0
    && is_wrong (read_text (text ++ (10 ∷ [])) (length trace)) 10 (length trace + 6)

abbrev pub holds : Row → Bool
holds (directory s ls) =
    let o = formed s (replicate (length_of s) 77) in
    was_done o.said && script (record { start = o.left; left = o.left; noted = record { asked = []; said = []; right = well_kept o.left } }) ls
holds (curve_of m trace result work) = curve_holds m trace result work
holds (settings s n) = eqb (refusal_of s) n
holds (length_is s n) = eqb (length_of s) n
holds (buckets_are k ps bs) = same (map (bucket_of k) ps) bs
holds (wrong_text text room n l) = is_wrong (read_text text room) n l
holds (example_text text p c f g trace) = text_holds text p c f g trace
holds (program text lines) = same (five_lines (programmed text)) lines

-- Every row holds.
pub bench : T (all holds rows)
unfolding open_program
bench = tt
