-- Document 01, "Sound means all of these": rules a to h over any words. Each quantifier is over the numbers below some number, and each walk is over one link.
use Rattle.std.specs.Prelude.{ℕ, ◌+◌, ◌*◌, ◌^◌, Bool, true, not, ◌&&◌, ◌||◌, List, [], ◌∷◌, length, get_or, eqb, leb, ltb, if◌then◌else◌}
use Rattle.meaning.specs.Base.{all, last_or, every, tally, ◌⇒◌}
use Rattle.meaning.specs.Neighbours.{NONE, has}
use Rattle.meaning.specs.Layout.{is_clock, is_list, is_held, entries_of, bits_of, length_for, bucket_of, settings_refusal, mark_limit, unit, cell_at, head_at, tail_at, bucket_at, last_col, list_col, mark_col, next_col, page_col, previous_col, slot_col, chain_col}
use Rattle.meaning.specs.Mem.{word, linked, E, bits_in, capacity_in, end_in, first_in, policy_in, second_in, word6_in}
use Rattle.meaning.specs.Policies.{open_policies}

-- ── The words of entry i, of any words ──

abbrev pub page_in : List ℕ → ℕ → ℕ
page_in ws i = word ws (cell_at i page_col)

abbrev pub list_in : List ℕ → ℕ → ℕ
list_in ws i = word ws (cell_at i list_col)

abbrev pub slot_in : List ℕ → ℕ → ℕ
slot_in ws i = word ws (cell_at i slot_col)

abbrev pub previous_in : List ℕ → ℕ → ℕ
previous_in ws i = word ws (cell_at i previous_col)

abbrev pub next_in : List ℕ → ℕ → ℕ
next_in ws i = word ws (cell_at i next_col)

abbrev pub mark_in : List ℕ → ℕ → ℕ
mark_in ws i = word ws (cell_at i mark_col)

abbrev pub last_in : List ℕ → ℕ → ℕ
last_in ws i = word ws (cell_at i last_col)

-- Entry i is used; entry i holds a page; entry i is on list j.
abbrev pub used : List ℕ → ℕ → Bool
used ws i = not (eqb (list_in ws i) 0)

abbrev pub holds : List ℕ → ℕ → Bool
holds ws i = is_held (list_in ws i)

abbrev pub on : List ℕ → ℕ → ℕ → Bool
on ws j i = eqb (list_in ws i) j

-- How many entries are on list j, and how many pages are held.
abbrev pub count : List ℕ → ℕ → ℕ
count ws j = tally (E ws) (on ws j)

abbrev pub held_count : List ℕ → ℕ
held_count ws = count ws 1 + count ws 2

-- The entries from the head of list j on, by next; and those from the word of bucket b on, by chain.
abbrev pub list_from : List ℕ → ℕ → List ℕ
list_from ws j = linked ws next_col (word ws (head_at j))

abbrev pub bucket_from : List ℕ → ℕ → List ℕ
bucket_from ws b = linked ws chain_col (word ws (bucket_at (E ws) b))

-- ── a ──

-- At least 16 words; words 0, 1, 4, 5 as form would accept; words 2, 3 and the length as derived.
unfoldable pub rule_a : List ℕ → Bool
rule_a ws =
    leb 16 (length ws)
    && eqb (settings_refusal (policy_in ws) (capacity_in ws) (first_in ws) (second_in ws)) 0
    && eqb (E ws) (entries_of (policy_in ws) (capacity_in ws) (second_in ws))
    && eqb (bits_in ws) (bits_of (E ws))
    && eqb (length ws) (length_for (E ws))

-- ── b ──

-- Word 6 at most C (ARC), below C (CLOCK), 0 otherwise.
unfoldable pub word6_fits : ℕ → ℕ → ℕ → Bool
word6_fits policy C v =
    if eqb policy 5 then leb v (unit * C) else
    if is_clock policy then ltb v C else eqb v 0

-- Word 6 fits; word 15 is 0.
unfoldable pub rule_b : List ℕ → Bool
rule_b ws = word6_fits (policy_in ws) (capacity_in ws) (word6_in ws) && eqb (end_in ws) 0

-- ── c ──

-- A free entry is NONE, 0, NONE, NONE, NONE, NONE, 0, 0.
abbrev pub free_words : List ℕ
free_words = NONE ∷ 0 ∷ NONE ∷ NONE ∷ NONE ∷ NONE ∷ 0 ∷ 0 ∷ []

unfoldable pub is_free : List ℕ → ℕ → Bool
is_free ws i = every 8 (λ f. eqb (word ws (cell_at i f)) (get_or free_words f 0))

-- A page that isn't NONE, a list its policy uses, last word 0, and mark 0, or 0 or 1 for CLOCK.
unfoldable pub is_taken : List ℕ → ℕ → Bool
is_taken ws i =
    not (eqb (page_in ws i) NONE) && is_list (policy_in ws) (list_in ws i)
    && (eqb (last_in ws i) 0 && leb (mark_in ws i) (mark_limit (policy_in ws)))

unfoldable pub entry_right : List ℕ → ℕ → Bool
entry_right ws i = is_free ws i || is_taken ws i

-- Each entry is free as above, or taken.
unfoldable pub rule_c : List ℕ → Bool
rule_c ws = every (E ws) (entry_right ws)

-- ── d ──

-- No number stands twice.
abbrev pub distinct : List ℕ → Bool
distinct [] = true
distinct (x ∷ xs) = not (has xs x) && distinct xs

-- A number below n that passes the test.
abbrev pub within : ℕ → (ℕ → Bool) → ℕ → Bool
within n f e = ltb e n && f e

-- A walk visits only numbers below n that pass the test, each once, and then NONE (else it would be longer than n).
unfoldable pub keeps_to : ℕ → (ℕ → Bool) → List ℕ → Bool
keeps_to n f l = distinct l && all (within n f) l && leb (length l) n

-- Previous leads backwards: from each entry to the one visited before it, from the first to p.
abbrev pub backwards : List ℕ → ℕ → List ℕ → Bool
backwards ws p [] = true
backwards ws p (x ∷ xs) = eqb (previous_in ws x) p && backwards ws x xs

-- From the head, next visits every entry of list j once, the tail last, then NONE; previous is the same backwards; head and tail of an empty or unused list are NONE.
unfoldable pub list_right : List ℕ → ℕ → Bool
list_right ws j =
    keeps_to (E ws) (on ws j) (list_from ws j) && eqb (length (list_from ws j)) (count ws j)
    && (eqb (word ws (tail_at j)) (last_or NONE (list_from ws j)) && backwards ws NONE (list_from ws j))

-- For CLOCK previous and next are NONE and each used entry's slot is its own number.
unfoldable pub clock_right : List ℕ → ℕ → Bool
clock_right ws i = eqb (previous_in ws i) NONE && eqb (next_in ws i) NONE && (used ws i ⇒ eqb (slot_in ws i) i)

-- For CLOCK all heads and tails are NONE.
unfoldable pub end_none : List ℕ → ℕ → Bool
end_none ws h = eqb (word ws (7 + h)) NONE

-- Each list is right; for CLOCK each head, tail and entry.
unfoldable pub rule_d : List ℕ → Bool
rule_d ws =
    if is_clock (policy_in ws) then every 8 (end_none ws) && every (E ws) (clock_right ws)
    else every 4 (λ j. list_right ws (j + 1))

-- ── e ──

-- No earlier entry that passes the test has the same word f as entry i.
abbrev pub unlike : List ℕ → (ℕ → Bool) → ℕ → ℕ → Bool
unlike ws test f i = every i (λ h. test h ⇒ not (eqb (word ws (cell_at h f)) (word ws (cell_at i f))))

unfoldable pub page_new : List ℕ → ℕ → Bool
page_new ws i = used ws i ⇒ unlike ws (used ws) page_col i

-- No page stands in two used entries.
unfoldable pub rule_e : List ℕ → Bool
rule_e ws = every (E ws) (page_new ws)

-- ── f ──

-- With n held pages, a held page's slot is one of 0 to n-1 and no other's; a ghost's slot is NONE.
unfoldable pub slot_right : List ℕ → ℕ → ℕ → Bool
slot_right ws n i =
    if holds ws i then ltb (slot_in ws i) n && unlike ws (holds ws) slot_col i
    else used ws i ⇒ eqb (slot_in ws i) NONE

-- With n held pages, their slots are 0 to n-1, each once; a ghost's slot is NONE.
unfoldable pub rule_f : List ℕ → Bool
rule_f ws = every (E ws) (slot_right ws (held_count ws))

-- ── g ──

-- The bucket of entry i's page, and a used entry of bucket b.
abbrev pub bucket_in : List ℕ → ℕ → ℕ
bucket_in ws i = bucket_of (bits_in ws) (page_in ws i)

abbrev pub of_bucket : List ℕ → ℕ → ℕ → Bool
of_bucket ws b i = used ws i && eqb (bucket_in ws i) b

-- A bucket's chain visits only used entries of that bucket, each once, then NONE.
unfoldable pub chain_right : List ℕ → ℕ → Bool
chain_right ws b = keeps_to (E ws) (of_bucket ws b) (bucket_from ws b)

-- A used entry is visited by its bucket's chain.
unfoldable pub chained : List ℕ → ℕ → Bool
chained ws i = used ws i ⇒ has (bucket_from ws (bucket_in ws i)) i

-- Each bucket's chain visits exactly the used entries of that bucket, each once, then NONE.
unfoldable pub rule_g : List ℕ → Bool
rule_g ws = every (2 ^ bits_in ws) (chain_right ws) && every (E ws) (chained ws)

-- ── h ──

-- For ARC T1+B1 at most C, all four at most 2C, and ghosts only when T1+T2 = C.
unfoldable pub arc_sizes : ℕ → ℕ → ℕ → ℕ → ℕ → Bool
arc_sizes C n1 n2 n3 n4 =
    leb (n1 + n3) C && leb (n1 + n2 + n3 + n4) (2 * C) && (eqb (n3 + n4) 0 || eqb (n1 + n2) C)

-- Held pages at most C; Q at most first; A1out at most Kout; and what ARC asks. n1 to n4 are the sizes of the lists.
unfoldable pub sizes_right : ℕ → ℕ → ℕ → ℕ → ℕ → ℕ → ℕ → ℕ → Bool
sizes_right policy C first second n1 n2 n3 n4 =
    leb (n1 + n2) C &&
    (if eqb policy 3 then leb n2 first else
    if eqb policy 4 then leb n3 second else
    if eqb policy 5 then arc_sizes C n1 n2 n3 n4 else true)

unfoldable pub rule_h : List ℕ → Bool
rule_h ws = sizes_right (policy_in ws) (capacity_in ws) (first_in ws) (second_in ws) (count ws 1) (count ws 2) (count ws 3) (count ws 4)

-- ── All of them ──

-- The first rule that does not hold, 1 to 8, each judged only when the earlier ones hold; or 0.
unfoldable pub broken : List ℕ → ℕ
broken ws =
    if not (rule_a ws) then 1 else if not (rule_b ws) then 2 else if not (rule_c ws) then 3 else if not (rule_d ws) then 4 else
    if not (rule_e ws) then 5 else if not (rule_f ws) then 6 else if not (rule_g ws) then 7 else if not (rule_h ws) then 8 else 0

-- Sound means that no rule is broken.
unfoldable pub sound : List ℕ → Bool
sound ws = eqb (broken ws) 0

-- For a proof that computes: `unfolding open_rules` opens every definition of this file and of the files below it.
unfoldable pub open_rules : Unit {0}
unfolding open_policies rule_a word6_fits rule_b is_free is_taken entry_right rule_c keeps_to list_right clock_right end_none rule_d page_new rule_e slot_right rule_f chain_right chained rule_g arc_sizes sizes_right rule_h broken sound
open_rules = tt
