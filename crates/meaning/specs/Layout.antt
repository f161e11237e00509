-- Document 01, "What is built", "Directory words" and the table of policies: numbers and places, before any directory.
use Rattle.std.specs.Prelude.{ℕ, zero, suc, ◌+◌, ◌*◌, ◌-◌, ◌/◌, ◌%◌, ◌^◌, Bool, not, ◌&&◌, ◌||◌, eqb, leb, ltb, if◌then◌else◌}

-- What a directory is formed with: words 0, 1, 4 and 5.
pub record Settings : Type 0 where
  pub policy : ℕ
  pub C : ℕ
  pub first : ℕ
  pub second : ℕ

-- Settings by their four numbers: policy, capacity, first and second.
abbrev pub four : ℕ → ℕ → ℕ → ℕ → Settings
four p c f s = record { policy = p; C = c; first = f; second = s }

-- The longest trace in pages, and the longest text in bytes.
abbrev pub longest : ℕ
longest = 65535

-- The policy that keeps marks and a hand, and no order: CLOCK.
abbrev pub is_clock : ℕ → Bool
is_clock policy = eqb policy 2

-- How many lists a policy uses: P and Q of segmented; A1in, Am and A1out of 2Q; T1, T2, B1 and B2 of ARC; one of any other.
unfoldable pub lists_of : ℕ → ℕ
lists_of policy =
    if eqb policy 3 then 2 else
    if eqb policy 4 then 3 else
    if eqb policy 5 then 4 else 1

-- A list that a policy uses.
unfoldable pub is_list : ℕ → ℕ → Bool
is_list policy j = leb 1 j && leb j (lists_of policy)

-- Lists 1 and 2 are of held pages; lists 3 and 4 are of ghosts.
unfoldable pub is_held : ℕ → Bool
is_held j = eqb j 1 || eqb j 2

-- Entries E: C + Kout for 2Q, 2C for ARC, C for any other.
unfoldable pub entries_of : ℕ → ℕ → ℕ → ℕ
entries_of policy C second =
    if eqb policy 4 then C + second else
    if eqb policy 5 then 2 * C else C

-- The least number, from k on, whose power of 2 is at least E; n steps are tried.
unfoldable pub bits_from : ℕ → ℕ → ℕ → ℕ
bits_from zero k E = k
bits_from (suc n) k E = let r = bits_from n (suc k) E in if leb E (2 ^ k) then k else r

-- Index bits k: the least number with 2^k at least E. Ten steps are enough, as E is at most 1,024.
unfoldable pub bits_of : ℕ → ℕ
bits_of E = bits_from 10 0 E

-- The length is exactly 16 + 8E + 2^k words: header, entries, buckets.
unfoldable pub length_for : ℕ → ℕ
length_for E = 16 + 8 * E + 2 ^ bits_of E

-- The length of the words of these settings.
unfoldable pub length_of : Settings → ℕ
length_of s = length_for (entries_of s.policy s.C s.second)

-- The bucket of a page: the top k bits of (page x 2,654,435,769) mod 2^32, and 0 when k is 0.
unfoldable pub bucket_of : ℕ → ℕ → ℕ
bucket_of k page = if eqb k 0 then 0 else (page * 2654435769) % 4294967296 / 2 ^ (32 - k)

-- Entry i has 8 words from 16 + 8i: page, list, slot, previous, next, chain, mark, and a last word. This is where word f of them stands.
abbrev pub cell_at : ℕ → ℕ → ℕ
cell_at i f = 16 + 8 * i + f

-- The eight words of an entry by their names, in their order.
abbrev pub page_col : ℕ
page_col = 0

abbrev pub list_col : ℕ
list_col = 1

abbrev pub slot_col : ℕ
slot_col = 2

abbrev pub previous_col : ℕ
previous_col = 3

abbrev pub next_col : ℕ
next_col = 4

abbrev pub chain_col : ℕ
chain_col = 5

abbrev pub mark_col : ℕ
mark_col = 6

abbrev pub last_col : ℕ
last_col = 7

-- Words 7 and 8 are head and tail of list 1, 9 and 10 of list 2, 11 and 12 of list 3, 13 and 14 of list 4.
abbrev pub head_at : ℕ → ℕ
head_at j = 5 + 2 * j

abbrev pub tail_at : ℕ → ℕ
tail_at j = 6 + 2 * j

-- Buckets stand behind the E entries.
abbrev pub bucket_at : ℕ → ℕ → ℕ
bucket_at E b = 16 + 8 * E + b

-- Policies 3 and 4, whose first setting is a size.
unfoldable pub is_split : ℕ → Bool
is_split policy = eqb policy 3 || eqb policy 4

-- Capacity is 1 to 512, or 2 to 512 for policies 3 and 4.
unfoldable pub least_capacity : ℕ → ℕ
least_capacity policy = if is_split policy then 2 else 1

abbrev pub most_capacity : ℕ
most_capacity = 512

-- The first setting is 1 to C-1 for policies 3 and 4, 0 for any other.
unfoldable pub first_fits : ℕ → ℕ → ℕ → Bool
first_fits policy C first = if is_split policy then leb 1 first && ltb first C else eqb first 0

-- The second setting is 1 to C for 2Q, 0 for any other.
unfoldable pub second_fits : ℕ → ℕ → ℕ → Bool
second_fits policy C second = if eqb policy 4 then leb 1 second && leb second C else eqb second 0

-- Refusal 1: policy is not 1 to 5. Refusal 2: capacity outside its range. Refusal 3: first or second setting outside its range. 0: none of these.
unfoldable pub settings_refusal : ℕ → ℕ → ℕ → ℕ → ℕ
settings_refusal policy C first second =
    if not (leb 1 policy && leb policy 5) then 1 else
    if not (leb (least_capacity policy) C && leb C most_capacity) then 2 else
    if not (first_fits policy C first && second_fits policy C second) then 3 else 0

-- The largest mark of a policy: 1 for CLOCK, 0 for any other.
unfoldable pub mark_limit : ℕ → ℕ
mark_limit policy = if is_clock policy then 1 else 0

-- What one slot counts in ARC's target.
abbrev pub unit : ℕ
unit = 1

-- For a proof that computes: `unfolding open_layout` opens every definition of this file.
unfoldable pub open_layout : Unit {0}
unfolding lists_of is_list is_held entries_of bits_from bits_of length_for length_of bucket_of is_split least_capacity first_fits second_fits settings_refusal mark_limit
open_layout = tt
