-- The directory as a value, the words that stand for it, and the operations of the lists and the index on it.
-- Values out of range are canonical: a header word past 6 is 0, an entry past E is free, a list that is none of 1 to 4 and a chain past the buckets are empty.
use Rattle.std.specs.Prelude.{ℕ, zero, suc, ◌+◌, ◌^◌, Bool, not, ◌&&◌, List, [], ◌∷◌, length, get_or, eqb, leb, ltb, if◌then◌else◌}
use Rattle.meaning.specs.Base.{open_base, some, tally, first, find, walk}
use Rattle.meaning.specs.Neighbours.{NONE, put, has, remove, behind, ahead, after, before}
use Rattle.meaning.specs.Layout.{open_layout, Settings, is_held, entries_of, bits_of, bucket_of, cell_at, head_at, bucket_at, page_col, list_col, slot_col, next_col, chain_col, mark_col}

-- A directory: header words 0 to 6; an entry's page, list, slot and mark, by its number; a list's entries, front first; a bucket's chain.
pub record Mem : Type 0 where
  pub tops : ℕ → ℕ
  pub pages : ℕ → ℕ
  pub lists : ℕ → ℕ
  pub slots : ℕ → ℕ
  pub marks : ℕ → ℕ
  pub order : ℕ → List ℕ
  pub chained : ℕ → List ℕ

-- The header words of a directory by their names: 0 policy; 1 C; 2 entries E; 3 index bits k; 4 first; 5 second; 6 the target of ARC, the hand of CLOCK.
abbrev pub policy_of : Mem → ℕ
policy_of m = m.tops 0

abbrev pub capacity_of : Mem → ℕ
capacity_of m = m.tops 1

abbrev pub entry_count : Mem → ℕ
entry_count m = m.tops 2

abbrev pub index_bits : Mem → ℕ
index_bits m = m.tops 3

abbrev pub first_of : Mem → ℕ
first_of m = m.tops 4

abbrev pub second_of : Mem → ℕ
second_of m = m.tops 5

abbrev pub word6_of : Mem → ℕ
word6_of m = m.tops 6

abbrev pub target_of : Mem → ℕ
target_of m = m.tops 6

abbrev pub hand_of : Mem → ℕ
hand_of m = m.tops 6

-- The bucket of a page in this directory.
abbrev pub home : Mem → ℕ → ℕ
home m p = bucket_of (index_bits m) p

-- ── The words that stand for a directory ──

-- The last word of entry i: always 0.
abbrev pub last_word : Mem → ℕ → ℕ
last_word m i = 0

-- Entry i: page, list (0 when free), slot, previous, next, chain, mark, 0. Links are entry numbers or NONE; rest is what follows.
unfoldable pub entry_words : Mem → ℕ → List ℕ → List ℕ
entry_words m i rest =
    m.pages i ∷ m.lists i ∷ m.slots i
    ∷ before (m.order (m.lists i)) i ∷ after (m.order (m.lists i)) i
    ∷ after (m.chained (home m (m.pages i))) i
    ∷ m.marks i ∷ last_word m i ∷ rest

-- The words of n entries from i on.
unfoldable pub entries_from : Mem → ℕ → ℕ → List ℕ → List ℕ
entries_from m i zero rest = rest
entries_from m i (suc n) rest = entry_words m i (entries_from m (suc i) n rest)

-- The words of n buckets from b on: a bucket holds the first entry of its chain.
unfoldable pub buckets_from : Mem → ℕ → ℕ → List ℕ
buckets_from m b zero = []
buckets_from m b (suc n) = after (m.chained b) NONE ∷ buckets_from m (suc b) n

-- Head and tail of list j.
unfoldable pub head_tail : Mem → ℕ → List ℕ → List ℕ
head_tail m j rest = after (m.order j) NONE ∷ before (m.order j) NONE ∷ rest

-- Sixteen header words: 0 policy; 1 C; 2 entries E; 3 index bits k; 4 first; 5 second; 6 target or hand; 7 to 14 heads and tails; 15 always 0. Then the entries, then the buckets.
unfoldable pub words : Mem → List ℕ
words m =
    policy_of m ∷ capacity_of m ∷ entry_count m ∷ index_bits m ∷ first_of m ∷ second_of m ∷ word6_of m
    ∷ head_tail m 1 (head_tail m 2 (head_tail m 3 (head_tail m 4
    (0 ∷ entries_from m 0 (entry_count m) (buckets_from m 0 (2 ^ index_bits m))))))

-- ── The directory that words stand for ──

-- Word i.
abbrev pub word : List ℕ → ℕ → ℕ
word ws i = get_or ws i 0

-- The header words of any words by their names.
abbrev pub policy_in : List ℕ → ℕ
policy_in ws = word ws 0

abbrev pub capacity_in : List ℕ → ℕ
capacity_in ws = word ws 1

abbrev pub E : List ℕ → ℕ
E ws = word ws 2

abbrev pub bits_in : List ℕ → ℕ
bits_in ws = word ws 3

abbrev pub first_in : List ℕ → ℕ
first_in ws = word ws 4

abbrev pub second_in : List ℕ → ℕ
second_in ws = word ws 5

abbrev pub word6_in : List ℕ → ℕ
word6_in ws = word ws 6

abbrev pub end_in : List ℕ → ℕ
end_in ws = word ws 15

-- Word f of entry i, of as many entries as word 2 says; d past them.
unfoldable pub field : List ℕ → ℕ → ℕ → ℕ → ℕ
field ws f d i = if ltb i (E ws) then word ws (cell_at i f) else d

-- Header word t, of words 0 to 6.
unfoldable pub top_of : List ℕ → ℕ → ℕ
top_of ws t = if ltb t 7 then word ws t else 0

-- The entries from e on, by the links in word f of each, up to NONE; one more than E is enough to see a walk that does not end.
abbrev pub linked : List ℕ → ℕ → ℕ → List ℕ
linked ws f e = walk NONE (E ws + 1) (λ i. word ws (cell_at i f)) e

-- The entries of list j, front first: from its head, by next.
unfoldable pub list_of : List ℕ → ℕ → List ℕ
list_of ws j = if leb 1 j && leb j 4 then linked ws next_col (word ws (head_at j)) else []

-- The entries of bucket b: from its word, by chain.
unfoldable pub chain_of : List ℕ → ℕ → List ℕ
chain_of ws b = if ltb b (2 ^ bits_in ws) then linked ws chain_col (word ws (bucket_at (E ws) b)) else []

-- The directory that the words stand for.
unfoldable pub decode : List ℕ → Mem
decode ws = record {
  tops = top_of ws;
  pages = field ws page_col NONE;
  lists = field ws list_col 0;
  slots = field ws slot_col NONE;
  marks = field ws mark_col 0;
  order = list_of ws;
  chained = chain_of ws;
}

-- ── A fresh directory ──

-- The header words of settings: E and k are derived, word 6 is 0.
unfoldable pub settings_top : Settings → ℕ → ℕ
settings_top s t =
    let E = entries_of s.policy s.C s.second in
    if eqb t 0 then s.policy else if eqb t 1 then s.C else if eqb t 2 then E else
    if eqb t 3 then bits_of E else if eqb t 4 then s.first else if eqb t 5 then s.second else 0

-- Every entry free (NONE, 0, NONE, no links, 0, 0), every head, tail and bucket NONE.
unfoldable pub empty : (ℕ → ℕ) → Mem
empty t = record {
  tops = t;
  pages = λ i. NONE;
  lists = λ i. 0;
  slots = λ i. NONE;
  marks = λ i. 0;
  order = λ j. [];
  chained = λ b. [];
}

-- The fresh directory of settings.
unfoldable pub fresh : Settings → Mem
fresh s = empty (settings_top s)

-- ── Reading a directory ──

-- The entry that has a page, or E.
unfoldable pub entry_of : Mem → ℕ → ℕ
entry_of m page = find (entry_count m) m.pages page

-- The list that a page is on, or 0.
unfoldable pub list_on : Mem → ℕ → ℕ
list_on m page = m.lists (entry_of m page)

-- How many entries list j has.
unfoldable pub size : Mem → ℕ → ℕ
size m j = length (m.order j)

-- The entry at the back of list j.
unfoldable pub back : Mem → ℕ → ℕ
back m j = before (m.order j) NONE

-- How many pages are held.
unfoldable pub held : Mem → ℕ
held m = tally (entry_count m) (λ i. is_held (m.lists i))

-- C are held.
unfoldable pub full : Mem → Bool
full m = leb (capacity_of m) (held m)

-- Entry i holds a page in slot s.
abbrev pub sits : Mem → ℕ → ℕ → Bool
sits m s i = is_held (m.lists i) && eqb (m.slots i) s

-- A held page has the slot s.
unfoldable pub taken : Mem → ℕ → Bool
taken m s = some (entry_count m) (sits m s)

-- The lowest free slot.
unfoldable pub free_slot : Mem → ℕ
free_slot m = first (λ s. not (taken m s)) 0 (capacity_of m)

-- The lowest free entry, or E.
unfoldable pub lowest : Mem → ℕ
lowest m = find (entry_count m) m.lists 0

-- ── Changing a directory ──

-- Word 6 becomes v.
unfoldable pub with_word6 : ℕ → Mem → Mem
with_word6 v m = record {
  tops = put m.tops 6 v;
  pages = m.pages;
  lists = m.lists;
  slots = m.slots;
  marks = m.marks;
  order = m.order;
  chained = m.chained;
}

-- The slot of entry e becomes s.
unfoldable pub with_slot : ℕ → ℕ → Mem → Mem
with_slot e s m = record {
  tops = m.tops;
  pages = m.pages;
  lists = m.lists;
  slots = put m.slots e s;
  marks = m.marks;
  order = m.order;
  chained = m.chained;
}

-- The mark of entry e becomes v.
unfoldable pub with_mark : ℕ → ℕ → Mem → Mem
with_mark e v m = record {
  tops = m.tops;
  pages = m.pages;
  lists = m.lists;
  slots = m.slots;
  marks = put m.marks e v;
  order = m.order;
  chained = m.chained;
}

-- Entry e taken off its list: it is on none, and the others keep their order.
unfoldable pub off : ℕ → Mem → Mem
off e m =
    let j = m.lists e in
    let l = remove e (m.order j) in
    record {
      tops = m.tops;
      pages = m.pages;
      lists = put m.lists e 0;
      slots = m.slots;
      marks = m.marks;
      order = put m.order j l;
      chained = m.chained;
    }

-- Entry e put at the front of list j.
unfoldable pub push : ℕ → ℕ → Mem → Mem
push e j m =
    let l = e ∷ m.order j in
    record {
      tops = m.tops;
      pages = m.pages;
      lists = put m.lists e j;
      slots = m.slots;
      marks = m.marks;
      order = put m.order j l;
      chained = m.chained;
    }

-- Entry e given the page p, at the front of the page's chain.
unfoldable pub hang : ℕ → ℕ → Mem → Mem
hang e p m =
    let b = home m p in
    let l = e ∷ m.chained b in
    record {
      tops = m.tops;
      pages = put m.pages e p;
      lists = m.lists;
      slots = m.slots;
      marks = m.marks;
      order = m.order;
      chained = put m.chained b l;
    }

-- Entry e without its page, and off its chain: the chain keeps the order of the rest.
unfoldable pub unhang : ℕ → Mem → Mem
unhang e m =
    let b = home m (m.pages e) in
    let l = remove e (m.chained b) in
    record {
      tops = m.tops;
      pages = put m.pages e NONE;
      lists = m.lists;
      slots = m.slots;
      marks = m.marks;
      order = m.order;
      chained = put m.chained b l;
    }

-- Entry e to the front of list j: a page that moves between lists keeps its entry and its place in the chain.
unfoldable pub to_front : ℕ → ℕ → Mem → Mem
to_front e j m = push e j (off e m)

-- The same, with another slot.
unfoldable pub move_to : ℕ → ℕ → ℕ → Mem → Mem
move_to e j s m = with_slot e s (to_front e j m)

-- Entry e without slot and mark.
unfoldable pub blanked : ℕ → Mem → Mem
blanked e m = with_mark e 0 (with_slot e NONE m)

-- A removed entry becomes free: it leaves its list and its chain, and has no page, slot or mark.
unfoldable pub clear : ℕ → Mem → Mem
clear e m = blanked e (unhang e (off e m))

-- Entry e with a page and a slot, at the front of the page's chain.
abbrev pub filled : ℕ → ℕ → ℕ → Mem → Mem
filled e p s m = with_slot e s (hang e p m)

-- The same, at the front of list j.
unfoldable pub fill : ℕ → ℕ → ℕ → ℕ → Mem → Mem
fill e p j s m = push e j (filled e p s m)

-- A new page takes the lowest free entry and the front of its chain, and the front of list j.
unfoldable pub enter : ℕ → ℕ → ℕ → Mem → Mem
enter p j s m = fill (lowest m) p j s m

-- Entry e is on list j by its word alone: CLOCK keeps no order.
unfoldable pub seat : ℕ → ℕ → Mem → Mem
seat e j m = record {
  tops = m.tops;
  pages = m.pages;
  lists = put m.lists e j;
  slots = m.slots;
  marks = m.marks;
  order = m.order;
  chained = m.chained;
}

-- Entry e of CLOCK with a page and a slot, at the front of the page's chain, on list 1.
abbrev pub fill_seat : ℕ → ℕ → ℕ → Mem → Mem
fill_seat e p s m = seat e 1 (filled e p s m)

-- A new page of CLOCK takes the lowest free entry and the front of its chain, on list 1.
unfoldable pub enter_seat : ℕ → ℕ → Mem → Mem
enter_seat p s m = fill_seat (lowest m) p s m

-- For a proof that computes: `unfolding open_mem` opens every definition of this file and of the files below it.
unfoldable pub open_mem : Unit {0}
unfolding open_base open_layout has remove behind ahead entry_words entries_from buckets_from head_tail words field top_of list_of chain_of decode settings_top empty fresh entry_of list_on size back held full taken free_slot lowest with_word6 with_slot with_mark off push hang unhang to_front move_to blanked clear fill enter seat enter_seat
open_mem = tt
