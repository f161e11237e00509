-- The pages on list 1 of an LRU directory go as LRU on a plain list of pages: at each request, and so along a trace on the words that each request leaves.
use Prim.Native.Nat.{ℕ, zero, suc, ◌+◌, ◌≤◌, ◌<◌}
use mathlib.Core.Path.{◌≡◌, refl, sym, ap, ◌∙◌, subst}
use mathlib.Core.Bool.{Bool, true, false}
use mathlib.Core.List.{List, [], ◌∷◌, map}
use native.Mathlib.Nat.{add-zero, zero-add, add_assoc}
use native.Mathlib.Omega.{arith}
use borrow.Author.Tests.{eq-eqb, ne_eqb, le-leb, eqb-true, eqb-false, leb-true, leb-false, ltb-true, ltb-false}
use lib.ListN.{length, take, length-map}
use lib.Seq.{take_all}
use lib.Dec.{eqb}
use Rattle.std.specs.Prelude.{if◌then◌else◌}
use Rattle.meaning.specs.Base.{one_if}
use Rattle.meaning.specs.Neighbours.{NONE, put, has, remove, Nodup}
use Rattle.meaning.specs.Layout.{Settings, four, is_held, is_split, least_capacity, first_fits, second_fits, settings_refusal}
use Rattle.meaning.specs.Mem.{Mem, words, decode, settings_top, empty, fresh, entry_of, list_on, size, back, held, full, with_slot, with_mark, off, push, hang, unhang, to_front, blanked, clear, fill, enter, lowest, capacity_of, entry_count, policy_of}
use Rattle.meaning.specs.Room.{Kind, hit, loaded, swapped, Reply, Done, Room, as_it_is, put_out, hit_at, load, enters}
use Rattle.meaning.specs.Lru.{lru_room, lru}
use Rattle.meaning.specs.Policies.{request}
use Rattle.invariants.specs.Proper.{Sits}
use Rattle.invariants.specs.Assumed.{Lru}
use Rattle.invariants.specs.Ram.{Pages}
use Rattle.meaning.specs.Calls.{Outcome, ask, happens, Ran, run, pages_on, Counts, none, counted, counted_by, counting, in_turn, lru_run, lru_hits, lru_pages}
use Rattle.invariants.proofs.Lists.{split, eqb_same, no_true, remove_absent, has_remove}
use Rattle.invariants.proofs.Numbers.{by_test, tally_ext, tally_le}
use Rattle.invariants.proofs.Maps.{member, shows, map_same, map_take}
use Rattle.invariants.proofs.Ends.{back_out_lem}
use Rattle.invariants.proofs.Trip.{decode_indexed}
use Rattle.invariants.proofs.Back.{fresh_whole}
use Rattle.invariants.specs.Whole.{Whole, members}
use Rattle.theorems.proofs.Rooms.{entry_is}
use Rattle.theorems.proofs.Counts.{size_members}
use Rattle.theorems.proofs.Lru.{lru_steps}
use Rattle.theorems.proofs.Whole.{lru_whole, request_whole}
use Rattle.theorems.proofs.Ram.{served_words}
use Rattle.traces.specs.Depth.{depth}
use Rattle.curves.specs.PageList.{erase, to_top, step, list_after, hits_on, pages_of, hits_of}
use Rattle.traces.proofs.Depth.{has_depth}
use Rattle.curves.proofs.PageList.{erase_miss}
use Rattle.curves.proofs.Counts.{hit_long}

-- ---- what a list of entries shows

-- an entry taken out is its page taken out, where no other entry shows that page
map_remove : (f : ℕ → ℕ) (e : ℕ) (L : List ℕ) → Nodup L → ((i : ℕ) → f e ≡ f i → e ≡ i) → map f (remove e L) ≡ erase (f e) (map f L)
unfolding remove Nodup
map_remove f e [] d u = refl
map_remove f e (x ∷ L) d u = split e x
    (λ z t. simp (t, eq-eqb (f e) (f x) (ap f z)) (ap (map f) (remove_absent e L (ap (has L) z ∙ d.0))))
    (λ z t. simp (t, ne_eqb (f e) (f x) (λ y. z (u x y))) (ap (λ (r : List ℕ). f x ∷ r) (map_remove f e L d.1 u)))

-- ---- a request

-- The pages on list 1 of an LRU directory, front first.
abbrev pub shown : Mem → List ℕ
shown m = map m.pages (m.order 1)

-- The answer is a hit.
abbrev pub is_hit : Kind → Bool
is_hit hit = true
is_hit loaded = false
is_hit swapped = false

-- What the answer d to a request for p does to an LRU directory: the pages shown go as LRU on a plain list, and it is a hit exactly if the page stood there.
pub record Goes (m : Mem) (p : ℕ) (d : Done) : Type 0 where
  pub keeps : Lru d.mem
  pub tops : d.mem.tops ≡ m.tops
  pub pages : shown d.mem ≡ step (capacity_of m) p (shown m)
  pub hits : is_hit d.reply.kind ≡ has (shown m) p

no_hit : (b : Bool) → is_hit (if b then loaded else swapped) ≡ false
no_hit true = refl
no_hit false = refl

module _ (m : Mem) (L : Lru m) where
  on_one : (i : ℕ) → has (m.order 1) i ≡ true → (i < entry_count m) × (m.lists i ≡ 1)
  on_one i t = L.proper.seated.indexed.fine.linked.member 1 i t

  once : Nodup (m.order 1)
  once = L.proper.seated.indexed.fine.linked.once 1

  listed : (i : ℕ) → m.lists i ≡ 1 → has (m.order 1) i ≡ true
  listed i l = subst (λ (j : ℕ). has (m.order j) i ≡ true) l (L.proper.ordered.listed i (λ z. omega (arith, z, l)))

  no_none : has (m.order 1) NONE ≡ false
  no_none = by_test (has (m.order 1) NONE) (λ t. absurd (omega (arith, L.proper.seated.indexed.fine.few, (on_one NONE t).0))) (λ t. t)

  -- list 1 has every held page
  length_held : length (shown m) ≡ held m
  unfolding size held is_held members
  length_held =
      length-map (m.order 1) m.pages
      ∙ size_members m L.proper.seated.indexed L.proper.ordered 1 (λ z. omega (arith, z))
      ∙ tally_ext (entry_count m) (λ i. eqb (m.lists i) 1) (λ i. is_held (m.lists i)) (λ i h. split (m.lists i) 0
      (λ z t. ap (λ (j : ℕ). eqb j 1) z ∙ sym (ap is_held z))
      (λ z t. ap (λ (j : ℕ). eqb j 1) (L.one i z) ∙ sym (ap is_held (L.one i z))))

  length_le : length (shown m) ≤ capacity_of m
  unfolding held
  length_le = omega (arith, length_held, L.all, tally_le (entry_count m) (λ i. is_held (m.lists i)))

  module _ (p : ℕ) (hp : p < NONE) where
    -- held: the page stands in the list, and goes to the front
    goes_hit : eqb (list_on m p) 1 ≡ true → Goes m p (lru m p)
    goes_hit t = subst (Goes m p) (sym is) (record { keeps = subst (λ (d : Done). Lru d.mem) is (lru_steps.keeps m p L hp); pages = moves; tops = unfold hit_at to_front push off in refl; hits = unfold hit_at in sym stands })
      where
        e : ℕ
        e = entry_of m p

        is : lru m p ≡ hit_at m e (to_front e 1 m)
        is = unfold lru in simp t

        on : m.lists e ≡ 1
        on = unfold list_on in eqb-true (list_on m p) 1 t

        seen : Sits p (lru m p).reply.slot m
        seen = lru_steps.known m p L hp (unfold hit_at in ap (λ (d : Done). d.reply.kind) is)

        page : m.pages e ≡ p
        page = ap m.pages (entry_is m L.proper.seated.indexed p hp seen.entry seen.page) ∙ seen.page

        stands : has (shown m) p ≡ true
        stands = subst (λ (q : ℕ). has (shown m) q ≡ true) page (shows m.pages (m.order 1) e (listed e on))

        apart : (i : ℕ) → m.pages e ≡ m.pages i → e ≡ i
        apart i = L.proper.seated.indexed.fine.apart e i (λ z. omega (arith, z, page, hp))

        front : (to_front e 1 m).order 1 ≡ e ∷ remove e (m.order 1)
        front = unfold to_front push off in ap (λ (j : ℕ). e ∷ put m.order j (remove e (m.order j)) 1) on

        long : suc (length (erase p (shown m))) ≡ length (shown m)
        long = hit_long p (shown m) (ltb-true (depth p (shown m)) (length (shown m)) (sym (has_depth p (shown m)) ∙ stands))

        moves : shown (hit_at m e (to_front e 1 m)).mem ≡ step (capacity_of m) p (shown m)
        moves = unfold hit_at to_front push off in
            ap (map m.pages) front
            ∙ (λ j. page j ∷ map_remove m.pages e (m.order 1) once apart j)
            ∙ ap (λ (q : ℕ). p ∷ erase q (shown m)) page
            ∙ sym (take_all (capacity_of m) (to_top p (shown m)) (omega (arith, long, length_le)))

    -- not held: the page does not stand in the list
    absent : eqb (list_on m p) 1 ≡ false → has (shown m) p ≡ false
    absent t = by_test (has (shown m) p) (λ h. found (member m.pages (m.order 1) p h)) (λ h. h)
      where
        found : (i : ℕ) × (has (m.order 1) i ≡ true) × (m.pages i ≡ p) → has (shown m) p ≡ false
        found k = absurd (unfold list_on in eqb-false (list_on m p) 1 t
            (ap m.lists (entry_is m L.proper.seated.indexed p hp k.0 k.2) ∙ (on_one k.0 k.1).1))

    untouched : eqb (list_on m p) 1 ≡ false → erase p (shown m) ≡ shown m
    untouched t = erase_miss p (shown m) (ltb-false (depth p (shown m)) (length (shown m)) (sym (has_depth p (shown m)) ∙ absent t))

    -- a page that enters stands first, and the others stay
    entered : (r : Mem) (s : ℕ) → Lru (enter p 1 s r) → shown (enter p 1 s r) ≡ p ∷ shown r
    unfolding enter fill push with_slot hang
    entered r s K = λ j. here j ∷ rest j
      where
        here : put r.pages (lowest r) p (lowest r) ≡ p
        here = simp (eqb_same (lowest r))

        out : has (r.order 1) (lowest r) ≡ false
        out = unfold Nodup in (K.proper.seated.indexed.fine.linked.once 1).0

        rest : map (put r.pages (lowest r) p) (r.order 1) ≡ shown r
        rest = map_same (put r.pages (lowest r) p) r.pages (r.order 1)
            (λ i t. simp (ne_eqb i (lowest r) (λ z. no_true (sym out ∙ ap (has (r.order 1)) (sym z) ∙ t))))

    -- not held, once there is room
    goes_in : (r : Room) → eqb (list_on m p) 1 ≡ false → lru m p ≡ enters r p 1 → r.mem.tops ≡ m.tops
        → p ∷ shown r.mem ≡ step (capacity_of m) p (shown m) → Goes m p (lru m p)
    goes_in r t is same front = subst (Goes m p) (sym is) (record {
      keeps = unfold enters load in stays;
      pages = unfold enters load in entered r.mem r.slot stays ∙ front;
      tops = unfold enters load enter fill push with_slot hang in same;
      hits = unfold enters load in no_hit (eqb r.out NONE) ∙ sym (absent t);
    })
      where
        stays : Lru (enter p 1 r.slot r.mem)
        stays = unfold enters load in subst (λ (d : Done). Lru d.mem) is (lru_steps.keeps m p L hp)

    goes_free : eqb (list_on m p) 1 ≡ false → full m ≡ false → Goes m p (lru m p)
    goes_free t f = goes_in (as_it_is m) t (unfold lru lru_room in simp (t, f)) (unfold as_it_is in refl) (unfold as_it_is in
        ap (λ (S : List ℕ). p ∷ S) (sym (untouched t))
        ∙ sym (take_all (capacity_of m) (to_top p (shown m)) (unfold full in omega (arith, ap length (untouched t), length_held, leb-false (capacity_of m) (held m) f))))

    -- the back put out leaves the front
    goes_full : eqb (list_on m p) 1 ≡ false → full m ≡ true → Goes m p (lru m p)
    goes_full t f = go (capacity_of m) refl L.some
      where
        go : (k : ℕ) → capacity_of m ≡ k → 1 ≤ k → Goes m p (lru m p)
        go zero z h = absurd (omega arith)
        go (suc n) z h = goes_in (put_out m (back m 1)) t (unfold lru lru_room in simp (t, f)) (unfold put_out clear blanked with_mark with_slot unhang off in refl) front
          where
            b : ℕ
            b = back m 1

            long : length (m.order 1) ≡ suc n
            long = unfold full in omega (arith, length-map (m.order 1) m.pages, length_le, length_held, leb-true (capacity_of m) (held m) f)

            out : (has (m.order 1) b ≡ true) × (remove b (m.order 1) ≡ take n (m.order 1))
            out = unfold back in back_out_lem (m.order 1) n long once no_none

            left : (clear b m).order 1 ≡ remove b (m.order 1)
            left = unfold clear blanked with_mark with_slot unhang off in ap (λ (j : ℕ). put m.order j (remove b (m.order j)) 1) (on_one b out.0).1

            still : map (put m.pages b NONE) (remove b (m.order 1)) ≡ map m.pages (remove b (m.order 1))
            still = map_same (put m.pages b NONE) m.pages (remove b (m.order 1)) (λ i h. split i b
                (λ y u. no_true (sym (has_remove b i (m.order 1) ∙ simp u) ∙ h))
                (λ y u. simp u))

            front : p ∷ shown (put_out m b).mem ≡ step (capacity_of m) p (shown m)
            front = unfold put_out clear blanked with_mark with_slot unhang off in
                ap (λ (S : List ℕ). p ∷ S) (ap (map (put m.pages b NONE)) left ∙ still ∙ ap (map m.pages) out.1 ∙ map_take m.pages n (m.order 1))
                ∙ ap (λ (S : List ℕ). take (suc n) (p ∷ S)) (sym (untouched t))
                ∙ ap (λ (k : ℕ). step k p (shown m)) (sym z)

    goes : Goes m p (lru m p)
    goes = by_test (eqb (list_on m p) 1) goes_hit (λ t. by_test (full m) (goes_full t) (goes_free t))

    -- The projection: a request of an LRU directory goes as LRU on the plain list of the pages that it shows.
    pub projection : policy_of m ≡ 1 → Goes m p (request m p)
    unfolding request
    projection z = simp (eq-eqb (policy_of m) 1 z) goes

-- ---- a trace

-- what a run along a trace leaves, of an LRU directory of capacity C that shows S
record Follows (c : Counts) (C : ℕ) (S t : List ℕ) (r : Ran Counts (List ℕ)) : Type 0 where
  hits : r.gathered.hits ≡ c.hits + hits_on C S t
  pages : pages_on (decode r.left) 1 ≡ list_after C S t

adds : (c : Counts) (k : Kind) → (counted c k).hits ≡ c.hits + one_if (is_hit k)
unfolding counted one_if
adds c hit = refl
adds c loaded = sym (add-zero c.hits)
adds c swapped = sym (add-zero c.hits)

follows : (t : List ℕ) (c : Counts) (m : Mem) → Whole m → policy_of m ≡ 1 → Pages t → Follows c (capacity_of m) (shown m) t (run happens counting c (words m) (map ask t))
unfolding run Pages happens counting
follows [] c m W z ps = record {
  hits = sym (add-zero c.hits);
  pages = unfold pages_on in ap (λ (x : Mem). pages_on x 1) (decode_indexed m W.stocked.seated.indexed) ∙ simp z;
}
follows (p ∷ t) c m W z ps =
    let k = (request m p).reply.kind in
    let g = projection m (lru_whole m W z) p ps.0 z in
    let next = follows t (counted c k) (request m p).mem (request_whole m p W ps.0) (ap (λ (f : ℕ → ℕ). f 0) g.tops ∙ z) ps.1 in
    subst (λ (o : Outcome Reply (List ℕ)). Follows c (capacity_of m) (shown m) (p ∷ t) (run happens counting (counted_by c o.said) o.left (map ask t))) (sym (served_words m p W ps.0)) (record {
      hits = next.hits
          ∙ (λ j. (adds c k ∙ ap (λ (b : Bool). c.hits + one_if b) g.hits) j + hits_on (g.tops j 1) (g.pages j) t)
          ∙ add_assoc c.hits (one_if (has (shown m) p)) (hits_on (capacity_of m) (step (capacity_of m) p (shown m)) t);
      pages = next.pages ∙ (λ j. list_after (g.tops j 1) (g.pages j) t);
    })

-- ---- from a fresh directory

-- what LRU of capacity c is formed with
abbrev pub lru_of : ℕ → Settings
lru_of c = four 1 c 0 0

-- which form accepts
pub accepts : (c : ℕ) → 1 ≤ c → c ≤ 512 → settings_refusal 1 c 0 0 ≡ 0
unfolding settings_refusal is_split least_capacity first_fits second_fits
accepts c lo hi = simp (le-leb 1 c lo, le-leb c 512 hi)

-- The hits that a fresh LRU directory of capacity c counts are those of LRU on a plain list.
pub hits_plain : (t : List ℕ) (c : ℕ) → 1 ≤ c → c ≤ 512 → Pages t → lru_hits t c ≡ hits_of t c
unfolding lru_hits lru_run in_turn fresh empty settings_top
hits_plain t c lo hi ps = (follows t none (fresh (lru_of c)) (fresh_whole (lru_of c) (accepts c lo hi)) refl ps).hits ∙ zero-add (hits_of t c)

-- The pages that it then holds are those of LRU on a plain list.
pub pages_plain : (t : List ℕ) (c : ℕ) → 1 ≤ c → c ≤ 512 → Pages t → lru_pages t c ≡ pages_of c t
unfolding lru_pages lru_run in_turn fresh empty settings_top
pages_plain t c lo hi ps = (follows t none (fresh (lru_of c)) (fresh_whole (lru_of c) (accepts c lo hi)) refl ps).pages
