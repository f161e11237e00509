-- An entry leaves its list or joins one: the words, the memory and the directory.
use Prim.Native.Nat.{ℕ, ◌≤◌, ◌<◌}
use mathlib.Core.Path.{◌≡◌, refl, sym, ap, ◌∙◌, subst}
use mathlib.Core.Bool.{false, ◌&&◌, cond}
use mathlib.Core.List.{List, []}
use mathlib.Core.Logic.{⊎_elim}
use native.Mathlib.Omega.{arith}
use lib.Dec.{eqb}
use lib.ListN.{length}
use Rattle.meaning.specs.Neighbours.{NONE, put, has, after, before}
use Rattle.meaning.specs.Layout.{cell_at, head_at, tail_at, list_col, next_col, previous_col}
use Rattle.meaning.specs.Mem.{Mem, word, off, push, seat, to_front, entry_count, index_bits}
use Rattle.invariants.specs.Places.{page, list, slot, prev, next, chain, mark, spare, Place, top, head, tail, bucket, end, cell, Image, Valid, store, Side, fwd, bwd, other, beside, store_link, link_at, image, Fine, Ready, Turns}
use Rattle.invariants.proofs.Lists.{no_true}
use Rattle.invariants.proofs.Families.{not_so, first_real, join_next, join_prev, join_head, join_tail}
use Rattle.invariants.proofs.Fine.{put_same, put_other, off_fine, push_fine}
use Rattle.cells.specs.Asked.{Within}
use Rattle.links.specs.Asked.{OnList, OffList}
use Rattle.links.specs.Written.{joined, relinked, led}
use Rattle.cells.proofs.Stores.{same_holds, stored, link_stored, link_room}
use Rattle.links.proofs.Leaving.{leave_none, leaves_near, leaves_cell, leaves_rim}
use Rattle.cells.proofs.Single.{plain_fine}

-- an entry of a list with no order becomes idle
unseat_fine : (m : Mem) → Fine m → (e : ℕ) → m.order (m.lists e) ≡ [] → Fine (seat e 0 m)
unfolding seat has
unseat_fine m F e none = plain_fine m F (cell list e) 0 refl (λ l i h. put_other m.lists e 0 i
    (λ z. no_true (ap (λ (L : List ℕ). has L i) (sym none ∙ ap m.order (ap m.lists (sym z) ∙ (F.linked.member l i h).1)) ∙ h)))

-- entry e leaves its list: the five stores of `unlink` make the memory of `off`
module _ (m : Mem) (F : Fine m) (e : ℕ) (o : OnList e m) where
  off_stores : Image
  off_stores =
      let j = m.lists e in let p = before (m.order j) e in let n = after (m.order j) e in
      store (store (store (store_link (store_link (image m) (head j) next p n) (tail j) prev n p) (cell list e) 0) (cell prev e) NONE) (cell next e) NONE

  pub near : (s : Side) → (beside s (m.order (m.lists e)) e ≡ NONE → ⊥) → beside s (m.order (m.lists e)) e < entry_count m
  near = leaves_near (entry_count m) F.few m.order m.lists F.linked e o.within o.on

  off_cell : (s : Side) (i : ℕ) → i < entry_count m
      → cond (eqb i e) NONE (cond (eqb i (beside (other s) (m.order (m.lists e)) e)) (beside s (m.order (m.lists e)) e) (beside s (m.order (m.lists i)) i))
      ≡ beside s ((off e m).order ((off e m).lists i)) i
  unfolding off
  off_cell = leaves_cell (entry_count m) F.few m.order m.lists F.linked e o.within o.on (put m.lists e 0) (put_other m.lists e 0)

  off_rim : (s : Side) (l : ℕ)
      → cond (eqb l (m.lists e) && eqb NONE (beside (other s) (m.order (m.lists e)) e)) (beside s (m.order (m.lists e)) e) (beside s (m.order l) NONE)
      ≡ beside s ((off e m).order l) NONE
  unfolding off
  off_rim = leaves_rim (entry_count m) F.few m.order m.lists F.linked e o.within o.on (put m.lists e 0) (put_other m.lists e 0)

  off_image : (q : Place) → Valid (entry_count m) (index_bits m) q → off_stores q ≡ image (off e m) q
  unfolding off_stores off
  off_image (top t) g = refl
  off_image (head l) g = off_rim fwd l
  off_image (tail l) g = off_rim bwd l
  off_image (bucket b) g = refl
  off_image end g = refl
  off_image (cell page i) g = refl
  off_image (cell list i) g = refl
  off_image (cell slot i) g = refl
  off_image (cell prev i) g = off_cell bwd i g
  off_image (cell next i) g = off_cell fwd i g
  off_image (cell chain i) g = refl
  off_image (cell mark i) g = refl
  off_image (cell spare i) g = refl

  -- off a list with no order: only the entry's own word changes
  unseat : m.order (m.lists e) ≡ [] → seat e 0 m ≡ off e m
  unfolding seat off
  unseat none = ap (λ (l : ℕ → List ℕ). record {
    tops = m.tops;
    pages = m.pages;
    lists = put m.lists e 0;
    slots = m.slots;
    marks = m.marks;
    order = l;
    chained = m.chained;
  })
      (sym (leave_none m.order e (m.lists e) none))

  pub leaves_fine : Fine (off e m)
  leaves_fine = ⊎_elim (off_fine m F e) (λ none. subst Fine (unseat none) (unseat_fine m F e none)) o.on

-- entry e, on no list, joins list j at the front: the five stores of `push_front` make the memory of `push`
module _ (m : Mem) (F : Fine m) (e j : ℕ) (he : e < entry_count m) (idle : m.lists e ≡ 0) where
  push_stores : Image
  push_stores =
      let h = after (m.order j) NONE in
      store (store (store (store (store_link (image m) (tail j) prev h e) (head j) e) (cell list e) j) (cell prev e) NONE) (cell next e) h

  nowhere : (l : ℕ) → has (m.order l) e ≡ false
  nowhere l = not_so _ (λ h. omega (arith, (F.linked.member l e h).1, (F.range l e h).0))

  push_image : (q : Place) → Valid (entry_count m) (index_bits m) q → push_stores q ≡ image (push e j m) q
  unfolding push_stores push
  push_image (top t) g = refl
  push_image (head l) g = join_head (entry_count m) F.few m.order m.lists F.linked e j he nowhere (put m.lists e j) (put_same m.lists e j) (put_other m.lists e j) l
  push_image (tail l) g = join_tail (entry_count m) F.few m.order m.lists F.linked e j he nowhere (put m.lists e j) (put_same m.lists e j) (put_other m.lists e j) l
  push_image (bucket b) g = refl
  push_image end g = refl
  push_image (cell page i) g = refl
  push_image (cell list i) g = refl
  push_image (cell slot i) g = refl
  push_image (cell prev i) g = join_prev (entry_count m) F.few m.order m.lists F.linked e j he nowhere (put m.lists e j) (put_same m.lists e j) (put_other m.lists e j) i g
  push_image (cell next i) g = join_next (entry_count m) F.few m.order m.lists F.linked e j he nowhere (put m.lists e j) (put_same m.lists e j) (put_other m.lists e j) i g
  push_image (cell chain i) g = refl
  push_image (cell mark i) g = refl
  push_image (cell spare i) g = refl

-- the words after `unlink`
abbrev pub unlinked : List ℕ → ℕ → List ℕ
unlinked ws e = relinked (joined ws (word ws (cell_at e list_col)) (word ws (cell_at e previous_col)) (word ws (cell_at e next_col))) e 0 NONE NONE

pub unlink_turns : {e : ℕ} {ws ws' : List ℕ} → ws' ≡ unlinked ws e → Turns ws ws' (OnList e) (off e)
unfolding off
unlink_turns {e} {ws} {ws'} eq = record {
  to = λ m R o.
      let F = R.fine in let H = R.holds in let he = o.within in
      let j = m.lists e in let p = before (m.order j) e in let n = after (m.order j) e in
      rw (eq, H.at (cell list e) he, H.at (cell prev e) he, H.at (cell next e) he)
      (let H1 = link_stored (head j) next p n H o.range (near m F e o bwd) F.few refl in
      let H2 = link_stored (tail j) prev n p H1 o.range (near m F e o fwd) F.few refl in
      let H3 = stored 0 (cell list e) H2 he refl in
      let H4 = stored NONE (cell prev e) H3 he refl in
      let H5 = stored NONE (cell next e) H4 he refl in
      record { holds = same_holds _ _ _ _ H5 (image (off e m)) (unfold off_stores in off_image m F e o); fine = leaves_fine m F e o });
}

-- what `unlink` may write
module _ {ws : List ℕ} {e : ℕ} (j p : ℕ) (o : Ready ws (OnList e)) (ej : j ≡ word ws (cell_at e list_col)) where
  pub on_next : p ≡ word ws (cell_at e previous_col) → link_at (head_at j) next_col p < length ws
  on_next ep =
      let m = o.mem in let R = o.repr in let he = o.meets.within in
      rw (ej ∙ R.holds.at (cell list e) he, ep ∙ R.holds.at (cell prev e) he)
      (link_room (head (m.lists e)) next (before (m.order (m.lists e)) e) R.holds o.meets.range (near m R.fine e o.meets bwd))

  pub on_prev : p ≡ word ws (cell_at e next_col) → link_at (tail_at j) previous_col p < length ws
  on_prev ep =
      let m = o.mem in let R = o.repr in let he = o.meets.within in
      rw (ej ∙ R.holds.at (cell list e) he, ep ∙ R.holds.at (cell next e) he)
      (link_room (tail (m.lists e)) prev (after (m.order (m.lists e)) e) R.holds o.meets.range (near m R.fine e o.meets fwd))

pub push_turns : {e j : ℕ} {ws ws' : List ℕ} → (1 ≤ j) × (j ≤ 4)
    → ws' ≡ relinked (led ws j (word ws (head_at j)) e) e j NONE (word ws (head_at j)) → Turns ws ws' (OffList e) (push e j)
unfolding push
push_turns {e} {j} {ws} {ws'} hj eq = record {
  to = λ m R o.
      let F = R.fine in let H = R.holds in let he = o.within in let h = after (m.order j) NONE in
      rw (eq, H.at (head j) hj)
      (let H1 = link_stored (tail j) prev h e H hj (first_real (entry_count m) F.few m.order m.lists F.linked j) F.few refl in
      let H2 = stored e (head j) H1 hj refl in
      let H3 = stored j (cell list e) H2 he refl in
      let H4 = stored NONE (cell prev e) H3 he refl in
      let H5 = stored h (cell next e) H4 he refl in
      record { holds = same_holds _ _ _ _ H5 (image (push e j m)) (unfold push_stores in push_image m F e j he o.none); fine = push_fine m F e j he o.none hj });
}

-- what `push_front` may write
pub off_prev : {ws : List ℕ} {e : ℕ} (j h : ℕ) → Ready ws (OffList e) → (1 ≤ j) × (j ≤ 4) → h ≡ word ws (head_at j) → link_at (tail_at j) previous_col h < length ws
off_prev {ws} {e} j h o hj eh =
    let m = o.mem in let R = o.repr in
    rw (eh ∙ R.holds.at (head j) hj)
    (link_room (tail j) prev (after (m.order j) NONE) R.holds hj (first_real (entry_count m) R.fine.few m.order m.lists R.fine.linked j))

-- what the steps of `to_front` and `move_to` ask
pub off_after : (e : ℕ) (m : Mem) → Fine m → OnList e m → OffList e (off e m)
unfolding off
off_after e m F o = record { within = o.within; none = put_same m.lists e 0 }

pub front_within : (e j : ℕ) (m : Mem) → Fine m → OnList e m → Within e (to_front e j m)
unfolding to_front push off
front_within e j m F o = record { within = o.within }
