-- An entry joins the chain of a page or leaves it: the words, the memory and the directory.
use Prim.Native.Nat.{ℕ, ◌+◌, ◌*◌, ◌<◌}
use mathlib.Core.Path.{◌≡◌, refl, ap, ◌∙◌}
use mathlib.Core.Bool.{true, false}
use mathlib.Core.List.{List}
use native.Mathlib.Omega.{arith}
use lib.ListN.{length}
use Rattle.meaning.specs.Neighbours.{NONE, put, has, after, before}
use Rattle.meaning.specs.Layout.{cell_at, bucket_of, chain_col, page_col}
use Rattle.meaning.specs.Mem.{Mem, home, word, hang, unhang, E, bits_in, entry_count, index_bits}
use Rattle.invariants.specs.Places.{page, list, slot, prev, next, chain, mark, spare, Place, top, head, tail, bucket, end, cell, Image, Valid, store, fwd, bwd, store_link, link_at, image, Fine, Ready, Turns}
use Rattle.invariants.proofs.Families.{not_so, beside_real, leave_cell, leave_rim, join_next, join_head}
use Rattle.invariants.proofs.Chained.{bucket_lt}
use Rattle.invariants.proofs.Fine.{put_same, put_other, hang_fine, unhang_fine}
use Rattle.index.specs.Asked.{Bare, Hung}
use Rattle.index.specs.Written.{bucket_on, hung, unhung}
use Rattle.cells.proofs.Stores.{same_holds, stored, link_stored, link_room}

-- the bucket of each entry's page, where entry e has the page p
abbrev keyed : Mem → ℕ → ℕ → ℕ → ℕ
keyed m e p i = home m (put m.pages e p i)

keyed_other : (m : Mem) (e p i : ℕ) → (i ≡ e → ⊥) → keyed m e p i ≡ home m (m.pages i)
keyed_other m e p i n = ap (home m) (put_other m.pages e p i n)

-- entry e, with no page, joins the chain of p: the three stores of `hang` make the memory of `hang`
module _ (m : Mem) (F : Fine m) (e p : ℕ) (he : e < entry_count m) (bare : m.pages e ≡ NONE) where
  hang_stores : Image
  hang_stores = store (store (store (image m) (cell page e) p) (cell chain e) (after (m.chained (home m p)) NONE)) (bucket (home m p)) e

  out : (b : ℕ) → has (m.chained b) e ≡ false
  out b = not_so _ (λ h. F.used b e h bare)

  at_e : keyed m e p e ≡ home m p
  at_e = ap (home m) (put_same m.pages e p)

  hang_image : (q : Place) → Valid (entry_count m) (index_bits m) q → hang_stores q ≡ image (hang e p m) q
  unfolding hang_stores hang
  hang_image (top t) g = refl
  hang_image (head l) g = refl
  hang_image (tail l) g = refl
  hang_image (bucket b) g = join_head (entry_count m) F.few m.chained (λ i. home m (m.pages i)) F.chains e (home m p) he out (keyed m e p) at_e (keyed_other m e p) b
  hang_image end g = refl
  hang_image (cell page i) g = refl
  hang_image (cell list i) g = refl
  hang_image (cell slot i) g = refl
  hang_image (cell prev i) g = refl
  hang_image (cell next i) g = refl
  hang_image (cell chain i) g = join_next (entry_count m) F.few m.chained (λ i. home m (m.pages i)) F.chains e (home m p) he out (keyed m e p) at_e (keyed_other m e p) i g
  hang_image (cell mark i) g = refl
  hang_image (cell spare i) g = refl

pub hang_turns : {e : ℕ} (p : ℕ) {ws ws' : List ℕ} → p < NONE → ws' ≡ hung ws e p → Turns ws ws' (Bare e p) (hang e p)
unfolding hang
hang_turns {e} p {ws} {ws'} hp eq = record {
  to = λ m R o.
      let F = R.fine in let H = R.holds in let he = o.within in
      let b = bucket_lt (index_bits m) p F.bits in
      rw (eq, H.at (top 2) (omega arith), H.at (top 3) (omega arith), H.at (bucket (home m p)) b)
      (let H1 = stored p (cell page e) H he refl in
      let H2 = stored (after (m.chained (home m p)) NONE) (cell chain e) H1 he refl in
      let H3 = stored e (bucket (home m p)) H2 b refl in
      record { holds = same_holds _ _ _ _ H3 (image (hang e p m)) (unfold hang_stores in hang_image m F e p he o.none); fine = hang_fine m F e p he o.none (λ z. omega arith) o.absent });
}

-- entry e leaves its chain: the three stores of `unhang` make the memory of `unhang`
module _ (m : Mem) (F : Fine m) (e : ℕ) (on : has (m.chained (home m (m.pages e))) e ≡ true) where
  unhang_stores : Image
  unhang_stores =
      let b = home m (m.pages e) in
      store (store (store_link (image m) (bucket b) chain (before (m.chained b) e) (after (m.chained b) e)) (cell page e) NONE) (cell chain e) NONE

  unhang_image : (q : Place) → Valid (entry_count m) (index_bits m) q → unhang_stores q ≡ image (unhang e m) q
  unfolding unhang_stores unhang
  unhang_image (top t) g = refl
  unhang_image (head l) g = refl
  unhang_image (tail l) g = refl
  unhang_image (bucket b) g = leave_rim (entry_count m) F.few m.chained (λ i. home m (m.pages i)) F.chains e (home m (m.pages e)) on (keyed m e NONE) (keyed_other m e NONE) fwd b
  unhang_image end g = refl
  unhang_image (cell page i) g = refl
  unhang_image (cell list i) g = refl
  unhang_image (cell slot i) g = refl
  unhang_image (cell prev i) g = refl
  unhang_image (cell next i) g = refl
  unhang_image (cell chain i) g = leave_cell (entry_count m) F.few m.chained (λ i. home m (m.pages i)) F.chains e (home m (m.pages e)) on (keyed m e NONE) (keyed_other m e NONE) fwd i g
  unhang_image (cell mark i) g = refl
  unhang_image (cell spare i) g = refl

  -- the one in front is an entry, or NONE
  pub ahead_real : (before (m.chained (home m (m.pages e))) e ≡ NONE → ⊥) → before (m.chained (home m (m.pages e))) e < entry_count m
  ahead_real = beside_real (entry_count m) F.few m.chained (λ i. home m (m.pages i)) F.chains bwd (home m (m.pages e)) e on

pub unhang_turns : {e a : ℕ} {ws ws' : List ℕ} → ws' ≡ unhung ws e a → Turns ws ws' (Hung e a) (unhang e)
unfolding unhang
unhang_turns {e} {a} {ws} {ws'} eq = record {
  to = λ m R o.
      let F = R.fine in let H = R.holds in let he = o.within in
      let k = home m (m.pages e) in let b = bucket_lt (index_bits m) (m.pages e) F.bits in
      rw (eq, H.at (cell page e) he, H.at (cell chain e) he, H.at (top 2) (omega arith), H.at (top 3) (omega arith), o.behind)
      (let H1 = link_stored (bucket k) chain (before (m.chained k) e) (after (m.chained k) e) H b (ahead_real m F e o.on) F.few refl in
      let H2 = stored NONE (cell page e) H1 he refl in
      let H3 = stored NONE (cell chain e) H2 he refl in
      record { holds = same_holds _ _ _ _ H3 (image (unhang e m)) (unfold unhang_stores in unhang_image m F e o.on); fine = unhang_fine m F e o.on });
}

-- what `unhang` may write
pub hung_room : {ws : List ℕ} {e a r : ℕ} (p b : ℕ) → Ready ws (Hung e a) → p ≡ word ws (cell_at e page_col) → b ≡ bucket_on ws p → r ≡ link_at b chain_col a → r < length ws
hung_room {ws} {e} {a} p b o ep eb er =
    let m = o.mem in let R = o.repr in let he = o.meets.within in let k = home m (m.pages e) in
    rw (er, eb, ep ∙ R.holds.at (cell page e) he, R.holds.at (top 2) (omega arith), R.holds.at (top 3) (omega arith), o.meets.behind)
    (link_room (bucket k) chain (before (m.chained k) e) R.holds (bucket_lt (index_bits m) (m.pages e) R.fine.bits) (ahead_real m R.fine e o.meets.on))

-- where a page's bucket stands, in any directory
pub chain_room : {ws : List ℕ} {ok : Mem → Type 0} {k n b : ℕ} (p : ℕ) → Ready ws ok → k ≡ bits_in ws → n ≡ E ws → b ≡ bucket_of k p → 16 + 8 * n + b < length ws
chain_room {k = k} p o ek en eb =
    let k' = ek ∙ o.repr.holds.at (top 3) (omega arith) in
    let n' = en ∙ o.repr.holds.at (top 2) (omega arith) in
    omega (arith, o.repr.holds.size, n', k', eb ∙ ap (λ (j : ℕ). bucket_of j p) k', bucket_lt (index_bits o.mem) p o.repr.fine.bits)
