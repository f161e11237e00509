-- Never the wrong slot, of the public calls: from what `form`, `request` and `look` promise, over any history of one directory.
use Prim.Native.Nat.{ℕ, ◌≤◌, ◌<◌}
use mathlib.Core.Path.{◌≡◌, refl, sym, ap, ◌∙◌, subst}
use mathlib.Core.Bool.{Bool, true, false}
use mathlib.Core.List.{List, [], ◌∷◌, map}
use mathlib.Core.Logic.{◌↔◌}
use native.Mathlib.Omega.{arith}
use lib.Dec.{eqb}
use lib.ListN.{length}
use borrow.Author.Tests.{ne_eqb, eqb-true, le-leb}
use Rattle.meaning.specs.declared.Answer.{Answer}
use Rattle.meaning.specs.declared.Looked.{Looked}
use Rattle.std.specs.Prelude.{Result, Ok}
use Rattle.meaning.specs.declared.Refusal.{Refusal}
use Rattle.meaning.specs.Base.{all}
use Rattle.meaning.specs.Neighbours.{NONE}
use Rattle.meaning.specs.Layout.{Settings, length_of}
use Rattle.meaning.specs.Mem.{words, decode, fresh, empty, settings_top, capacity_of}
use Rattle.meaning.specs.Room.{Reply}
use Rattle.meaning.specs.Policies.{request}
use Rattle.meaning.specs.Rules.{sound}
use Rattle.meaning.specs.Calls.{plain, Said, refused, gave, Outcome, refuse, refusal_of, formed as form, on_page, requested, Event, ask, happens, Ran, run, Sight, held_in, sight, looked}
use Rattle.meaning.specs.Answers.{request_says, look_says}
use Rattle.invariants.specs.Proper.{Sits}
use Rattle.invariants.proofs.Back.{whole_sound}
use Rattle.invariants.proofs.Lists.{split}
use Rattle.invariants.proofs.Tests.{both}
use Rattle.invariants.proofs.Trip.{decode_indexed}
use Rattle.meaning.proofs.Injective.{not_given}
use Rattle.sound.proofs.Door.{door, sound_words}
use Rattle.theorems.specs.Safe.{fits, ram_by, loading, RightSaid, Stands}
use Rattle.theorems.proofs.Whole.{request_whole}
use Rattle.theorems.proofs.Ram.{whole_safe, served_words, event_right, fresh_stands, always_stands}
use Rattle.form_look_report.specs.Forms.{FormedAs}
use Rattle.form_look_report.specs.Looks.{LookedAs}
use Rattle.policies.specs.Requests.{Requested}
use Rattle.policies.specs.History.{Call, asked, event_of, said_by, left_by, Promised, History, told}

-- ── A history is a run of what its events mean ──

-- what a call that keeps its promise said and left
kept : (ws : List ℕ) (t : Call) → Promised ws t → happens ws (event_of t) ≡ record { said = said_by t; left = left_by t }
unfolding Promised happens event_of said_by left_by
kept ws (asked p a l) h = λ i. record { said = sym h.1.answer i; left = sym h.1.memory i }

-- What a history gathers, and the words that it comes to, are those of the run of its events.
pub history_run : {S : Type 0} (gather : S → Event → Said Reply → S) (ts : List Call) (s : S) (ws ws' : List ℕ) → History ws ts ws'
    → run happens (λ x e o. gather x e o.said) s ws (map event_of ts) ≡ record { gathered = told gather s ts; left = ws' }
unfolding run History told
history_run gather [] s ws ws' h = λ i. record { gathered = s; left = sym h i }
history_run gather (t ∷ ts) s ws ws' h =
    ap (λ (o : Outcome Reply (List ℕ)). run happens (λ x e o. gather x e o.said) (gather s (event_of t) o.said) o.left (map event_of ts)) (kept ws t h.0)
    ∙ history_run gather ts (gather s (event_of t) (said_by t)) (left_by t) ws' h.1

-- Its pages are words of 32 bits.
history_fits : (ts : List Call) (ws ws' : List ℕ) → History ws ts ws' → all fits (map event_of ts) ≡ true
unfolding History Promised fits event_of left_by
history_fits [] ws ws' h = refl
history_fits (asked p a l ∷ ts) ws ws' h = both (le-leb p NONE h.0.0) (history_fits ts l ws' h.1)

-- ── From form on ──

-- A directory that was formed is the fresh one of accepted settings.
fresh_is : {s : Settings} {before ws : List ℕ} → FormedAs s before (Ok (tt {0})) ws → (refusal_of s ≡ 0) × (ws ≡ words (fresh s))
unfolding form refuse
fresh_is {s} {before} {ws} x = go (eqb (refusal_of s) 0) refl (eqb (length before) (length_of s)) refl
  where
    go : (a : Bool) → eqb (refusal_of s) 0 ≡ a → (b : Bool) → eqb (length before) (length_of s) ≡ b → (refusal_of s ≡ 0) × (ws ≡ words (fresh s))
    go false h b k = absurd (not_given {r = plain (refusal_of s)} (sym (x.answer ∙ simp h)))
    go true h false k = absurd (not_given {r = plain 4} (sym (x.answer ∙ simp (h, k))))
    go true h true k = (eqb-true _ 0 h, x.memory ∙ simp (h, k))

module _ {s : Settings} {before ws : List ℕ} (x : FormedAs s before (Ok (tt {0})) ws) (ts : List Call) {ws' : List ℕ} (h : History ws ts ws') (ram : ℕ → ℕ) where
  stands : Stands s (told ram_by ram ts) ws'
  unfolding loading refusal_of
  stands =
      let k = fresh_is x in
      let from = subst (Stands s ram) (sym k.1) (fresh_stands s k.0 ram) in
      let to = always_stands s ram ws from (map event_of ts) (history_fits ts ws ws' h) in
      subst (λ (r : Ran (ℕ → ℕ) (List ℕ)). Stands s r.gathered r.left) (history_run ram_by ts ram ws ws' h) to

  -- After a form that was done, whatever RAM held, and any history: every answer of `request` is right. Its slot is one of the C, a Hit names one that holds that very page, and only NONE is refused, with 6.
  pub calls_never_wrong : {q : ℕ} {a : Result Answer Refusal} {l : List ℕ} → q ≤ NONE → Requested ws' q a l → RightSaid s.C (told ram_by ram ts) (ask q) (request_says a)
  unfolding happens fits
  calls_never_wrong {q} {a} {l} hq y =
      subst (RightSaid s.C (told ram_by ram ts) (ask q)) (sym y.answer) (event_right s (told ram_by ram ts) ws' stands (ask q) (le-leb q NONE hq))

  -- A request for NONE is refused with 6 and changes nothing.
  pub none_changes_nothing : {a : Result Answer Refusal} {l : List ℕ} → Requested ws' NONE a l → (request_says a ≡ refused (plain 6)) × (l ≡ ws')
  unfolding requested on_page refuse
  none_changes_nothing y =
      let t : sound ws' ≡ true = ap sound stands.is ∙ whole_sound stands.mem stands.whole in
      (y.answer ∙ simp t, y.memory ∙ simp t)

  -- `look` says Held with slot n exactly if the page is held there.
  pub looks_both_ways : {q : ℕ} {a : Result Looked Refusal} → q < NONE → LookedAs ws' q a → (n : ℕ) → (look_says a ≡ gave (held_in n)) ↔ Sits q n (decode ws')
  unfolding looked on_page
  looks_both_ways {q} {a} hq y n =
      let m = stands.mem in
      let W = stands.whole in
      let back : decode ws' ≡ m = ap decode stands.is ∙ decode_indexed m W.stocked.seated.indexed in
      let seen : look_says a ≡ gave (sight m q) = y.answer ∙ ap (λ (v : List ℕ). looked v q) stands.is ∙ simp (whole_sound m W, ne_eqb q NONE (λ z. omega (arith, z)), decode_indexed m W.stocked.seated.indexed) in
      let L = (whole_safe m W).look q n hq in (
        λ e. subst (Sits q n) (sym back) (L.0 (same_sight (sym seen ∙ e))),
        λ S. seen ∙ ap gave (L.1 (subst (Sits q n) back S)),
      )
    where
      same_sight : {x y : Sight} → gave x ≡ gave y → x ≡ y
      same_sight e = cc

  -- And then that slot is one of the C and holds that very page.
  pub looks_never_wrong : {q : ℕ} {a : Result Looked Refusal} → q < NONE → LookedAs ws' q a → (n : ℕ) → look_says a ≡ gave (held_in n) → (n < s.C) × (told ram_by ram ts n ≡ q)
  unfolding fresh empty settings_top
  looks_never_wrong {q} {a} hq y n e =
      let m = stands.mem in
      let capacity : capacity_of m ≡ s.C = stands.header 1 (omega arith) in
      let S = subst (Sits q n) (ap decode stands.is ∙ decode_indexed m stands.whole.stocked.seated.indexed) ((looks_both_ways hq y n).0 e) in
      (omega (arith, (whole_safe m stands.whole).within q n S, capacity), stands.right q n S)

-- ── Sound in, sound out ──

-- From what `request` promises: sound words stay sound.
pub request_stays_sound : {ws ws' : List ℕ} {q : ℕ} {a : Result Answer Refusal} → sound ws ≡ true → q ≤ NONE → Requested ws q a ws' → sound ws' ≡ true
unfolding requested on_page refuse
request_stays_sound {ws} {ws'} {q} {a} s hq y = split q NONE
    (λ z t. ap sound (y.memory ∙ simp (s, t)) ∙ s)
    (λ z t.
    let W = (door ws s).1 in
    let h : q < NONE = omega (arith, z) in
    let left : ws' ≡ words (request (decode ws) q).mem = y.memory ∙ ap (λ (v : List ℕ). (requested v q).left) (sym (sound_words ws s)) ∙ ap (λ (o : Outcome Reply (List ℕ)). o.left) (served_words (decode ws) q W h) in
    ap sound left ∙ whole_sound (request (decode ws) q).mem (request_whole (decode ws) q W h))
