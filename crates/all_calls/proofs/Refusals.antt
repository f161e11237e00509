-- A refusal changes nothing that was lent, and its number is one of 1 to 10: of every public call's promise, and of every C function's, which so returns 0 exactly if its call gave its answer.
use Prim.Native.Nat.{ℕ, zero, suc, ◌%◌, ◌≤◌}
use native.Mathlib.Nat.{add-mul-mod_self_left, mod-eq_of_lt}
use mathlib.Core.Logic.{◌↔◌}
use mathlib.Core.Path.{◌≡◌, refl, sym, ap, ◌∙◌}
use mathlib.Core.Bool.{Bool, true, false, not, ◌&&◌, ◌||◌, cond, true≢false}
use mathlib.Core.List.{List}
use native.Mathlib.Omega.{arith}
use lib.Dec.{eqb, leb, ltb}
use lib.ListN.{length}
use borrow.Author.Tests.{eq-eqb}
use Rattle.meaning.specs.declared.Refusal.{Refusal as Refusing}
use Rattle.std.specs.Prelude.{Err, if◌then◌else◌}
use Rattle.meaning.specs.Neighbours.{NONE, has}
use Rattle.meaning.specs.Layout.{Settings, four, longest, most_capacity, length_of, is_list, least_capacity, first_fits, second_fits, settings_refusal}
use Rattle.meaning.specs.Mem.{decode, policy_of}
use Rattle.meaning.specs.Room.{Reply}
use Rattle.meaning.specs.Rules.{sound}
use Rattle.meaning.specs.Calls.{Refusal, plain, Said, refused, gave, Outcome, refuse, refusal_of, formed as form, words_for, answered, on_page, requested, slot_of, slot_for, Sight, looked, pages_on, reported, ran, replayed, both, curve_refusal, curved}
use Rattle.meaning.specs.Text.{Accepted, Contents, bad_head, head, Header, header, first_wrong, pages_in, on_pages, on_head, on_text, read_text, read, text_of, wrote}
use Rattle.meaning.proofs.Injective.{not_given}
use Rattle.form_look_report.specs.Forms.{FormedAs}
use Rattle.form_look_report.specs.Reports.{ReportedAs}
use Rattle.policies.specs.Requests.{Requested, SlotGiven}
use Rattle.replay.specs.Replays.{ReplayedAs}
use Rattle.curves.specs.Curve.{CurvedAs}
use Rattle.trace_text.specs.Promises.{ReadAs, WrittenAs}
use Rattle.pagedir.specs.Promises.{number, number_and_line, answers, Told, ToldAnd, Left, single, sight_words, reply_words, count_words, read_words}

-- ── What a definition says ──

-- The call gave its answer.
abbrev pub Gave : {A : Type 0} → Said A → Type 0
Gave (refused r) = ⊥
Gave (gave a) = Unit {0}

-- If it refuses, the number is one of document 01's table.
abbrev pub Numbered : {A : Type 0} → Said A → Type 0
Numbered (refused r) = (1 ≤ r.number) × (r.number ≤ 10)
Numbered (gave a) = Unit {0}

-- If it refuses, what was lent is as it was, and the number is right.
record Still {A L : Type 0} (o : Outcome A L) (lent : L) : Type 0 where
  stays : (r : Refusal) → refused r ≡ o.said → o.left ≡ lent
  numbered : Numbered o.said

-- whichever a test chooses
choose : {A : Type 0} (P : A → Type 0) (b : Bool) {x y : A} → (b ≡ true → P x) → P y → P (if b then x else y)
choose P true h k = h refl
choose P false h k = k

module _ {A L : Type 0} {lent : L} where
  -- a refusal that carries nothing
  denies : (n : ℕ) → 1 ≤ n → n ≤ 10 → Still {A = A} (refuse (plain n) lent) lent
  unfolding refuse
  denies n l h = record { stays = λ r e. refl; numbered = (l, h) }

  -- no refusal
  gives : (a : A) (l : L) → Still (record { said = gave a; left = l }) lent
  gives a l = record { stays = λ r e. absurd (not_given e); numbered = tt }

  -- one or the other
  or : (b : Bool) {x y : Outcome A L} → (b ≡ true → Still x lent) → Still y lent → Still (if b then x else y) lent
  or = choose (λ (o : Outcome A L). Still o lent)

-- a number that is not 0
some : (n : ℕ) → not (eqb n 0) ≡ true → 1 ≤ n
some n t = let z : n ≡ 0 → ⊥ = λ e. true≢false (sym t ∙ ap not (eq-eqb n 0 e)) in omega (arith, z)

-- whichever small number a test chooses
small : (b : Bool) {x y : ℕ} → x ≤ 10 → y ≤ 10 → (if b then x else y) ≤ 10
small b h k = choose (λ (n : ℕ). n ≤ 10) b (λ _. h) k

-- ── The definitions ──

settings_numbered : (S : Settings) → refusal_of S ≤ 10
unfolding refusal_of settings_refusal
settings_numbered S =
    small (not (leb 1 S.policy && leb S.policy 5)) (omega arith)
    (small (not (leb (least_capacity S.policy) S.C && leb S.C most_capacity)) (omega arith)
    (small (not (first_fits S.policy S.C S.first && second_fits S.policy S.C S.second)) (omega arith) (omega arith)))

still_formed : (S : Settings) (ws : List ℕ) → Still (form S ws) ws
unfolding form
still_formed S ws =
    or (not (eqb (refusal_of S) 0)) (λ t. denies (refusal_of S) (some (refusal_of S) t) (settings_numbered S))
    (or (not (eqb (length ws) (length_of S))) (λ _. denies 4 (omega arith) (omega arith)) (gives tt _))

length_numbered : (S : Settings) → Numbered (words_for S)
unfolding words_for
length_numbered S = choose (λ (s : Said ℕ). Numbered s) (not (eqb (refusal_of S) 0)) (λ t. (some (refusal_of S) t, settings_numbered S)) tt

still_requested : (ws : List ℕ) (p : ℕ) → Still (requested ws p) ws
unfolding requested on_page answered
still_requested ws p = or (not (sound ws)) (λ _. denies 5 (omega arith) (omega arith)) (or (eqb p NONE) (λ _. denies 6 (omega arith) (omega arith)) (gives _ _))

still_slot : (ws : List ℕ) (p : ℕ) → Still (slot_for ws p) ws
unfolding slot_for
still_slot ws p = go (requested ws p).said (still_requested ws p)
  where
    go : (s : Said Reply) → Still (record { said = s; left = (requested ws p).left }) ws → Still (record { said = slot_of s; left = (requested ws p).left }) ws
    go (refused r) S = record { stays = λ q e. S.stays r refl; numbered = S.numbered }
    go (gave a) S = gives _ _

look_numbered : (ws : List ℕ) (p : ℕ) → Numbered (looked ws p)
unfolding looked on_page
look_numbered ws p = choose (λ (s : Said Sight). Numbered s) (not (sound ws)) (λ _. (omega arith, omega arith)) (choose (λ (s : Said Sight). Numbered s) (eqb p NONE) (λ _. (omega arith, omega arith)) tt)

still_reported : (ws : List ℕ) (j : ℕ) (b : List ℕ) → Still (reported ws j b) b
unfolding reported
still_reported ws j b =
    let m = decode ws in
    or (not (sound ws)) (λ _. denies 5 (omega arith) (omega arith))
    (or (not (is_list (policy_of m) j)) (λ _. denies 9 (omega arith) (omega arith)) (or (ltb (length b) (length (pages_on m j))) (λ _. denies 8 (omega arith) (omega arith)) (gives _ _)))

still_replayed : (ws t : List ℕ) → Still (replayed ws t) ws
unfolding replayed ran
still_replayed ws t =
    or (not (sound ws)) (λ _. denies 5 (omega arith) (omega arith))
    (or (ltb longest (length t)) (λ _. denies 7 (omega arith) (omega arith)) (or (has t NONE) (λ _. denies 6 (omega arith) (omega arith)) (gives _ _)))

curve_numbered : (m : ℕ) (t : List ℕ) (a b : ℕ) → curve_refusal m t a b ≤ 10
unfolding curve_refusal
curve_numbered m t a b =
    small (not (leb 1 m && leb m most_capacity)) (omega arith)
    (small (ltb longest (length t)) (omega arith) (small (has t NONE) (omega arith) (small (ltb a m || ltb b m) (omega arith) (omega arith))))

still_curved : (m : ℕ) (t r w : List ℕ) → Still (curved m t r w) (both r w)
unfolding curved
still_curved m t r w =
    let n = curve_refusal m t (length r) (length w) in
    or (not (eqb n 0)) (λ z. denies n (some n z) (curve_numbered m t (length r) (length w))) (gives tt _)

pages_numbered : (l : ℕ) (a : Said Contents) → Numbered a → Numbered (on_pages l a)
pages_numbered zero a h = h
pages_numbered (suc l) a h = (omega arith, omega arith)

pick : (b : Bool) (x y : Said Contents) → Numbered x → Numbered y → Numbered (cond b x y)
pick true x y h k = h
pick false x y h k = k

lines_numbered : (room : ℕ) (h : Header) → Numbered (on_head room h)
lines_numbered room (bad_head l) = (omega arith, omega arith)
lines_numbered room (head p c f g n s) =
    let t : Contents = record { settings = four p c f g; pages = pages_in n s } in
    let rest = on_pages (first_wrong n 6 s) (gave t) in
    pick (ltb longest n) (refused (plain 7)) (cond (ltb room n) (refused (plain 8)) rest) (omega arith, omega arith)
    (pick (ltb room n) (refused (plain 8)) rest (omega arith, omega arith) (pages_numbered (first_wrong n 6 s) (gave t) tt))

read_numbered : (text : List ℕ) (room : ℕ) → Numbered (read_text text room)
unfolding read_text
read_numbered text room = pick (ltb longest (length text)) (refused (plain 7)) (on_head room (header text)) (omega arith, omega arith) (lines_numbered room (header text))

still_read : (text t : List ℕ) → Still (read text t) t
unfolding read refuse
still_read text t = go (read_text text (length t)) (read_numbered text (length t))
  where
    go : (a : Said Contents) → Numbered a → Still (on_text a t) t
    go (refused r) h = record { stays = λ q e. refl; numbered = h }
    go (gave c) h = gives _ _

still_wrote : (p c f g : ℕ) (t b : List ℕ) → Still (wrote p c f g t b) b
unfolding wrote
still_wrote p c f g t b = or (ltb longest (length t)) (λ _. denies 7 (omega arith) (omega arith)) (or (ltb (length b) (length (text_of p c f g t))) (λ _. denies 8 (omega arith) (omega arith)) (gives _ _))

-- ── The calls in Rattle ──

-- The one law: an answer that is a refusal, and what was lent.
unchanged : {A L : Type 0} {o : Outcome A L} {lent l : L} (r : Refusal) → Still o lent → refused r ≡ o.said → l ≡ o.left → l ≡ lent
unchanged r S e q = q ∙ S.stays r e

pub form_refused : {s : Settings} {r : Refusing} {ws ws' : List ℕ} → FormedAs s ws (Err r) ws' → ws' ≡ ws
form_refused {s} {ws = ws} x = unchanged _ (still_formed s ws) x.answer x.memory

pub request_refused : {ws ws' : List ℕ} {p : ℕ} {r : Refusing} → Requested ws p (Err r) ws' → ws' ≡ ws
request_refused {ws} {p = p} x = unchanged _ (still_requested ws p) x.answer x.memory

pub slot_refused : {ws ws' : List ℕ} {p : ℕ} {r : Refusing} → SlotGiven ws p (Err r) ws' → ws' ≡ ws
slot_refused {ws} {p = p} x = unchanged _ (still_slot ws p) x.answer x.memory

pub report_refused : {ws b b' : List ℕ} {j : ℕ} {r : Refusing} → ReportedAs ws j b (Err r) b' → b' ≡ b
report_refused {ws} {b} {j = j} x = unchanged _ (still_reported ws j b) x.answer x.memory

pub replay_refused : {ws t ws' : List ℕ} {r : Refusing} → ReplayedAs ws t (Err r) ws' → ws' ≡ ws
replay_refused {ws} {t} x = unchanged _ (still_replayed ws t) x.answer x.memory

pub curve_refused : {m : ℕ} {t b w b' w' : List ℕ} {r : Refusing} → CurvedAs m t b w (Err r) b' w' → both b' w' ≡ both b w
curve_refused {m} {t} {b} {w} x = unchanged _ (still_curved m t b w) x.answer x.memory

pub read_refused : {text t t' : List ℕ} {r : Refusing} → ReadAs text t (Err r) t' → t' ≡ t
read_refused {text} {t} x = unchanged _ (still_read text t) x.answer x.memory

pub write_refused : {s : Settings} {t b b' : List ℕ} {r : Refusing} → WrittenAs s t b (Err r) b' → b' ≡ b
write_refused {s} {t} {b} x = unchanged _ (still_wrote s.policy s.C s.first s.second t b) x.answer x.memory

-- ── The C functions ──

-- What the number returned tells: 0 exactly if the call gave its answer; with any other number all that was lent is as it was.
pub record Returns (k : ℕ) (given kept : Type 0) : Type 0 where
  pub gives : (k ≡ 0) ↔ given
  pub refuses : (k ≡ 0 → ⊥) → kept

-- The one law, of what any call said.
returns : {A P : Type 0} (s : Said A) {k : ℕ} → Numbered s → k ≡ number s → ((r : Refusal) → refused r ≡ s → P) → Returns k (Gave s) P
returns (refused r) h e p = record { gives = (λ z. absurd (omega (arith, h.0, e, z)), λ g. absurd g); refuses = λ z. p r refl }
returns (gave a) h e p = record { gives = (λ z. tt, λ g. e); refuses = λ z. absurd (z e) }

module _ {A : Type 0} {f : A → List ℕ} {code : Said A → ℕ} {r : ℕ} {a a' : List ℕ} where
  -- the answer words of a refusal
  unanswered : {s : Said A} → Told code f s a r a' → (q : Refusal) → refused q ≡ s → a' ≡ a
  unanswered x q e = x.words ∙ sym (ap (λ (s : Said A). answers f s a) e)

  -- a call that lends only them
  told_returns : {s : Said A} {k : ℕ} → Numbered s → k ≡ number s → Told code f s a r a' → Returns k (Gave s) (a' ≡ a)
  told_returns {s} h e x = returns s h e (unanswered x)

  -- one that lends something beside them
  and_returns : {L : Type 0} {o : Outcome A L} {lent left : L} {k : ℕ} → Still o lent → k ≡ number o.said → ToldAnd code f o a r a' left → Returns k (Gave o.said) ((a' ≡ a) × (left ≡ lent))
  and_returns {o = o} S e x = returns o.said S.numbered e (λ q d. (unanswered x.told q d, unchanged q S d x.left))

-- one with no answer words
left_returns : {A L : Type 0} {o : Outcome A L} {lent left : L} {r : ℕ} → Still o lent → Left o r left → Returns r (Gave o.said) (left ≡ lent)
left_returns {o = o} S x = returns o.said S.numbered x.number (λ q d. unchanged q S d x.left)

pub pd_words_returns : (S : Settings) {a a' : List ℕ} {r : ℕ} → Told number single (words_for S) a r a' → Returns r (Gave (words_for S)) (a' ≡ a)
pd_words_returns S x = told_returns (length_numbered S) x.number x

pub pd_form_returns : (S : Settings) (ws : List ℕ) {ws' : List ℕ} {r : ℕ} → Left (form S ws) r ws' → Returns r (Gave (form S ws).said) (ws' ≡ ws)
pd_form_returns S ws x = left_returns (still_formed S ws) x

pub pd_request_returns : (ws : List ℕ) (p : ℕ) {ws' a a' : List ℕ} {r : ℕ} → ToldAnd number reply_words (requested ws p) a r a' ws' → Returns r (Gave (requested ws p).said) ((a' ≡ a) × (ws' ≡ ws))
pd_request_returns ws p x = and_returns (still_requested ws p) x.told.number x

pub pd_look_returns : (ws : List ℕ) (p : ℕ) {a a' : List ℕ} {r : ℕ} → Told number sight_words (looked ws p) a r a' → Returns r (Gave (looked ws p)) (a' ≡ a)
pd_look_returns ws p x = told_returns (look_numbered ws p) x.number x

pub pd_report_returns : (ws : List ℕ) (j : ℕ) (b : List ℕ) {b' a a' : List ℕ} {r : ℕ} → ToldAnd number single (reported ws j b) a r a' b' → Returns r (Gave (reported ws j b).said) ((a' ≡ a) × (b' ≡ b))
pd_report_returns ws j b x = and_returns (still_reported ws j b) x.told.number x

pub pd_replay_returns : (ws t : List ℕ) {ws' a a' : List ℕ} {r : ℕ} → ToldAnd number count_words (replayed ws t) a r a' ws' → Returns r (Gave (replayed ws t).said) ((a' ≡ a) × (ws' ≡ ws))
pd_replay_returns ws t x = and_returns (still_replayed ws t) x.told.number x

pub pd_curve_returns : (m : ℕ) (t b w : List ℕ) {b' w' : List ℕ} {r : ℕ} → Left (curved m t b w) r (both b' w') → Returns r (Gave (curved m t b w).said) (both b' w' ≡ both b w)
pd_curve_returns m t b w x = left_returns (still_curved m t b w) x

pub pd_write_returns : (p c f g : ℕ) (t b : List ℕ) {b' a a' : List ℕ} {r : ℕ} → ToldAnd number single (wrote p c f g t b) a r a' b' → Returns r (Gave (wrote p c f g t b).said) ((a' ≡ a) × (b' ≡ b))
pd_write_returns p c f g t b x = and_returns (still_wrote p c f g t b) x.told.number x

-- the low half of a number and what it carries
low : {A : Type 0} (s : Said A) → Numbered s → number_and_line s % 4294967296 ≡ number s
low (refused r) h = add-mul-mod_self_left r.number 4294967296 r.carried ∙ mod-eq_of_lt (omega (arith, h.1))
low (gave a) h = refl

-- Of pd_read it is the low half.
pub pd_read_returns : (text t : List ℕ) {t' a a' : List ℕ} {r : ℕ} → ToldAnd number_and_line read_words (read text t) a r a' t' → Returns (r % 4294967296) (Gave (read text t).said) ((a' ≡ a) × (t' ≡ t))
pd_read_returns text t x =
    let S = still_read text t in
    and_returns S (ap (λ (n : ℕ). n % 4294967296) x.told.number ∙ low (read text t).said S.numbered) x

-- And what it returns is 0, both halves, exactly if the call gave its answer.
pub pd_read_zero : (text t : List ℕ) {t' a a' : List ℕ} {r : ℕ} → ToldAnd number_and_line read_words (read text t) a r a' t' → (r ≡ 0) ↔ Gave (read text t).said
pd_read_zero text t {r = r} x = go (read text t).said (still_read text t).numbered x.told.number
  where
    go : (s : Said Accepted) → Numbered s → r ≡ number_and_line s → (r ≡ 0) ↔ Gave s
    go (refused q) h e = (λ z. absurd (omega (arith, h.0, e, z)), λ g. absurd g)
    go (gave c) h e = (λ z. tt, λ g. e)
