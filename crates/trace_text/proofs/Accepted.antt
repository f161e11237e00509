-- Which texts are accepted, which line is named, and that what is written is what is read.
use Prim.Native.Nat.{ℕ, zero, suc, ◌+◌, ◌≤◌, ◌<◌}
use mathlib.Core.Logic.{◌↔◌, inl, inr}
use mathlib.Core.Path.{◌≡◌, refl, sym, ap, ◌∙◌, subst}
use mathlib.Core.List.{List, [], ◌∷◌}
use lib.ListN.{length, get_or, take, length-append}
use lib.Seq.{take_at}
use native.Mathlib.Omega.{arith}
use Rattle.std.specs.Prelude.{Result, Ok}
use Rattle.meaning.specs.Layout.{four}
use Rattle.meaning.specs.Calls.{Refusal, plain, Said, refused, gave, over}
use Rattle.meaning.specs.Text.{line_of, page_lines, head_lines, text_of, page_key, policy_key, capacity_key, first_key, second_key, count_key, line, bad_head, head, header, first_wrong, Contents, wrong_line, read_text, on_text, read}
use Rattle.meaning.specs.declared.Accepted.{Accepted as Taken}
use Rattle.meaning.specs.declared.Refusal.{Refusal as Refusing}
use Rattle.trace_text.specs.Promises.{ReadAs, WrittenAs}
use Rattle.text_lines.proofs.Lines.{by_lt, by_took, line_complete, line_sound}
use Rattle.trace_text.proofs.Lines.{Words, words_cons, pages_sound, pages_complete, Settings, head_1, head_2, head_3, head_4, head_5, head_6, header_complete, keys, lines_then, key_after, NoLine, no_line, is_wrong_lem, Stops}
use Rattle.text_lines.proofs.Writing.{sets_front}
use Rattle.trace_text.proofs.Reading.{accepting, holding, read_long, read_bad, read_many, read_full, read_wrong, read_all}
use Rattle.trace_text.proofs.Writing.{refuses_many, refuses_short, sends}
use Rattle.meaning.proofs.Injective.{no_second, not_given, read_settles, write_settles}

-- What an accepted text is: the text of allowed values, within the length limit, with room for its pages.
pub record Accepts (text : List ℕ) (room p c f g : ℕ) (ps : List ℕ) : Type 0 where
  pub written : text ≡ text_of p c f g ps
  pub short : length text ≤ 65535
  pub fits : length ps ≤ room
  pub settings : Settings p c f g
  pub words : Words ps

-- What the first wrong line l is: the lines before it are right and have these values, and line l is not right; with five before it, their count is within the limit and the room.
pub record FirstWrong (text : List ℕ) (room l : ℕ) : Type 0 where
  pub before : List ℕ
  pub rest : List ℕ
  pub number : l ≡ length before + 1
  pub lines : text ≡ lines_then keys before rest
  pub values : Words before
  pub here : Stops (length before) (5 + get_or before 4 0) (key_after keys before) rest
  pub short : length text ≤ 65535
  pub fits : 5 ≤ length before → (get_or before 4 0 ≤ 65535) × (get_or before 4 0 ≤ room)

-- ── By cases ──

none : Words []
none i = omega arith

words_four : (p c f g : ℕ) (ps : List ℕ) → Settings p c f g → Words ps → Words (p ∷ c ∷ f ∷ g ∷ ps)
words_four p c f g ps b w = words_cons p (c ∷ f ∷ g ∷ ps) b.0 (words_cons c (f ∷ g ∷ ps) b.1 (words_cons f (g ∷ ps) b.2 (words_cons g ps b.3 w)))

-- The lines 1 to 5: the first wrong one, or their values.
by_header : {C : Type 0} (s : List ℕ)
    → ((vs rest : List ℕ) → length vs < 5 → s ≡ lines_then keys vs rest → Words vs → NoLine (key_after keys vs) rest → header s ≡ bad_head (length vs + 1) → C)
    → ((p c f g n : ℕ) (rest : List ℕ) → s ≡ head_lines p c f g n rest → Settings p c f g → header s ≡ head p c f g n rest → C) → C
by_header s bad good =
    by_took (line policy_key s) (λ t. bad [] s (omega arith) refl none (no_line policy_key s t) (sym (head_1 s t))) (λ p s₁ t₁.
    let l₁ = line_sound policy_key s p s₁ t₁ in
    by_took (line capacity_key s₁) (λ t. bad (p ∷ []) s₁ (omega arith) l₁.0 (words_cons p [] l₁.1 none) (no_line capacity_key s₁ t) (sym (head_2 s t₁ t))) (λ c s₂ t₂.
    let l₂ = line_sound capacity_key s₁ c s₂ t₂ in
    by_took (line first_key s₂)
    (λ t. bad (p ∷ c ∷ []) s₂ (omega arith) (cc) (words_cons p (c ∷ []) l₁.1 (words_cons c [] l₂.1 none)) (no_line first_key s₂ t) (sym (head_3 s t₁ t₂ t))) (λ f s₃ t₃.
    let l₃ = line_sound first_key s₂ f s₃ t₃ in
    by_took (line second_key s₃)
    (λ t. bad (p ∷ c ∷ f ∷ []) s₃ (omega arith) (cc) (words_cons p (c ∷ f ∷ []) l₁.1 (words_cons c (f ∷ []) l₂.1 (words_cons f [] l₃.1 none))) (no_line second_key s₃ t) (sym (head_4 s t₁ t₂ t₃ t))) (λ g s₄ t₄.
    let l₄ = line_sound second_key s₃ g s₄ t₄ in
    let w = words_four p c f g [] (l₁.1, l₂.1, l₃.1, l₄.1) none in
    by_took (line count_key s₄)
    (λ t. bad (p ∷ c ∷ f ∷ g ∷ []) s₄ (omega arith) (cc) w (no_line count_key s₄ t) (sym (head_5 s t₁ t₂ t₃ t₄ t))) (λ n s₅ t₅.
    let l₅ = line_sound count_key s₄ n s₅ t₅ in
    good p c f g n s₅ (cc) (l₁.1, l₂.1, l₃.1, l₄.1) (sym (head_6 s t₁ t₂ t₃ t₄ t₅)))))))

shift : (i n j m : ℕ) (rest : List ℕ) → i + m ≡ j + n → Stops i n page_key rest → Stops j m page_key rest
shift i n j m rest e (inl h) = inl (omega (arith, h.0), h.1)
shift i n j m rest e (inr h) = inr (omega (arith, h.0), h.1)

-- The page lines: all right, or the first wrong one.
by_pages : {C : Type 0} (n l : ℕ) (s : List ℕ) → (first_wrong n l s ≡ 0 → C)
    → ((vs rest : List ℕ) → s ≡ lines_then [] vs rest → Words vs → Stops (length vs) n page_key rest → first_wrong n l s ≡ l + length vs → C) → C
by_pages zero l [] all some = all refl
by_pages zero l (b ∷ s) all some = some [] (b ∷ s) refl none (inr (refl, λ e. let z : ◌≡◌ {A = ℕ} 0 1 = cc in omega arith)) (omega arith)
by_pages (suc n) l s all some =
    by_took (line page_key s)
    (λ t. some [] s refl none (inl (omega arith, no_line page_key s t)) (simp t (omega arith)))
    (λ v rest t.
    let ls = line_sound page_key s v rest t in
    by_pages n (l + 1) rest (λ e. all (simp t e)) (λ vs r q w h e.
    some (v ∷ vs) r (cc) (words_cons v vs ls.1 w) (shift (length vs) n (suc (length vs)) (suc n) r (omega arith) h) (simp t (omega (arith, e)))))

-- ── What a reading says of its text ──

-- Refused with 10: the line is the first wrong one; accepted: the text is the writer's.
abbrev Means : List ℕ → ℕ → Said Contents → Type 0
Means text room (refused r) = r.number ≡ 10 → FirstWrong text room r.carried
Means text room (gave t) = let s = t.settings in Accepts text room s.policy s.C s.first s.second t.pages

module _ (text : List ℕ) (room : ℕ) where
  by : {a : Said Contents} → read_text text room ≡ a → Means text room a → Means text room (read_text text room)
  by e m = subst (Means text room) (sym e) m

  means : Means text room (read_text text room)
  unfolding text_of
  means =
      by_lt 65535 (length text) (λ h _. by (read_long text room h) (λ z. absurd (omega arith))) (λ short _.
      by_header text
      (λ vs rest h q w no e. by (read_bad text room short e) (λ _. record {
        before = vs;
        rest = rest;
        number = refl;
        lines = q;
        values = w;
        here = inl (omega arith, no);
        short = short;
        fits = λ k. absurd (omega arith);
      }))
      (λ p c f g n rest q w e.
      by_lt 65535 n (λ h _. by (read_many text room short e h) (λ z. absurd (omega arith))) (λ few _.
      by_lt room n (λ h _. by (read_full text room short e few h) (λ z. absurd (omega arith))) (λ fits _.
      by_pages n 6 rest
      (λ z. let pg = pages_sound n 6 rest (omega arith) z in
      by (read_all text room short e few fits (sym z)) (record { written = cc (pg.0, pg.1); short = short; fits = omega (arith, pg.1); settings = w; words = pg.2 }))
      (λ vs r q' w' h z. by (read_wrong text room short e few fits (6 + length vs) (sym z) (omega arith)) (λ _. record {
        before = p ∷ c ∷ f ∷ g ∷ n ∷ vs;
        rest = r;
        number = omega arith;
        lines = cc;
        values = words_four p c f g (n ∷ vs) w (words_cons n vs (omega arith) w');
        here = shift (length vs) n (length (p ∷ c ∷ f ∷ g ∷ n ∷ vs)) (5 + n) r (omega arith) h;
        short = short;
        fits = λ k. (few, fits);
      }))))))

-- ── Which texts are accepted ──

pages_long : (ps : List ℕ) → length ps ≤ length (page_lines ps)
unfolding line_of
pages_long [] = omega arith
pages_long (p ∷ ps) = simp length-append (omega (arith, pages_long ps))

pub text_long : (p c f g : ℕ) (ps : List ℕ) → length ps ≤ length (text_of p c f g ps)
unfolding text_of
text_long p c f g ps = simp length-append (omega (arith, pages_long ps))

module _ (text : List ℕ) (room p c f g : ℕ) (ps : List ℕ) (written : text ≡ text_of p c f g ps) (short : length text ≤ 65535) (settings : Settings p c f g) (words : Words ps) where
  few : length ps ≤ 65535
  few = omega (arith, text_long p c f g ps, ap length written)

  headed : header text ≡ head p c f g (length ps) (page_lines ps)
  unfolding text_of
  headed = ap header written ∙ header_complete p c f g (length ps) (page_lines ps) settings (omega (arith, few))

  -- With room it is accepted.
  roomy : length ps ≤ room → read_text text room ≡ gave (holding p c f g ps)
  roomy fits =
      let pg = pages_complete ps 6 words in
      read_all text room short headed few fits (sym pg.0) ∙ ap (λ (l : List ℕ). gave (holding p c f g l)) pg.1

  -- Without room it is refused with 8.
  crowded : room < length ps → read_text text room ≡ refused (plain 8)
  crowded h = read_full text room short headed few h

-- A text is accepted exactly if it is the text of allowed values, within the length limit, with room for its pages; and those values are what is read.
pub accepted_exactly : (text : List ℕ) (room p c f g : ℕ) (ps : List ℕ) → (read_text text room ≡ gave (holding p c f g ps)) ↔ Accepts text room p c f g ps
accepted_exactly text room p c f g ps = (
  λ e. subst (Means text room) e (means text room),
  λ a. roomy text room p c f g ps a.written a.short a.settings a.words a.fits,
)

-- A text that is refused with 10 is no writer's text of allowed values.
pub refused_unwritten : (text : List ℕ) (room l p c f g : ℕ) (ps : List ℕ) → read_text text room ≡ refused (wrong_line l) → Settings p c f g → Words ps → text ≡ text_of p c f g ps → ⊥
refused_unwritten text room l p c f g ps e settings words written =
    let short = (subst (Means text room) e (means text room) refl).short in
    by_lt room (length ps)
    (λ h _. let q : refused (wrong_line l) ≡ refused (plain 8) = sym e ∙ crowded text room p c f g ps written short settings words h in let k : wrong_line l ≡ plain 8 = cc q in let z : ◌≡◌ {A = ℕ} 10 8 = ap (λ (r : Refusal). r.number) k in omega arith)
    (λ h _. not_given (sym e ∙ roomy text room p c f g ps written short settings words h))

-- ── Which line is named ──

pages_wrong : (vs : List ℕ) (n l : ℕ) (rest : List ℕ) → Words vs → Stops (length vs) n page_key rest → first_wrong n l (lines_then [] vs rest) ≡ l + length vs
pages_wrong [] zero l rest w (inl h) = absurd (omega (arith, h.0))
pages_wrong [] (suc n) l rest w (inl h) = simp (is_wrong_lem page_key rest h.1) (omega arith)
pages_wrong [] zero l [] w (inr h) = absurd (h.1 refl)
pages_wrong [] zero l (b ∷ rest) w (inr h) = omega arith
pages_wrong [] (suc n) l rest w (inr h) = absurd (omega (arith, h.0))
pages_wrong (v ∷ vs) zero l rest w (inl h) = absurd (omega (arith, h.0))
pages_wrong (v ∷ vs) zero l rest w (inr h) = absurd (omega (arith, h.0))
pages_wrong (v ∷ vs) (suc n) l rest w h =
    simp (line_complete page_key v (lines_then [] vs rest) (w 0))
    (pages_wrong vs n (l + 1) rest (λ i. w (suc i)) (shift (suc (length vs)) (suc n) (length vs) n rest (omega arith) h) ∙ omega arith)

early : (i n : ℕ) (key rest : List ℕ) → (i ≡ n → ⊥) → Stops i n key rest → NoLine key rest
early i n key rest d (inl h) = h.1
early i n key rest d (inr h) = absurd (d h.0)

named : (text : List ℕ) (room : ℕ) (vs rest : List ℕ) → text ≡ lines_then keys vs rest → length text ≤ 65535 → Words vs → Stops (length vs) (5 + get_or vs 4 0) (key_after keys vs) rest
    → (5 ≤ length vs → (get_or vs 4 0 ≤ 65535) × (get_or vs 4 0 ≤ room)) → read_text text room ≡ refused (wrong_line (length vs + 1))
named text room [] rest q short w h k =
    read_bad text room short (ap header q ∙ sym (head_1 rest (is_wrong_lem policy_key rest (early 0 5 policy_key rest (omega arith) h))))
named text room (p ∷ []) rest q short w h k =
    read_bad text room short (ap header q ∙ sym (head_2 _ (line_complete policy_key p rest (w 0)) (is_wrong_lem capacity_key rest (early 1 5 capacity_key rest (omega arith) h))))
named text room (p ∷ c ∷ []) rest q short w h k =
    read_bad text room short (ap header q ∙ sym (head_3 _ (line_complete policy_key p _ (w 0)) (line_complete capacity_key c rest (w 1)) (is_wrong_lem first_key rest (early 2 5 first_key rest (omega arith) h))))
named text room (p ∷ c ∷ f ∷ []) rest q short w h k =
    read_bad text room short
    (ap header q ∙ sym (head_4 _ (line_complete policy_key p _ (w 0)) (line_complete capacity_key c _ (w 1)) (line_complete first_key f rest (w 2)) (is_wrong_lem second_key rest (early 3 5 second_key rest (omega arith) h))))
named text room (p ∷ c ∷ f ∷ g ∷ []) rest q short w h k =
    read_bad text room short
    (ap header q ∙ sym (head_5 _ (line_complete policy_key p _ (w 0)) (line_complete capacity_key c _ (w 1)) (line_complete first_key f _ (w 2)) (line_complete second_key g rest (w 3)) (is_wrong_lem count_key rest (early 4 5 count_key rest (omega arith) h))))
named text room (p ∷ c ∷ f ∷ g ∷ n ∷ vs) rest q short w h k =
    let b = k (omega arith) in
    let e = ap header q ∙ header_complete p c f g n (lines_then [] vs rest) (w 0, w 1, w 2, w 3) (w 4) in
    let x = pages_wrong vs n 6 rest (λ i. w (suc (suc (suc (suc (suc i)))))) (shift (length (p ∷ c ∷ f ∷ g ∷ n ∷ vs)) (5 + n) (length vs) n rest (omega arith) h) in
    read_wrong text room short e b.0 b.1 (6 + length vs) (sym x) (omega arith) ∙ ap (λ (k : ℕ). refused (wrong_line k)) (omega arith)

-- A text is refused with 10 and a line exactly if that is its first wrong line.
pub wrong_exactly : (text : List ℕ) (room l : ℕ) → (read_text text room ≡ refused (wrong_line l)) ↔ FirstWrong text room l
wrong_exactly text room l = (
  λ e. subst (Means text room) e (means text room) refl,
  λ w. named text room w.before w.rest w.lines w.short w.values w.here w.fits ∙ ap (λ (k : ℕ). refused (wrong_line k)) (sym w.number),
)

-- ── What is written is what is read ──

-- no second answer of `write`
once : {p c f g : ℕ} {trace before : List ℕ} {r r' : Result ℕ Refusing} {after after' : List ℕ} → WrittenAs (four p c f g) trace before r after → WrittenAs (four p c f g) trace before r' after' → (r ≡ r') × (after ≡ after')
once x y = no_second write_settles (x.answer, x.memory) (y.answer, y.memory)

-- what a length that was given tells
pub sent : {p c f g n : ℕ} {trace buffer text : List ℕ} → WrittenAs (four p c f g) trace buffer (Ok n) text → (n ≡ length (text_of p c f g trace)) × (text ≡ over (text_of p c f g trace) buffer)
sent {p} {c} {f} {g} {n} {trace} {buffer} w =
    by_lt 65535 (length trace)
    (λ h _. let q = (once w (refuses_many p c f g trace buffer h)).0 in let z : ◌≡◌ {A = ℕ} 0 1 = cc in absurd (omega arith))
    (λ few _. by_lt (length buffer) (length (text_of p c f g trace))
    (λ h _. let q = (once w (refuses_short p c f g trace buffer few refl h)).0 in let z : ◌≡◌ {A = ℕ} 0 1 = cc in absurd (omega arith))
    (λ h _. let q = once w (sends p c f g trace buffer few refl h refl) in (cc q.0, q.1 ∙ sets_front buffer (text_of p c f g trace) h)))

-- Where `write` gave a length within the limit, `read` of the bytes written, with room, accepts the same settings and stores the same trace.
pub written_read : {p c f g n : ℕ} {trace buffer text back after : List ℕ} {r : Result Taken Refusing} → WrittenAs (four p c f g) trace buffer (Ok n) text → Settings p c f g → Words trace
    → n ≤ 65535 → length trace ≤ length back → ReadAs (take n text) back r after → (r ≡ accepting p c f g (length trace)) × (after ≡ over trace back)
unfolding over read
written_read {p} {c} {f} {g} {n} {trace} {buffer} {text} {back} {after} {r} w settings words short fits x =
    let q = sent w in
    let t : take n text ≡ text_of p c f g trace = ap (take n) q.1 ∙ take_at (text_of p c f g trace) _ n (sym q.0) in
    let e = roomy (take n text) (length back) p c f g trace t (omega (arith, ap length t, q.0)) settings words fits in
    (read_settles r (accepting p c f g (length trace)) (x.answer ∙ ap (λ (a : Said Contents). (on_text a back).said) e), x.memory ∙ ap (λ (a : Said Contents). (on_text a back).left) e)
