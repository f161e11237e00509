-- The text, of the calls: `read` accepts exactly what `write` produces, and reads what was written.
use Prim.Native.Nat.{ℕ, ◌≤◌}
use mathlib.Core.Logic.{◌↔◌}
use mathlib.Core.Path.{◌≡◌, refl, sym, ap, ◌∙◌, subst}
use mathlib.Core.List.{List}
use lib.ListN.{length, take, drop}
use lib.Seq.{sets, take-append_seam}
use native.Mathlib.Omega.{arith}
use Rattle.std.specs.Prelude.{Result, Ok}
use Rattle.meaning.specs.Layout.{four}
use Rattle.meaning.specs.Calls.{Said, refused, gave, refuse, over}
use Rattle.meaning.specs.Text.{text_of, Contents, Accepted, read_text, on_text, read}
use Rattle.meaning.specs.Answers.{read_says}
use Rattle.meaning.specs.declared.Accepted.{Accepted as Answer}
use Rattle.meaning.specs.declared.Refusal.{Refusal as Refusing}
use Rattle.meaning.proofs.Injective.{not_given}
use Rattle.text_lines.proofs.Writing.{sets_front}
use Rattle.trace_text.specs.Promises.{ReadAs, WrittenAs}
use Rattle.trace_text.proofs.Lines.{Words, Settings}
use Rattle.trace_text.proofs.Reading.{accepting}
use Rattle.trace_text.proofs.Writing.{sends}
use Rattle.trace_text.proofs.Accepted.{accepted_exactly, text_long, sent, written_read}

-- A call of `write`, lent some buffer, gave a length, and the bytes up to it are this text.
pub record Produced (p c f g : ℕ) (ps text : List ℕ) : Type 0 where
  pub long : ℕ
  pub buffer : List ℕ
  pub after : List ℕ
  pub call : WrittenAs (four p c f g) ps buffer (Ok long) after
  pub bytes : take long after ≡ text

-- What an accepted text holds.
pub record Taken (p c f g n : ℕ) (R : Said Contents) : Type 0 where
  pub pages : List ℕ
  pub is : R ≡ gave (record { settings = four p c f g; pages = pages })
  pub many : n ≡ length pages

-- the values of an accepted text, and what is left in the buffer
pub taken : (R : Said Contents) (before : List ℕ) {p c f g n : ℕ} → read_says (accepting p c f g n) ≡ (on_text R before).said → Taken p c f g n R
unfolding refuse
taken (refused r) before e = absurd (not_given (sym e))
taken (gave t) before {p} {c} {f} {g} {n} e =
    let k : ◌≡◌ {A = Accepted} (record { policy = p; capacity = c; first = f; second = g; count = n }) (record { policy = t.settings.policy; capacity = t.settings.C; first = t.settings.first; second = t.settings.second; count = length t.pages }) = cc e in
    record {
      pages = t.pages;
      is = λ i. gave (record { settings = four (sym k i).policy (sym k i).capacity (sym k i).first (sym k i).second; pages = t.pages });
      many = ap (λ (a : Accepted). a.count) k;
    }

-- The front of a buffer that was overwritten.
pub over_front : (ps l : List ℕ) → take (length ps) (over ps l) ≡ ps
unfolding over
over_front ps l = take-append_seam ps (drop (length ps) l)

module _ {text back after : List ℕ} {r : Result Answer Refusing} (x : ReadAs text back r after) (short : length text ≤ 65535) where
  found : {p c f g n : ℕ} → r ≡ accepting p c f g n → Taken p c f g n (read_text text (length back))
  unfolding read
  found e = taken (read_text text (length back)) back (sym (ap read_says e) ∙ x.answer)

  -- Where `read` accepts, its settings and pages are words, and `write` produces the text from them.
  pub accepted_produced : {p c f g n : ℕ} → r ≡ accepting p c f g n
      → (ps : List ℕ) × (n ≡ length ps) × (after ≡ over ps back) × Settings p c f g × Words ps × Produced p c f g ps text
  unfolding read
  accepted_produced {p} {c} {f} {g} {n} e =
      let F = found e in
      let ps = F.pages in
      let A = (accepted_exactly text (length back) p c f g ps).0 F.is in
      let whole = text_of p c f g ps in
      let few : length ps ≤ 65535 = omega (arith, text_long p c f g ps, ap length A.written, short) in
      let room : length whole ≤ length text = omega (arith, ap length A.written) in (
        ps,
        F.many,
        x.memory ∙ ap (λ (R : Said Contents). (on_text R back).left) F.is,
        A.settings,
        A.words,
        record {
          long = length whole;
          buffer = text;
          after = sets text 0 whole;
          call = sends p c f g ps text few refl room refl;
          bytes = ap (take (length whole)) (sets_front text whole room) ∙ over_front whole text ∙ sym A.written;
        },
      )

  -- `read`, with room, accepts these settings and stores this trace exactly if `write`, lent room enough, produces the text from them.
  pub read_exactly : (p c f g : ℕ) (ps : List ℕ) → Settings p c f g → Words ps → length ps ≤ length back
      → ((r ≡ accepting p c f g (length ps)) × (after ≡ over ps back)) ↔ Produced p c f g ps text
  read_exactly p c f g ps settings words fits = (to, from)
    where
      to : (r ≡ accepting p c f g (length ps)) × (after ≡ over ps back) → Produced p c f g ps text
      to h =
          let k = accepted_produced h.0 in
          let same : ps ≡ k.0 = sym (over_front ps back) ∙ ap (take (length ps)) (sym h.1 ∙ k.2) ∙ ap (λ (n : ℕ). take n (over k.0 back)) k.1 ∙ over_front k.0 back in
          subst (λ (l : List ℕ). Produced p c f g l text) (sym same) k.5

      from : Produced p c f g ps text → (r ≡ accepting p c f g (length ps)) × (after ≡ over ps back)
      from P =
          let q = sent P.call in
          let t : take P.long P.after ≡ text_of p c f g ps = ap (take P.long) q.1 ∙ ap (λ (n : ℕ). take n (over (text_of p c f g ps) P.buffer)) q.0 ∙ over_front (text_of p c f g ps) P.buffer in
          written_read P.call settings words (omega (arith, q.0, ap length t, ap length P.bytes, short)) fits (subst (λ (l : List ℕ). ReadAs l back r after) (sym P.bytes) x)
