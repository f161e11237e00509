-- What the reader's proofs cite: its loops by their turns, and the text's meaning by what the code tests.
use Prim.Native.Nat.{ℕ, zero, suc, ◌+◌, ◌-◌, ◌≤◌, ◌<◌}
use mathlib.Core.Path.{◌≡◌, refl, sym, ap, ◌∙◌}
use mathlib.Core.List.{List, ◌++◌, append-nil}
use lib.ListN.{length, drop, take, set}
use lib.Seq.{sets, length-take-le}
use borrow.Author.Tests.{lt-ltb, le-ltb}
use native.Mathlib.Numerals.{add-one}
use native.Mathlib.Omega.{arith}
use Rattle.meaning.specs.Text.{page_key, wrong, right, line, on_head, Header, bad_head, head, header, first_wrong, pages_in, Contents, wrong_line, read_text, on_text, read}
use Rattle.std.specs.Prelude.{Result, Ok, Err}
use Rattle.meaning.specs.declared.Accepted.{Accepted}
use Rattle.meaning.specs.declared.Refusal.{Refusal}
use Rattle.meaning.specs.Layout.{four}
use Rattle.meaning.specs.Calls.{plain, Said, refused, gave, refuse, over}
use Rattle.meaning.specs.Answers.{refusal_says, read_says}
use Rattle.trace_text.specs.Promises.{ReadAs}
use Rattle.text_lines.proofs.Lines.{done}
use Rattle.trace_text.proofs.Lines.{pages_sound}
use Rattle.text_lines.proofs.Writing.{sets_front}

-- ── The page lines by turns: i of n are passed ──

module _ (n i : ℕ) (s : List ℕ) where
  -- The line after those passed is right.
  pub wrong_next : {v : ℕ} {rest : List ℕ} → i < n → line page_key s ≡ right v rest → first_wrong (n - (i + 1)) (6 + (i + 1)) rest ≡ first_wrong (n - i) (6 + i) s
  wrong_next h t =
      let e : n - i ≡ suc (n - (i + 1)) = omega arith in
      let l : 6 + (i + 1) ≡ 6 + i + 1 = omega arith in
      simp (e, t, l)

  -- A wrong line ends what is stored from word i on.
  pub store_stop : (l : List ℕ) → line page_key s ≡ wrong → sets l i (pages_in (n - i) s) ≡ l
  store_stop l w = stop (n - i)
    where
      stop : (m : ℕ) → sets l i (pages_in m s) ≡ l
      stop zero = refl
      stop (suc m) = simp w

  -- The page of a right line is stored.
  pub store_next : (l : List ℕ) {v : ℕ} {rest : List ℕ} → i < n → line page_key s ≡ right v rest → sets l i (pages_in (n - i) s) ≡ sets (set l i v) (i + 1) (pages_in (n - (i + 1)) rest)
  store_next l h t = let e : n - i ≡ suc (n - (i + 1)) = omega arith in simp (e, t, add-one)

-- Of a buffer of n words at least, n pages stored in the first n are stored in all.
pub stored : (trace : List ℕ) (n : ℕ) (ps : List ℕ) {front : List ℕ} → length ps ≡ n → n ≤ length trace → front ≡ sets (take n trace) 0 ps → front ++ drop n trace ≡ sets trace 0 ps
unfolding over
stored trace n ps l h e =
    let k : length (take n trace) ≡ n = length-take-le n trace h in
    rw (e, sets_front (take n trace) ps (omega arith), sets_front trace ps (omega arith), l, done (take n trace) n (omega arith), append-nil)

-- ── The text's meaning by what the code tests, in its order ──

-- What a text of these settings and pages holds.
abbrev pub holding : ℕ → ℕ → ℕ → ℕ → List ℕ → Contents
holding p c f g ps = record { settings = four p c f g; pages = ps }

module _ (text : List ℕ) (room : ℕ) where
  -- The text is too long.
  pub read_long : 65535 < length text → read_text text room ≡ refused (plain 7)
  unfolding read_text
  read_long h = simp (lt-ltb 65535 (length text) h)

  module _ (short : length text ≤ 65535) where
    -- One of the lines 1 to 5 is wrong.
    pub read_bad : {l : ℕ} → header text ≡ bad_head l → read_text text room ≡ refused (wrong_line l)
    unfolding read_text
    read_bad e = simp (le-ltb 65535 (length text) short, e)

    module _ {p c f g n : ℕ} {s : List ℕ} (e : header text ≡ head p c f g n s) where
      -- The count is too large.
      pub read_many : 65535 < n → read_text text room ≡ refused (plain 7)
      unfolding read_text
      read_many h = simp (le-ltb 65535 (length text) short, e, lt-ltb 65535 n h)

      module _ (few : n ≤ 65535) where
        -- The buffer is too short.
        pub read_full : room < n → read_text text room ≡ refused (plain 8)
        unfolding read_text
        read_full h = simp (le-ltb 65535 (length text) short, e, le-ltb 65535 n few, lt-ltb room n h)

        module _ (fits : n ≤ room) where
          -- A page line is wrong, or text follows them.
          pub read_wrong : (l : ℕ) → l ≡ first_wrong n 6 s → (l ≡ 0 → ⊥) → read_text text room ≡ refused (wrong_line l)
          unfolding read_text
          read_wrong zero q h = absurd (h refl)
          read_wrong (suc l) q h = simp (le-ltb 65535 (length text) short, e, le-ltb 65535 n few, le-ltb room n fits, ← q)

          -- Every line is right.
          pub read_all : 0 ≡ first_wrong n 6 s → read_text text room ≡ gave (holding p c f g (pages_in n s))
          unfolding read_text
          read_all q = simp (le-ltb 65535 (length text) short, e, le-ltb 65535 n few, le-ltb room n fits, ← q)

-- The answer that accepts these settings and so many pages.
abbrev pub accepting : ℕ → ℕ → ℕ → ℕ → ℕ → Result Accepted Refusal
accepting p c f g n = Ok (record { settings = record { policy = p; capacity = c; first = f; second = g }; count = n })

-- A refusal is promised.
pub refuses : (text trace : List ℕ) {r : Refusal} → read_text text (length trace) ≡ refused (refusal_says r) → ReadAs text trace (Err r) trace
unfolding read refuse
refuses text trace e = record { answer = ap (λ (a : Said Contents). (on_text a trace).said) (sym e); memory = ap (λ (a : Said Contents). (on_text a trace).left) (sym e) }

-- Accepting a text whose lines are all right is promised.
pub accepts : (text trace : List ℕ) {p c f g n : ℕ} {s after : List ℕ} → length text ≤ 65535 → header text ≡ head p c f g n s → n ≤ 65535 → n ≤ length trace
    → 0 ≡ first_wrong n 6 s → after ≡ sets trace 0 (pages_in n s) → ReadAs text trace (accepting p c f g n) after
unfolding read
accepts text trace {p} {c} {f} {g} {n} {s} short e few fits z k =
    let a = read_all text (length trace) short e few fits z in
    let q = (pages_sound n 6 s (omega arith) (sym z)).1 in
    record {
      answer = ap (λ (k : ℕ). read_says (accepting p c f g k)) (sym q) ∙ ap (λ (x : Said Contents). (on_text x trace).said) (sym a);
      memory = k ∙ sets_front trace (pages_in n s) (omega arith) ∙ ap (λ (x : Said Contents). (on_text x trace).left) (sym a);
    }

-- After right lines 1 to 5 the meaning goes by what they say.
pub read_on : (text : List ℕ) (room : ℕ) {h : Header} → length text ≤ 65535 → header text ≡ h → read_text text room ≡ on_head room h
unfolding read_text
read_on text room short e = simp (le-ltb 65535 (length text) short, e)

-- What is refused by what the lines 1 to 5 say is refused.
pub refuses_head : (text trace : List ℕ) {r : Refusal} {h : Header} → length text ≤ 65535 → header text ≡ h → on_head (length trace) h ≡ refused (refusal_says r) → ReadAs text trace (Err r) trace
refuses_head text trace short e q = refuses text trace (read_on text (length trace) short e ∙ q)
