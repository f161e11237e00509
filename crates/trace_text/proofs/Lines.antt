-- What is read is what is written: the page lines, the lines 1 to 5.
use Prim.Native.Nat.{ℕ, zero, suc, ◌+◌, ◌≤◌, ◌<◌}
use mathlib.Core.Logic.{◌⊎◌}
use mathlib.Core.Path.{◌≡◌, refl, sym, ap, ◌∙◌}
use mathlib.Core.List.{List, [], ◌∷◌, ◌++◌}
use lib.ListN.{length, get_or}
use native.Mathlib.Omega.{arith}
use Rattle.meaning.specs.Text.{line_of, page_lines, head_lines, page_key, policy_key, capacity_key, first_key, second_key, count_key, wrong, right, line, bad_head, head, header, first_wrong, pages_in}
use Rattle.text_lines.proofs.Lines.{line_complete, line_sound, by_took}

-- ── The page lines ──

-- Every number of the list is at most 4,294,967,295.
abbrev pub Words : List ℕ → Type 0
Words ps = (i : ℕ) → get_or ps i 0 ≤ 4294967295

-- One number more in front.
pub words_cons : (p : ℕ) (ps : List ℕ) → p ≤ 4294967295 → Words ps → Words (p ∷ ps)
words_cons p ps h w zero = h
words_cons p ps h w (suc i) = w i

-- Page lines of which none is wrong are those of the pages read.
pub pages_sound : (n l : ℕ) (s : List ℕ) → 0 < l → first_wrong n l s ≡ 0 → (s ≡ page_lines (pages_in n s)) × (length (pages_in n s) ≡ n) × Words (pages_in n s)
pages_sound zero l [] h e = (refl, refl, λ i. omega arith)
pages_sound zero l (b ∷ s) h e = absurd (omega arith)
pages_sound (suc n) l s h e =
    by_took (line page_key s)
    (λ t. let z : l ≡ 0 = simp t at e in absurd (omega arith))
    (λ v rest t.
    let ih = pages_sound n (l + 1) rest (omega arith) (simp t at e) in
    let ls = line_sound page_key s v rest t in
    simp t (ls.0 ∙ ap (λ (r : List ℕ). line_of page_key v ++ r) ih.0, ap suc ih.1, words_cons v (pages_in n rest) ls.1 ih.2))

-- Page lines that are written are all right, and give their pages.
pub pages_complete : (ps : List ℕ) (l : ℕ) → Words ps → (first_wrong (length ps) l (page_lines ps) ≡ 0) × (pages_in (length ps) (page_lines ps) ≡ ps)
pages_complete [] l w = (refl, refl)
pages_complete (p ∷ ps) l w =
    let ih = pages_complete ps (l + 1) (λ i. w (suc i)) in
    let t = line_complete page_key p (page_lines ps) (w zero) in
    (simp t ih.0, simp t (ap (λ (r : List ℕ). p ∷ r) ih.1))

-- ── The lines 1 to 5 ──

-- The four settings are at most 4,294,967,295.
abbrev pub Settings : ℕ → ℕ → ℕ → ℕ → Type 0
Settings p c f g = (p ≤ 4294967295) × (c ≤ 4294967295) × (f ≤ 4294967295) × (g ≤ 4294967295)

module _ (s₀ : List ℕ) where
  -- Line 1 is wrong.
  pub head_1 : line policy_key s₀ ≡ wrong → bad_head 1 ≡ header s₀
  unfolding header
  head_1 w = simp w

  module _ {p : ℕ} {s₁ : List ℕ} (e₁ : line policy_key s₀ ≡ right p s₁) where
    -- Line 2 is the first wrong one.
    pub head_2 : line capacity_key s₁ ≡ wrong → bad_head 2 ≡ header s₀
    unfolding header
    head_2 w = simp (e₁, w)

    module _ {c : ℕ} {s₂ : List ℕ} (e₂ : line capacity_key s₁ ≡ right c s₂) where
      -- Line 3 is the first wrong one.
      pub head_3 : line first_key s₂ ≡ wrong → bad_head 3 ≡ header s₀
      unfolding header
      head_3 w = simp (e₁, e₂, w)

      module _ {f : ℕ} {s₃ : List ℕ} (e₃ : line first_key s₂ ≡ right f s₃) where
        -- Line 4 is the first wrong one.
        pub head_4 : line second_key s₃ ≡ wrong → bad_head 4 ≡ header s₀
        unfolding header
        head_4 w = simp (e₁, e₂, e₃, w)

        module _ {g : ℕ} {s₄ : List ℕ} (e₄ : line second_key s₃ ≡ right g s₄) where
          -- Line 5 is the first wrong one.
          pub head_5 : line count_key s₄ ≡ wrong → bad_head 5 ≡ header s₀
          unfolding header
          head_5 w = simp (e₁, e₂, e₃, e₄, w)

          -- All five are right.
          pub head_6 : {n : ℕ} {s₅ : List ℕ} → line count_key s₄ ≡ right n s₅ → head p c f g n s₅ ≡ header s₀
          unfolding header
          head_6 e₅ = simp (e₁, e₂, e₃, e₄, e₅)

-- Lines 1 to 5 that are written are read.
pub header_complete : (p c f g n : ℕ) (rest : List ℕ) → Settings p c f g → n ≤ 4294967295 → header (head_lines p c f g n rest) ≡ head p c f g n rest
unfolding header
header_complete p c f g n rest w b = simp (line_complete, w.0, w.1, w.2, w.3, b)

-- ── Lines by their numbers ──

-- The keys of the lines 1 to 5; every later line has `page=`.
abbrev pub keys : List (List ℕ)
keys = policy_key ∷ capacity_key ∷ first_key ∷ second_key ∷ count_key ∷ []

-- A line for each value in turn, with these keys and then `page=`, and what stands after them.
abbrev pub lines_then : List (List ℕ) → List ℕ → List ℕ → List ℕ
lines_then ks [] rest = rest
lines_then [] (v ∷ vs) rest = line_of page_key v ++ lines_then [] vs rest
lines_then (k ∷ ks) (v ∷ vs) rest = line_of k v ++ lines_then ks vs rest

-- The key of the line after those of these values.
abbrev pub key_after : List (List ℕ) → List ℕ → List ℕ
key_after [] vs = page_key
key_after (k ∷ ks) [] = k
key_after (k ∷ ks) (v ∷ vs) = key_after ks vs

-- No line with this key and an allowed value stands at the start.
abbrev pub NoLine : List ℕ → List ℕ → Type 0
NoLine key s = (v : ℕ) (rest : List ℕ) → v ≤ 4294967295 → s ≡ line_of key v ++ rest → ⊥

-- Where reading finds a wrong line, there is none.
pub no_line : (key s : List ℕ) → line key s ≡ wrong → NoLine key s
no_line key s t v rest b q =
    let w : wrong ≡ right v rest = sym t ∙ ap (line key) q ∙ line_complete key v rest b in
    let z : ◌≡◌ {A = ℕ} 0 1 = cc in
    omega arith

-- Where there is no line, reading finds a wrong one.
pub is_wrong_lem : (key s : List ℕ) → NoLine key s → line key s ≡ wrong
is_wrong_lem key s h = by_took (line key s) (λ t. t) (λ v rest t. let ls = line_sound key s v rest t in absurd (h v rest ls.1 ls.0))

-- With i lines passed of n that must stand: line i + 1 is wrong, or bytes stand after the end.
abbrev pub Stops : ℕ → ℕ → List ℕ → List ℕ → Type 0
Stops i n key rest = ((i < n) × NoLine key rest) ⊎ ((i ≡ n) × (rest ≡ [] → ⊥))
