-- Document 01, "Trace text": the text that is written, and what reading a text means. A text is a list of bytes.
use Rattle.std.specs.Prelude.{ℕ, zero, suc, ◌+◌, ◌-◌, ◌*◌, ◌/◌, ◌%◌, cond, List, [], ◌∷◌, ◌++◌, length, ltb, eqb, if◌then◌else◌}
use Rattle.meaning.specs.Layout.{Settings, four, longest}
use Rattle.meaning.specs.Calls.{open_calls, Refusal, plain, Said, refused, gave, Outcome, refuse, over}

-- ── The text of settings and a trace ──

-- The decimal of n, in ASCII, with no leading zero; k is any number above n.
abbrev pub dec : ℕ → ℕ → List ℕ
dec zero n = []
dec (suc k) n = let more = dec k (n / 10) ++ ((48 + n % 10) ∷ []) in cond (ltb n 10) ((48 + n) ∷ []) more

-- A decimal: no sign, no space, no leading zero but 0 itself.
unfoldable pub decimal : ℕ → List ℕ
decimal n = dec (suc n) n

-- `policy=`, `capacity=`, `first=`, `second=`, `count=` and `page=`.
abbrev pub policy_key : List ℕ
policy_key = 112 ∷ 111 ∷ 108 ∷ 105 ∷ 99 ∷ 121 ∷ 61 ∷ []

abbrev pub capacity_key : List ℕ
capacity_key = 99 ∷ 97 ∷ 112 ∷ 97 ∷ 99 ∷ 105 ∷ 116 ∷ 121 ∷ 61 ∷ []

abbrev pub first_key : List ℕ
first_key = 102 ∷ 105 ∷ 114 ∷ 115 ∷ 116 ∷ 61 ∷ []

abbrev pub second_key : List ℕ
second_key = 115 ∷ 101 ∷ 99 ∷ 111 ∷ 110 ∷ 100 ∷ 61 ∷ []

abbrev pub count_key : List ℕ
count_key = 99 ∷ 111 ∷ 117 ∷ 110 ∷ 116 ∷ 61 ∷ []

abbrev pub page_key : List ℕ
page_key = 112 ∷ 97 ∷ 103 ∷ 101 ∷ 61 ∷ []

-- A line: the key, followed by a decimal, ends in byte 10.
unfoldable pub line_of : List ℕ → ℕ → List ℕ
line_of key v = key ++ (decimal v ++ (10 ∷ []))

-- A line `page=` for each page.
abbrev pub page_lines : List ℕ → List ℕ
page_lines [] = []
page_lines (p ∷ ps) = line_of page_key p ++ page_lines ps

-- The lines 1 to 5, and what stands after them.
abbrev pub head_lines : ℕ → ℕ → ℕ → ℕ → ℕ → List ℕ → List ℕ
head_lines p c f g n rest = line_of policy_key p ++ (line_of capacity_key c ++ (line_of first_key f ++ (line_of second_key g ++ (line_of count_key n ++ rest))))

-- The five lines, then count lines `page=`, and nothing after.
unfoldable pub text_of : ℕ → ℕ → ℕ → ℕ → List ℕ → List ℕ
text_of policy capacity first second trace = head_lines policy capacity first second (length trace) (page_lines trace)

-- ── What reading a text means ──

-- What reading a line finds: a wrong line, or the value and what stands after the line.
pub data Took : Type 0 where
  wrong : Took
  right : ℕ → List ℕ → Took

-- What follows from a wrong line, or from the value and the rest.
abbrev pub on_line : {A : Type 0} → Took → A → (ℕ → List ℕ → A) → A
on_line wrong a f = a
on_line (right v s) a f = f v s

-- After digits that make acc: byte 10 ends the line. A further digit is wrong after a zero, and where the value passes 4,294,967,295.
abbrev pub scan : ℕ → List ℕ → Took
scan acc [] = wrong
scan acc (b ∷ s) =
    let more = scan (acc * 10 + (b - 48)) s in
    cond (eqb b 10) (right acc s)
    (cond (ltb b 48) wrong (cond (ltb 57 b) wrong (cond (eqb acc 0) wrong (cond (ltb 4294967295 (acc * 10 + (b - 48))) wrong more))))

-- A digit, and what `scan` finds after it.
abbrev pub number : List ℕ → Took
number [] = wrong
number (b ∷ s) = let more = scan (b - 48) s in cond (ltb b 48) wrong (cond (ltb 57 b) wrong more)

-- The key, and what `number` finds after it: a decimal from 0 to 4,294,967,295, no sign, no space, no leading zero but 0 itself.
abbrev pub line : List ℕ → List ℕ → Took
line [] s = number s
line (k ∷ ks) [] = wrong
line (k ∷ ks) (b ∷ s) = let more = line ks s in cond (eqb b k) more wrong

-- The lines 1 to 5: the first wrong one, or their values and what stands after them.
pub data Header : Type 0 where
  bad_head : ℕ → Header
  head : ℕ → ℕ → ℕ → ℕ → ℕ → List ℕ → Header

unfoldable pub header : List ℕ → Header
header s₀ =
    on_line (line policy_key s₀) (bad_head 1) (λ p s₁.
    on_line (line capacity_key s₁) (bad_head 2) (λ c s₂.
    on_line (line first_key s₂) (bad_head 3) (λ f s₃.
    on_line (line second_key s₃) (bad_head 4) (λ g s₄.
    on_line (line count_key s₄) (bad_head 5) (λ n s₅. head p c f g n s₅)))))

-- The first wrong line of n page lines that start with line l, or 0: a missing line or missing byte 10 names that line, and bytes after the end name the line behind the last.
abbrev pub first_wrong : ℕ → ℕ → List ℕ → ℕ
first_wrong zero l [] = 0
first_wrong zero l (b ∷ s) = l
first_wrong (suc n) l s = on_line (line page_key s) l (λ v rest. first_wrong n (l + 1) rest)

-- The pages of the right lines at the start, at most n.
abbrev pub pages_in : ℕ → List ℕ → List ℕ
pages_in zero s = []
pages_in (suc n) s = on_line (line page_key s) [] (λ v rest. v ∷ pages_in n rest)

-- What a text holds: its settings and its pages.
pub record Contents : Type 0 where
  pub settings : Settings
  pub pages : List ℕ

-- 10: a text line not as laid down; the line's number comes with it.
abbrev pub wrong_line : ℕ → Refusal
wrong_line l = record { number = 10; carried = l }

-- Refused with the first wrong line, if there is one.
abbrev pub on_pages : ℕ → Said Contents → Said Contents
on_pages zero a = a
on_pages (suc l) a = refused (wrong_line (suc l))

-- After the lines 1 to 5 (10): 7 (count); 8 (trace buffer under count); the page lines (10).
abbrev pub on_head : ℕ → Header → Said Contents
on_head room (bad_head l) = refused (wrong_line l)
on_head room (head p c f g n s) =
    let pages = on_pages (first_wrong n 6 s) (gave (record { settings = four p c f g; pages = pages_in n s })) in
    cond (ltb longest n) (refused (plain 7)) (cond (ltb room n) (refused (plain 8)) pages)

-- What a text means to a reader with room for so many pages: 7 (text length); then the lines.
unfoldable pub read_text : List ℕ → ℕ → Said Contents
read_text text room = let rest = on_head room (header text) in cond (ltb longest (length text)) (refused (plain 7)) rest

-- ── Read ──

-- What read answers: the four settings and the count.
pub record Accepted : Type 0 where
  pub policy : ℕ
  pub capacity : ℕ
  pub first : ℕ
  pub second : ℕ
  pub count : ℕ

-- Accepted: the four settings and the count are returned and the pages stand at the front of the trace buffer; the rest stays.
abbrev pub accepted : Contents → List ℕ → Outcome Accepted (List ℕ)
accepted t trace = let s = t.settings in record {
  said = gave (record { policy = s.policy; capacity = s.C; first = s.first; second = s.second; count = length t.pages });
  left = over t.pages trace;
}

-- What follows from what a text means.
abbrev pub on_text : Said Contents → List ℕ → Outcome Accepted (List ℕ)
on_text (refused r) trace = refuse r trace
on_text (gave t) trace = accepted t trace

-- Reads a text into a trace buffer.
unfoldable pub read : List ℕ → List ℕ → Outcome Accepted (List ℕ)
read text trace = on_text (read_text text (length trace)) trace

-- ── Write ──

-- The writer checks 7 (trace), 8 (result shorter than the text), answers the length written and leaves later bytes as they stood. It refuses no page number and no setting.
unfoldable pub wrote : ℕ → ℕ → ℕ → ℕ → List ℕ → List ℕ → Outcome ℕ (List ℕ)
wrote policy capacity first second trace buffer =
    let text = text_of policy capacity first second trace in
    if ltb longest (length trace) then refuse (plain 7) buffer else
    if ltb (length buffer) (length text) then refuse (plain 8) buffer else
    record { said = gave (length text); left = over text buffer }

-- For a proof that computes: `unfolding open_text` opens every definition of this file and of the files below it.
unfoldable pub open_text : Unit {0}
unfolding open_calls decimal line_of text_of header read_text read wrote
open_text = tt
