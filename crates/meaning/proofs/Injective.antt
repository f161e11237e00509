-- What an answer says settles the answer: equal numbers and values mean equal answers, for each answer enum. So no second answer meets a promise.
use Prim.Native.Nat.{ℕ}
use Rattle.std.specs.Prelude.{Ok, Err, eqb, if◌then◌else◌}
use mathlib.Core.Path.{◌≡◌, refl, sym, ap, ◌∙◌}
use native.Mathlib.Omega.{arith}
use Rattle.meaning.specs.Room.{Kind, hit, loaded, swapped, Reply}
use Rattle.meaning.specs.Calls.{Refusal, refused, gave, Sight, absent, held_in, remembered, Counts}
use Rattle.meaning.specs.Text.{Accepted}
use Rattle.meaning.specs.declared.Refusal.{Refusal as Refusing}
use Rattle.meaning.specs.declared.Refusal.TheVariants as refusal
use Rattle.meaning.specs.declared.Answer.{Answer}
use Rattle.meaning.specs.declared.Answer.TheVariants as answer
use Rattle.meaning.specs.declared.Looked.{Looked}
use Rattle.meaning.specs.declared.Looked.TheVariants as look
use Rattle.meaning.specs.declared.Accepted.{Accepted as Taken}
use Rattle.meaning.specs.Answers.{refusal_says, says, reply_of, sight_of, counts_of, accepted_of, form_says, length_says, request_says, slot_says, look_says, report_says, replay_says, curve_says, read_says, write_says}

-- No two answers say the same.
abbrev pub Settles : {A B : Type 0} → (A → B) → Type 0
Settles {A} f = (a b : A) → f a ≡ f b → a ≡ b

-- No second answer, over every promise of the common form: an answer r that says what a definition said, and what was lent, w, which is what it left. Two that meet it are equal.
pub no_second : {A B W : Type 0} {says : A → B} → Settles says → {said : B} {left : W} {r r' : A} {w w' : W}
    → (says r ≡ said) × (w ≡ left) → (says r' ≡ said) × (w' ≡ left) → (r ≡ r') × (w ≡ w')
no_second settles {r = r} {r' = r'} x y = (settles r r' (x.0 ∙ sym y.0), x.1 ∙ sym y.1)

-- A refusal gives nothing.
pub not_given : {A : Type 0} {a : A} {r : Refusal} → refused r ≡ gave a → ⊥
not_given e = let z : ◌≡◌ {A = ℕ} 0 1 = cc in omega arith

-- What an answer says, by the case that it is.
pub case : {A B : Type 0} (says : A → B) {r r' : A} {s : B} → says r ≡ s → r ≡ r' → says r' ≡ s
case says e q = sym (ap says q) ∙ e

-- An answer that can be told from what it says is settled by it.
told : {A B : Type 0} (f : A → B) (g : B → A) → ((a : A) → g (f a) ≡ a) → Settles f
told f g back a b e = sym (back a) ∙ ap g e ∙ back b

-- The refusal of a number, and of what it carries.
refusing : Refusal → Refusing
refusing r =
    if eqb r.number 1 then refusal.NoSuchPolicy else
    if eqb r.number 2 then refusal.CapacityOutside else
    if eqb r.number 3 then refusal.SettingOutside else
    if eqb r.number 4 then refusal.WrongLength else
    if eqb r.number 5 then refusal.Unsound else
    if eqb r.number 6 then refusal.PageIsNone else
    if eqb r.number 7 then refusal.TooLong else
    if eqb r.number 8 then refusal.TooShort else
    if eqb r.number 9 then refusal.NoSuchList else refusal.WrongLine r.carried

refusing_back : (r : Refusing) → refusing (refusal_says r) ≡ r
unfolding refusing
refusing_back refusal.NoSuchPolicy = refl
refusing_back refusal.CapacityOutside = refl
refusing_back refusal.SettingOutside = refl
refusing_back refusal.WrongLength = refl
refusing_back refusal.Unsound = refl
refusing_back refusal.PageIsNone = refl
refusing_back refusal.TooLong = refl
refusing_back refusal.TooShort = refl
refusing_back refusal.NoSuchList = refl
refusing_back (refusal.WrongLine l) = refl

-- A refusal is settled by its number and what it carries.
pub refusal_settles : Settles refusal_says
refusal_settles = told refusal_says refusing refusing_back

-- What is said settles the answer, where what was given is settled.
pub said_settles : {A B : Type 0} (f : A → B) → Settles f → Settles (says f)
said_settles f settles (Ok a) (Ok b) e = ap Ok (settles a b cc)
said_settles f settles (Ok a) (Err r) e = absurd (not_given (sym e))
said_settles f settles (Err r) (Ok a) e = absurd (not_given e)
said_settles f settles (Err r) (Err q) e = ap Err (refusal_settles r q cc)

-- What is its own meaning is settled.
itself : {A : Type 0} → Settles (λ (a : A). a)
itself a b e = e

replied : Reply → Answer
replied r = of r.kind
  where
    of : Kind → Answer
    of hit = answer.Hit r.slot r.cleared
    of loaded = answer.Loaded r.slot r.cleared
    of swapped = answer.Swapped r.slot r.out r.cleared

pub reply_settles : Settles reply_of
unfolding replied
reply_settles = told reply_of replied (elim [ answer.Hit s c ↦ refl | answer.Loaded s c ↦ refl | answer.Swapped s o c ↦ refl ])

seen : Sight → Looked
seen absent = look.Absent
seen (held_in s) = look.Held s
seen remembered = look.Remembered

sight_settles : Settles sight_of
unfolding seen
sight_settles = told sight_of seen (elim [ look.Absent ↦ refl | look.Held s ↦ refl | look.Remembered ↦ refl ])

taken : Accepted → Taken
taken a = record { settings = record { policy = a.policy; capacity = a.capacity; first = a.first; second = a.second }; count = a.count }

-- Each answer.
pub form_settles : Settles form_says
form_settles = said_settles _ itself

pub length_settles : Settles length_says
length_settles = said_settles _ itself

pub request_settles : Settles request_says
request_settles = said_settles reply_of reply_settles

pub slot_settles : Settles slot_says
slot_settles = said_settles _ itself

pub look_settles : Settles look_says
look_settles = said_settles sight_of sight_settles

pub report_settles : Settles report_says
report_settles = said_settles _ itself

pub replay_settles : Settles replay_says
replay_settles = said_settles counts_of (told counts_of (λ (c : Counts). record { hits = c.hits; loads = c.loads; swaps = c.swaps }) (λ a. refl))

pub curve_settles : Settles curve_says
curve_settles = said_settles _ itself

pub read_settles : Settles read_says
unfolding taken
read_settles = said_settles accepted_of (told accepted_of taken (λ a. refl))

pub write_settles : Settles write_says
write_settles = said_settles _ itself
