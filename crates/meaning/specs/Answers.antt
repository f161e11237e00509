-- Document 01's number and values for each case of each answer.
use Rattle.std.specs.Prelude.{ℕ, Result, Ok, Err}
use Rattle.meaning.specs.Neighbours.{NONE}
use Rattle.meaning.specs.Layout.{four, Settings}
use Rattle.meaning.specs.Room.{hit, loaded, swapped, Reply}
use Rattle.meaning.specs.Calls.{Refusal, plain, Said, refused, gave, Sight, absent, held_in, remembered, Counts}
use Rattle.meaning.specs.Text.{Accepted}
use Rattle.meaning.specs.declared.Settings.{Settings as Asked}
use Rattle.meaning.specs.declared.Refusal.{Refusal as Refusing}
use Rattle.meaning.specs.declared.Refusal.TheVariants as refusal
use Rattle.meaning.specs.declared.Answer.{Answer}
use Rattle.meaning.specs.declared.Answer.TheVariants as answer
use Rattle.meaning.specs.declared.Looked.{Looked}
use Rattle.meaning.specs.declared.Looked.TheVariants as look
use Rattle.meaning.specs.declared.Counts.{Counts as Counted}
use Rattle.meaning.specs.declared.Accepted.{Accepted as Taken}

-- The settings that a call is given.
abbrev pub asked : Asked → Settings
asked s = four s.policy s.capacity s.first s.second

-- What a refusal says: its number, and the line for 10.
abbrev pub refusal_says : Refusing → Refusal
refusal_says refusal.NoSuchPolicy = plain 1
refusal_says refusal.CapacityOutside = plain 2
refusal_says refusal.SettingOutside = plain 3
refusal_says refusal.WrongLength = plain 4
refusal_says refusal.Unsound = plain 5
refusal_says refusal.PageIsNone = plain 6
refusal_says refusal.TooLong = plain 7
refusal_says refusal.TooShort = plain 8
refusal_says refusal.NoSuchList = plain 9
refusal_says (refusal.WrongLine l) = record { number = 10; carried = l }

-- What a call says that gives or refuses, by what is said of what it gives.
abbrev pub says : {A B : Type 0} → (A → B) → Result A Refusing → Said B
says f (Ok a) = gave (f a)
says f (Err r) = refused (refusal_says r)

-- A number says itself.
abbrev pub number_says : Result ℕ Refusing → Said ℕ
number_says = says (λ n. n)

-- A call that gives nothing says that it was done.
abbrev pub done_says : Result (Unit {0}) Refusing → Said (Unit {0})
done_says = says (λ u. u)

-- What an answer to a request says: NONE stands where no page was put out.
abbrev pub reply_of : Answer → Reply
reply_of (answer.Hit slot cleared) = record { kind = hit; slot = slot; out = NONE; cleared = cleared }
reply_of (answer.Loaded slot cleared) = record { kind = loaded; slot = slot; out = NONE; cleared = cleared }
reply_of (answer.Swapped slot out cleared) = record { kind = swapped; slot = slot; out = out; cleared = cleared }

-- What `look` saw.
abbrev pub sight_of : Looked → Sight
sight_of look.Absent = absent
sight_of (look.Held s) = held_in s
sight_of look.Remembered = remembered

-- The counts of hits, loads and swaps.
abbrev pub counts_of : Counted → Counts
counts_of c = record { hits = c.hits; loads = c.loads; swaps = c.swaps }

-- The settings and the count of a text.
abbrev pub accepted_of : Taken → Accepted
accepted_of a = record { policy = a.settings.policy; capacity = a.settings.capacity; first = a.settings.first; second = a.settings.second; count = a.count }

-- What an answer of `form` says.
abbrev pub form_says : Result (Unit {0}) Refusing → Said (Unit {0})
form_says = done_says

-- What an answer of `words_for` says.
abbrev pub length_says : Result ℕ Refusing → Said ℕ
length_says = number_says

-- What an answer of `request` says.
abbrev pub request_says : Result Answer Refusing → Said Reply
request_says = says reply_of

-- What an answer of `slot_for` says.
abbrev pub slot_says : Result ℕ Refusing → Said ℕ
slot_says = number_says

-- What an answer of `look` says.
abbrev pub look_says : Result Looked Refusing → Said Sight
look_says = says sight_of

-- What an answer of `report` says.
abbrev pub report_says : Result ℕ Refusing → Said ℕ
report_says = number_says

-- What an answer of `replay` says.
abbrev pub replay_says : Result Counted Refusing → Said Counts
replay_says = says counts_of

-- What an answer of `curve` says.
abbrev pub curve_says : Result (Unit {0}) Refusing → Said (Unit {0})
curve_says = done_says

-- What an answer of `read` says.
abbrev pub read_says : Result Taken Refusing → Said Accepted
read_says = says accepted_of

-- What an answer of `write` says.
abbrev pub write_says : Result ℕ Refusing → Said ℕ
write_says = number_says
