-- The pages that `report` counts stand in the buffer that it was lent.
use Prim.Native.Nat.{ℕ, ◌≤◌}
use mathlib.Core.Path.{◌≡◌, sym}
use mathlib.Core.Bool.{not}
use mathlib.Core.List.{List}
use native.Mathlib.Omega.{arith}
use lib.Dec.{ltb}
use lib.ListN.{length, take, length-append}
use lib.Seq.{length-take-le}
use Rattle.std.specs.Prelude.{Ok}
use Rattle.meaning.specs.Layout.{is_list}
use Rattle.meaning.specs.Mem.{decode, policy_of}
use Rattle.meaning.specs.Rules.{sound}
use Rattle.meaning.specs.Calls.{Refusal, plain, gave, Outcome, refuse, over, pages_on, reported}
use Rattle.meaning.proofs.Injective.{not_given}
use Rattle.invariants.proofs.Tests.{either}
use Rattle.form_look_report.specs.Reports.{ReportedAs}

-- What is counted is at most the length of the buffer left.
record Within (o : Outcome ℕ (List ℕ)) : Type 0 where
  most : (n : ℕ) → gave n ≡ o.said → n ≤ length o.left

denies : (r : Refusal) (buffer : List ℕ) → Within (refuse r buffer)
unfolding refuse
denies r buffer = record { most = λ n e. absurd (not_given (sym e)) }

gives : (pages buffer : List ℕ) → Within (record { said = gave (length pages); left = over pages buffer })
unfolding over
gives pages buffer = record { most = λ n e. let q : n ≡ length pages = cc e in simp length-append (omega arith) }

within : (ws : List ℕ) (j : ℕ) (buffer : List ℕ) → Within (reported ws j buffer)
unfolding reported
within ws j buffer =
    let pages = pages_on (decode ws) j in
    either Within (not (sound ws)) (denies (plain 5) buffer)
    (either Within (not (is_list (policy_of (decode ws)) j)) (denies (plain 9) buffer) (either Within (ltb (length buffer) (length pages)) (denies (plain 8) buffer) (gives pages buffer)))

-- The pages counted stand at the front of the buffer afterwards.
pub fits : {ws : List ℕ} {j : ℕ} {buffer after : List ℕ} {n : ℕ} → ReportedAs ws j buffer (Ok n) after → (n ≤ length after) × (n ≡ length (take n after))
fits {ws} {j} {buffer} {after} {n} x =
    let l : n ≤ length after = rw x.memory ((within ws j buffer).most n x.answer) in
    (l, sym (length-take-le n after l))
