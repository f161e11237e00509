-- No second answer: for every public call and every C function, two answers with what was lent that meet the promise on one input are equal. Each is the one law, `no_second`, applied.
use Prim.Native.Nat.{ℕ}
use mathlib.Core.Path.{◌≡◌, refl}
use mathlib.Core.Bool.{Bool}
use mathlib.Core.List.{List}
use Rattle.std.specs.Prelude.{Result}
use Rattle.meaning.specs.declared.Refusal.{Refusal}
use Rattle.meaning.specs.declared.Answer.{Answer}
use Rattle.meaning.specs.declared.Looked.{Looked}
use Rattle.meaning.specs.declared.Counts.{Counts}
use Rattle.meaning.specs.declared.Accepted.{Accepted}
use Rattle.meaning.specs.Layout.{Settings}
use Rattle.meaning.specs.Base.{one_if}
use Rattle.meaning.specs.Calls.{Said, Outcome, both, audited}
use Rattle.meaning.proofs.Injective.{Settles, no_second, form_settles, length_settles, request_settles, slot_settles, look_settles, report_settles, replay_settles, curve_settles, read_settles, write_settles}
use Rattle.form_look_report.specs.Forms.{FormedAs, LongAs}
use Rattle.form_look_report.specs.Looks.{LookedAs}
use Rattle.form_look_report.specs.Reports.{ReportedAs}
use Rattle.policies.specs.Requests.{Requested, SlotGiven}
use Rattle.replay.specs.Replays.{ReplayedAs}
use Rattle.curves.specs.Curve.{CurvedAs}
use Rattle.trace_text.specs.Promises.{ReadAs, WrittenAs}
use Rattle.pagedir.specs.Promises.{Told, ToldAnd, Left}

-- A number, or yes or no, says itself.
itself : {A : Type 0} → Settles {A = A} (λ x. x)
itself a b e = e

-- ── The calls in Rattle ──

pub form_once : {s : Settings} {ws ws₁ ws₂ : List ℕ} {r₁ r₂ : Result (Unit {0}) Refusal} → FormedAs s ws r₁ ws₁ → FormedAs s ws r₂ ws₂ → (r₁ ≡ r₂) × (ws₁ ≡ ws₂)
form_once x y = no_second form_settles (x.answer, x.memory) (y.answer, y.memory)

pub length_once : {s : Settings} {r₁ r₂ : Result ℕ Refusal} → LongAs s r₁ → LongAs s r₂ → r₁ ≡ r₂
length_once x y = (no_second length_settles {left = tt {0}} (x.answer, refl) (y.answer, refl)).0

pub audit_once : (ws : List ℕ) {r₁ r₂ : Bool} → r₁ ≡ audited ws → r₂ ≡ audited ws → r₁ ≡ r₂
audit_once ws x y = (no_second itself {left = tt {0}} (x, refl) (y, refl)).0

pub request_once : {ws ws₁ ws₂ : List ℕ} {p : ℕ} {r₁ r₂ : Result Answer Refusal} → Requested ws p r₁ ws₁ → Requested ws p r₂ ws₂ → (r₁ ≡ r₂) × (ws₁ ≡ ws₂)
request_once x y = no_second request_settles (x.answer, x.memory) (y.answer, y.memory)

pub slot_once : {ws ws₁ ws₂ : List ℕ} {p : ℕ} {r₁ r₂ : Result ℕ Refusal} → SlotGiven ws p r₁ ws₁ → SlotGiven ws p r₂ ws₂ → (r₁ ≡ r₂) × (ws₁ ≡ ws₂)
slot_once x y = no_second slot_settles (x.answer, x.memory) (y.answer, y.memory)

pub look_once : {ws : List ℕ} {p : ℕ} {r₁ r₂ : Result Looked Refusal} → LookedAs ws p r₁ → LookedAs ws p r₂ → r₁ ≡ r₂
look_once x y = (no_second look_settles {left = tt {0}} (x.answer, refl) (y.answer, refl)).0

pub report_once : {ws : List ℕ} {j : ℕ} {buffer b₁ b₂ : List ℕ} {r₁ r₂ : Result ℕ Refusal} → ReportedAs ws j buffer r₁ b₁ → ReportedAs ws j buffer r₂ b₂ → (r₁ ≡ r₂) × (b₁ ≡ b₂)
report_once x y = no_second report_settles (x.answer, x.memory) (y.answer, y.memory)

pub replay_once : {ws trace ws₁ ws₂ : List ℕ} {r₁ r₂ : Result Counts Refusal} → ReplayedAs ws trace r₁ ws₁ → ReplayedAs ws trace r₂ ws₂ → (r₁ ≡ r₂) × (ws₁ ≡ ws₂)
replay_once x y = no_second replay_settles (x.answer, x.memory) (y.answer, y.memory)

pub curve_once : {m : ℕ} {t r w r₁ r₂ w₁ w₂ : List ℕ} {a₁ a₂ : Result (Unit {0}) Refusal} → CurvedAs m t r w a₁ r₁ w₁ → CurvedAs m t r w a₂ r₂ w₂ → (a₁ ≡ a₂) × (both r₁ w₁ ≡ both r₂ w₂)
curve_once x y = no_second curve_settles (x.answer, x.memory) (y.answer, y.memory)

pub read_once : {text trace t₁ t₂ : List ℕ} {r₁ r₂ : Result Accepted Refusal} → ReadAs text trace r₁ t₁ → ReadAs text trace r₂ t₂ → (r₁ ≡ r₂) × (t₁ ≡ t₂)
read_once x y = no_second read_settles (x.answer, x.memory) (y.answer, y.memory)

pub write_once : {s : Settings} {trace buffer b₁ b₂ : List ℕ} {r₁ r₂ : Result ℕ Refusal} → WrittenAs s trace buffer r₁ b₁ → WrittenAs s trace buffer r₂ b₂ → (r₁ ≡ r₂) × (b₁ ≡ b₂)
write_once x y = no_second write_settles (x.answer, x.memory) (y.answer, y.memory)

-- ── The C functions ──

-- pd_audit.
pub number_once : (ws : List ℕ) {r₁ r₂ : ℕ} → r₁ ≡ one_if (audited ws) → r₂ ≡ one_if (audited ws) → r₁ ≡ r₂
number_once ws x y = (no_second itself {left = tt {0}} (x, refl) (y, refl)).0

module _ {A : Type 0} {r₁ r₂ : ℕ} where
  -- pd_words and pd_look.
  pub told_once : {code : Said A → ℕ} {f : A → List ℕ} {said : Said A} {a a₁ a₂ : List ℕ} → Told code f said a r₁ a₁ → Told code f said a r₂ a₂ → (r₁ ≡ r₂) × (a₁ ≡ a₂)
  told_once x y = no_second itself (x.number, x.words) (y.number, y.words)

  module _ {L : Type 0} {o : Outcome A L} {l₁ l₂ : L} where
    -- pd_request, pd_report, pd_replay, pd_read and pd_write.
    pub told_and_once : {code : Said A → ℕ} {f : A → List ℕ} {a a₁ a₂ : List ℕ} → ToldAnd code f o a r₁ a₁ l₁ → ToldAnd code f o a r₂ a₂ l₂ → ((r₁ ≡ r₂) × (a₁ ≡ a₂)) × (l₁ ≡ l₂)
    told_and_once x y = (told_once x.told y.told, (no_second itself (x.told.number, x.left) (y.told.number, y.left)).1)

    -- pd_form and pd_curve.
    pub left_once : Left o r₁ l₁ → Left o r₂ l₂ → (r₁ ≡ r₂) × (l₁ ≡ l₂)
    left_once x y = no_second itself (x.number, x.left) (y.number, y.left)
