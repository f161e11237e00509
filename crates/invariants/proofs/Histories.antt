-- The one walk over events: what each event keeps holds at the end of any history, and two that answer alike lead alike.
use mathlib.Core.Path.{◌≡◌, refl, ap, ◌∙◌}
use mathlib.Core.Bool.{Bool, true}
use mathlib.Core.List.{List, [], ◌∷◌}
use Rattle.meaning.specs.Base.{all}
use Rattle.meaning.specs.Room.{Reply}
use Rattle.meaning.specs.Calls.{Outcome, Event, run}
use Rattle.invariants.proofs.Tests.{and_left, and_right}

module _ {S W : Type 0} (answers : W → Event → Outcome Reply W) (gather : S → Event → Outcome Reply W → S) where
  -- What holds at the start, and is kept by each event that passes the test, holds at the end of events that pass it.
  pub run_keeps : (ok : Event → Bool) (I : S → W → Type 0) → ((s : S) (w : W) (e : Event) → ok e ≡ true → I s w → I (gather s e (answers w e)) (answers w e).left)
      → (es : List Event) → all ok es ≡ true → (s : S) (w : W) → I s w → I (run answers gather s w es).gathered (run answers gather s w es).left
  unfolding run
  run_keeps ok I keeps [] h s w i = i
  run_keeps ok I keeps (e ∷ es) h s w i =
      run_keeps ok I keeps es (and_right (ok e) (all ok es) h) (gather s e (answers w e)) (answers w e).left (keeps s w e (and_left (ok e) (all ok es) h) i)

-- Two that answer every event alike lead to the same end.
pub run_same : {S W : Type 0} (f g : W → Event → Outcome Reply W) (gather : S → Event → Outcome Reply W → S) → ((w : W) (e : Event) → f w e ≡ g w e)
    → (es : List Event) (s : S) (w : W) → run f gather s w es ≡ run g gather s w es
unfolding run
run_same f g gather same [] s w = refl
run_same f g gather same (e ∷ es) s w =
    run_same f g gather same es (gather s e (f w e)) (f w e).left ∙ ap (λ o. run g gather (gather s e o) o.left es) (same w e)
