-- What leaves a function by a `?` is the error that came.
use Rattle.std.proofs.Common.{◌≡◌, ap, ◌∙◌, Result, Err}
use Rattle.std.specs.Prelude.{IsErrAnd}
use Rattle.std.proofs.lemmas.Result.{err_from_is_err_and}

pub passed_on : {T E : Type 0} {e : E} (r : Result T E) → IsErrAnd r (λ y. y ≡ e) → r ≡ Err e
passed_on r h = let x = err_from_is_err_and r h in x.1 ∙ ap Err x.2
