-- What a function returns at the exit of a `?`: the error that the call answered. Assumes nothing.
use Rattle.std.proofs.Common.{◌≡◌, ap, ◌∙◌, Result, Err, IsErrAnd}
use Rattle.std.proofs.lemmas.Result.{err_from_is_err_and}

pub handed-on : {T E : Type 0} {r : Result T E} {e : E} → IsErrAnd r (λ y. y ≡ e) → r ≡ Err e
handed-on {r = r} k = let p = err_from_is_err_and r k in p.1 ∙ ap Err p.2
