-- What a `?` says where an option was made a result.
use Rattle.std.proofs.Common.{◌≡◌, Some, None, Ok, Err, Option, Result, refl, ap, ◌∙◌}
use Rattle.std.specs.Option.{ok_or}
use Rattle.std.specs.Result.{IsErrAnd}
use Rattle.std.proofs.lemmas.Result.{err_from_is_err_and}

-- it went on
pub had : {X E : Type 0} (o : Option X) (e : E) (s : Result X E) (x : X) → s ≡ ok_or o e → s ≡ Ok x → o ≡ Some x
had None e s x a b = absurd (cc)
had (Some y) e s x a b = cc

-- it refused
pub lacked : {X E : Type 0} (o : Option X) (e f : E) (s : Result X E) → s ≡ ok_or o e → s ≡ Err f → (o ≡ None) × (f ≡ e)
lacked None e f s a b = (refl, cc)
lacked (Some y) e f s a b = absurd (cc)

pub lacked_and : {X Y E : Type 0} (o : Option X) (e f : E) (s : Result X E) (r : Result Y E) → s ≡ ok_or o e → s ≡ Err f → IsErrAnd r (λ g. g ≡ f) → (o ≡ None) × (r ≡ Err e)
lacked_and o e f s r a b h =
    let p = err_from_is_err_and r h in
    let n = lacked o e f s a b in
    (n.0, p.1 ∙ ap (λ g. Err g) (p.2 ∙ n.1))
