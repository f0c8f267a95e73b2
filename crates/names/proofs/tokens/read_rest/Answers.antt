use Rattle.std.proofs.Common.{sym, ap, ◌∙◌}
use Rattle.names.specs.Tokens.{rest, length_read, of_length, rest_read}
use Rattle.names.proofs.Refusing.{had, lacked_and}
use Rattle.names.proofs.tokens.read_rest.Goals as goal

pub returns-in_err-length : goal.returns-in_err-length
unfolding rest_read
returns-in_err-length c =
    let l = lacked_and _ _ _ _ c.from_residual.result c.ok_or.ensures.value c.in_err-length.was c.from_residual.ensures.1 in
    rw l.1 (record { value = ap (λ o. of_length o rest) (sym l.0 ∙ c.read_number.ensures ∙ ap length_read c.split_at.ensures.back); borrows = tt })

pub returns : goal.returns
unfolding rest_read
returns c =
    let h = had _ _ _ _ c.ok_or.ensures.value c.in_ok-length.was in
    record { value = ap (λ o. of_length o rest) (sym h ∙ c.read_number.ensures ∙ ap length_read c.split_at.ensures.back); borrows = tt }
