use Rattle.std.proofs.Common.{sym, ◌∙◌, arith}
use Rattle.registers.proofs.Listed.{place_in_first, place_in_passed}
use Rattle.registers.proofs.by_rows.Rows.place_of.Goals as goal

pub returns-then-i-pairs-clause-value : goal.returns-then-i-pairs-clause-value
returns-then-i-pairs-clause-value c = rw (← c.places-pairs.ensures) (sym (place_in_passed _ _ (λ k l. c.loop-i.invariant.passed k (omega arith))))

pub returns-then-eq-clause-value : goal.returns-then-eq-clause-value
returns-then-eq-clause-value c =
    rw (← c.places-pairs.ensures)
    (sym (place_in_first _ _ _ c.if-i-pairs.false (sym c.eq.ensures ∙ c.if-eq.true) c.loop-i.invariant.passed))
