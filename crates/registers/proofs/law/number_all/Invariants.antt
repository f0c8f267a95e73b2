use Rattle.registers.specs.Asking.{fitting}
use Rattle.registers.proofs.Asked.{Going}
use Rattle.registers.proofs.law.number_all.Given as goal

abbrev pub invariant-loop-place : goal.invariant-loop-place
invariant-loop-place g l =
    Going (g.R.Register.room l.initial.register) (g.R.Register.pairs l.initial.register) (fitting l.asked l.initial.given) l.initial.given
    (g.R.Register.room l.register) (g.R.Register.pairs l.register) l.given l.place
