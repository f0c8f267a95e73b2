use Rattle.std.proofs.Common.{◌-◌, drop}
use Rattle.book.proofs.Along.{Along}
use Rattle.book.proofs.chains.enter_spelling.Given as goal

abbrev pub invariant-loop-place : goal.invariant-loop-place
invariant-loop-place g l =
    Along (g.R.Register.pairs l.initial.register) (g.R.Register.room l.initial.register) l.initial.number (drop 1 (g.L.Label.spelling l.label))
    (g.R.Register.pairs l.register) (g.R.Register.room l.register) l.number (l.place - 1)
