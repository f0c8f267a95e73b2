use Rattle.book.specs.Entries.{groups_of}
use Rattle.book.proofs.Along.{Along}
use Rattle.book.proofs.chains.enter_children.Given as goal

abbrev pub invariant-loop-child : goal.invariant-loop-child
invariant-loop-child g l =
    Along (g.R.Register.pairs l.initial.register) (g.R.Register.room l.initial.register) l.initial.number (groups_of l.children)
    (g.R.Register.pairs l.register) (g.R.Register.room l.register) l.number l.child-index
