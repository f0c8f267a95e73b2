use Rattle.registers.proofs.Asked.{same_numbers_self}
use Rattle.registers.proofs.law.side_by_side.Goals as goal

pub returns-clause-law : goal.returns-clause-law
returns-clause-law g c room pairs places =
    rw (c.same_answers.ensures, c.number_all-n.ensures.front, c.number_all-m.ensures.front, room, pairs, places) (search same_numbers_self)
