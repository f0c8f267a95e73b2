use Rattle.std.proofs.Common.{ap}
use Rattle.book.specs.Calls.{asked}
use Rattle.book.proofs.Performing.{performs_as, performs_take, performs_read}
use Rattle.book.proofs.arrangement.perform_taking.Goals as goal

pub returns-in-Take : goal.returns-in-Take
returns-in-Take g c = performs_as (ap (asked g.N.Takable.says) c.in-Take.is) (performs_take _ _ _ c.take_into-taken.result c.take_into-taken.ensures.after c.take_into-taken.ensures.takes)

pub returns-in-Read : goal.returns-in-Read
returns-in-Read g c = performs_as (ap (asked g.N.Takable.says) c.in-Read.is) (performs_read _ _ _ _ c.read-took.result c.read-took.ensures.after c.read-took.ensures.reads)
