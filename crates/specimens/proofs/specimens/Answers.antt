use Rattle.specimens.proofs.Worked.{specimens}
use Rattle.specimens.proofs.specimens.Goals as goal

pub returns : goal.returns
returns c = record { count = c.rows.ensures; hold = specimens }
