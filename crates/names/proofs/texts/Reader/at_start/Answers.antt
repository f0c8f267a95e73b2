use Rattle.std.proofs.Common.{refl}
use Rattle.names.proofs.Lines.{line_laws}
use Rattle.names.proofs.Parting.{parted}
use Rattle.names.proofs.texts.Reader.at_start.Goals as goal

pub returns : goal.returns
returns c = record { value = refl; laws = record { parted = parted c.args.text.now 0; lines = line_laws } }
