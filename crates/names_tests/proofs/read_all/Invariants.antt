use Rattle.std.proofs.Common.{length}
use Rattle.names.specs.Reader.{unread}
use Rattle.names_tests.proofs.read_all.Given as goal

abbrev pub decreases-loop-tokens : goal.decreases-loop-tokens
decreases-loop-tokens l = length (unread l.reader).tokens
