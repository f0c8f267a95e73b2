use Rattle.std.proofs.Common.{length, vec_items}
use Rattle.names.specs.Reader.{unread}
use Rattle.renaming.specs.Renaming.{Sofar}
use Rattle.renaming.proofs.rewrite.Given as goal

abbrev pub invariant-loop-line : goal.invariant-loop-line
invariant-loop-line l = Sofar l.text l.to (vec_items l.line) l.tally (unread l.reader)

abbrev pub decreases-loop-line : goal.decreases-loop-line
decreases-loop-line l = length (unread l.reader).tokens
