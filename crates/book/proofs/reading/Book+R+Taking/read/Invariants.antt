use Rattle.std.proofs.Common.{length}
use Rattle.names.specs.Reader.{unread}
use Rattle.book.specs.Books.{held}
use Rattle.book.proofs.Telling.{Going}
use Rattle.book.proofs.reading.Book+R+Taking.read.Given as goal

abbrev pub invariant-loop-placed : goal.invariant-loop-placed
invariant-loop-placed g l =
    Going l.reading (held l.initial.self) (unread l.initial.reader)
    (held l.self) (unread l.reader)

abbrev pub decreases-loop-placed : goal.decreases-loop-placed
decreases-loop-placed g l = length (unread l.reader).tokens
