use Rattle.std.proofs.Common.{◌+◌, ◌<◌, length, vec_items}
use Rattle.std.specs.Iterator.Adapters.{enumerate_source, enumerate_count}
use Rattle.book.specs.Linking.{along}
use Rattle.book.specs.Ends.{left}
use Rattle.book.proofs.LinkingListed.{Filling}
use Rattle.book.proofs.linking.Index.write_ends.Given as goal

abbrev pub invariant-loop-place : goal.invariant-loop-place
invariant-loop-place l =
    goal.iterator-loop-place.can_next l.place-iterator × goal.iterator-loop-place.is_finite l.place-iterator ×
    (enumerate_count l.place-iterator + length (left (enumerate_source l.place-iterator)) < 18446744073709551616) ×
    Filling (along (vec_items l.self.later) l.first) l.initial.table (left (enumerate_source l.place-iterator)) (enumerate_count l.place-iterator) l.table
