use Rattle.std.proofs.Common.{◌+◌, ◌≤◌, map, length, vec_items, vec_len, vec_capacity}
use Rattle.std.specs.Vec.Iter.{into_iter_items}
use Rattle.book.specs.Calls.{asked, said}
use Rattle.book.specs.Performed.{stand_of}
use Rattle.book.proofs.Lawful.{Going}
use Rattle.book.proofs.arrangement.perform_all.Given as goal

abbrev pub invariant-loop-call : goal.invariant-loop-call
invariant-loop-call g l =
    (goal.iterator-loop-call g).can_next l.call-iterator ×
    (goal.iterator-loop-call g).is_finite l.call-iterator ×
    Going (stand_of l.initial.book) (map (asked g.N.Takable.says) (into_iter_items l.initial.call-iterator))
    (stand_of l.book) (map (asked g.N.Takable.says) (into_iter_items l.call-iterator)) (map said (vec_items l.answers)) ×
    (vec_len l.answers + length (into_iter_items l.call-iterator) ≤ vec_capacity l.answers)
