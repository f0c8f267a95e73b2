use Rattle.std.proofs.Common.{vec_len}
use Rattle.registers.specs.Bucketed.{pairs_of}
use Rattle.registers.proofs.Chained.{Come}
use Rattle.registers.proofs.by_buckets.Buckets.number_from.Given as goal

abbrev pub invariant-loop-slot : goal.invariant-loop-slot
invariant-loop-slot l = Come (vec_len l.self.heads) (pairs_of l.self) l.pair l.number

-- links lead to earlier places
abbrev pub decreases-loop-slot : goal.decreases-loop-slot
decreases-loop-slot l = l.number
