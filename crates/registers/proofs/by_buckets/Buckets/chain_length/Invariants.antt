use Rattle.std.proofs.Common.{vec_len}
use Rattle.registers.specs.Bucketed.{pairs_of}
use Rattle.registers.proofs.Chained.{Counted}
use Rattle.registers.proofs.by_buckets.Buckets.chain_length.Given as goal

abbrev pub invariant-loop-slot : goal.invariant-loop-slot
invariant-loop-slot l = Counted (vec_len l.self.heads) (pairs_of l.self) l.bucket l.number l.length

-- links lead to earlier places
abbrev pub decreases-loop-slot : goal.decreases-loop-slot
decreases-loop-slot l = l.number
