use Rattle.std.proofs.Common.{◌≡◌, vec_len}
use Rattle.registers.specs.Chains.{longest_below}
use Rattle.registers.specs.Bucketed.{pairs_of}
use Rattle.registers.proofs.by_buckets.Buckets.longest_chain.Given as goal

abbrev pub invariant-loop-bucket : goal.invariant-loop-bucket
invariant-loop-bucket l = l.longest ≡ longest_below (vec_len l.self.heads) (pairs_of l.self) l.bucket
