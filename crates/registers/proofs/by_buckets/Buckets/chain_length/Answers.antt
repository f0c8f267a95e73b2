use Rattle.std.proofs.Common.{◌<◌, rules}
use Rattle.registers.specs.Bucketed.{pairs_of}
use Rattle.registers.proofs.Chained.{counted_first}
use Rattle.registers.proofs.Kept.{buckets, head_read, counted_on, counted_few, counted_all, links_back}
use Rattle.registers.proofs.by_buckets.Buckets.chain_length.Goals as goal

pub loop-slot-init : goal.loop-slot-init
loop-slot-init c =
    let s = c.args.self.now in
    counted_first (buckets s) (pairs_of s) c.args.bucket _ (head_read s c.args.bucket c.index-number.result.now c.requires c.index-number.ensures)

pub overflow_add-length : goal.overflow_add-length
overflow_add-length c =
    let l : c.loop-slot.length < 32768 = counted_few c.args.self.now _ _ c.in-Some.ensures c.args.bucket _ c.loop-slot.invariant in
    search rules

pub loop-slot-smaller : goal.loop-slot-smaller
loop-slot-smaller c = links_back c.args.self.now _ _ c.in-Some.ensures

pub loop-slot-preserved : goal.loop-slot-preserved
loop-slot-preserved c = counted_on c.args.self.now _ _ c.in-Some.ensures c.args.bucket _ c.loop-slot.invariant

pub returns : goal.returns
returns c = counted_all c.args.self.now _ c.in_default.ensures c.args.bucket _ c.loop-slot.invariant
