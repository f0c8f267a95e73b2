use Rattle.std.proofs.Common.{sym}
use Rattle.registers.specs.Bucketed.{pairs_of}
use Rattle.registers.proofs.Chained.{come_first}
use Rattle.registers.proofs.Kept.{buckets, come_on, found, found_none, links_back}
use Rattle.registers.proofs.by_buckets.Buckets.number_from.Goals as goal

pub loop-slot-init : goal.loop-slot-init
loop-slot-init c = let s = c.args.self.now in come_first (buckets s) (pairs_of s) c.args.pair c.args.head c.requires

pub returns-then-eq : goal.returns-then-eq
returns-then-eq c = sym (found c.args.self.now _ _ c.in-Some.ensures c.args.pair (sym c.if-eq.ensures))

pub loop-slot-smaller : goal.loop-slot-smaller
loop-slot-smaller c = links_back c.args.self.now _ _ c.in-Some.ensures

pub loop-slot-preserved : goal.loop-slot-preserved
loop-slot-preserved c = come_on c.args.self.now _ _ c.in-Some.ensures c.args.pair c.loop-slot.invariant (sym c.if-eq.ensures)

pub returns : goal.returns
returns c = sym (found_none c.args.self.now _ c.in_default.ensures c.args.pair c.loop-slot.invariant)
