use Rattle.std.proofs.Common.{◌+◌, ◌<◌, length, vec_items, ap, inl, arith}
use Rattle.std.specs.Iterator.Adapters.{enumerate_source, enumerate_count}
use Rattle.book.specs.Linking.{along}
use Rattle.book.specs.Ends.{left}
use Rattle.book.proofs.LinkingListed.{filling_more}
use Rattle.book.proofs.linking.Index.write_ends.Goals as goal

pub loop-place-preserved : goal.loop-place-preserved
loop-place-preserved c =
    let all = along (vec_items c.args.self.now.later) c.args.first in
    let s = c.in-Some.ensures.steps in
    let i = c.loop-place.invariant in
    let fits : enumerate_count c.next.new.self + length (left (enumerate_source c.next.new.self)) < 18446744073709551616 = omega (arith, i.2, ap length s.0, s.2) in
    let more = filling_more all c.args.table.now _ _ _ _ _ s.0 i.3 c.requires in
    ((tt, tt, inl fits), tt, fits, rw (s.1, s.2) more)
