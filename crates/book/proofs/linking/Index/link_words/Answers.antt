use Rattle.std.proofs.Common.{◌≡◌, ◌+◌, ◌-◌, ◌<◌, length, vec_items, arith, ap}
use Rattle.book.proofs.LinkingWords.{Back, back_more}
use Rattle.book.proofs.linking.Index.link_words.Goals as goal

pub loop-p-preserved : goal.loop-p-preserved
loop-p-preserved c =
    let es = c.args.entries.now in
    let table = vec_items c.loop-p.self.latest in
    let p = c.loop-p.p - 1 in
    let e : p + 1 ≡ c.loop-p.p = omega (arith, c.loop-p-test.true) in
    let b : Back es (p + 1) table (vec_items c.loop-p.self.later) = rw e c.loop-p.invariant in
    let l : p < length es = omega (arith, c.loop-p-test.true, c.loop-p.auto.p, ap length c.as_slice-count.ensures.value) in
    let low = c.as_slice-count.ensures.kept.numbered p l in
    back_more es p table (vec_items c.loop-p.self.later) b _ _ l (omega (arith, low, c.loop-p.self.wide, c.loop-p.self.latest.ok.0)) c.link_word.ensures.latest c.link_word.ensures.later
