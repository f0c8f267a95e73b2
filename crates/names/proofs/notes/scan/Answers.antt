use Rattle.std.proofs.Common.{◌+◌, get_or, drop, sym, ap, ◌∙◌, arith}
use Rattle.std.proofs.lemmas.List.{at_drop_all}
use Rattle.names.specs.Scanned.{scanned}
use Rattle.names.proofs.Scanning.{scan_more, named_more}
use Rattle.names.proofs.notes.scan.Goals as goal

pub loop-byte-preserved : goal.loop-byte-preserved
loop-byte-preserved c =
    let e = c.next.ensures in
    let n = named_more c.loop-byte.reader (get_or c.args.bytes.now c.loop-byte.byte-index 0) in
    let m = ap (λ r. r.name) e in
    (omega arith, ap (λ r. scanned r (drop (c.loop-byte.byte-index + 1) c.args.bytes.now)) e ∙ sym (scan_more c.loop-byte.reader c.args.bytes.now c.loop-byte.byte-index c.loop-byte-test.true) ∙ c.loop-byte.invariant.1)

pub returns : goal.returns
unfolding scanned
returns c = sym (at_drop_all (scanned c.loop-byte.reader) c.args.bytes.now c.loop-byte.byte-index c.loop-byte-test.false) ∙ c.loop-byte.invariant.1
