use Rattle.std.proofs.Common.{sym, refl, arith}
use Rattle.std.proofs.lemmas.List.{length-map, get_or-map}
use Rattle.book.specs.Entries.{entry, group_of}
use Rattle.book.proofs.Along.{along_none, along_more}
use Rattle.book.proofs.chains.enter_children.Goals as goal

pub loop-child-init : goal.loop-child-init
loop-child-init g c = along_none _ _ _ _ (omega (arith, length-map c.args.children.now group_of))

pub loop-child-preserved : goal.loop-child-preserved
loop-child-preserved g c =
    let s = c.enter-number.ensures in
    along_more c.loop-child.invariant (omega (arith, length-map c.args.children.now group_of)) (sym (get_or-map group_of c.args.children.now c.loop-child.child-index (entry 0 0) 0 c.loop-child-test.true)) refl s.after s.answer s.same
