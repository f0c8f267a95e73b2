use Rattle.std.proofs.Common.{◌≡◌, ◌+◌, ◌-◌, get_or, sym, ap, ◌∙◌, arith, length-drop}
use Rattle.std.proofs.lemmas.List.{get_or-drop}
use Rattle.book.proofs.Along.{along_none, along_more, along_all, enters_one, enters_first, enters_length}
use Rattle.book.proofs.chains.enter_spelling.Goals as goal

pub loop-place-init : goal.loop-place-init
loop-place-init g c =
    let e = c.enter-number.ensures in
    let l = enters_length (enters_one e.after e.answer) in
    let k = g.L.Label.spells c.args.label.now in
    along_none _ _ _ _ (omega (arith, c.requires, e.same, l, k.some, length-drop 1 (g.L.Label.spelling c.args.label.now)))

pub loop-place-preserved : goal.loop-place-preserved
loop-place-preserved g c =
    let s = c.enter-number-in-loop-place.ensures in
    let sp = g.L.Label.spelling c.args.label.now in
    let at : 1 + (c.loop-place.place - 1) ≡ c.loop-place.place = omega (arith, c.loop-place.auto.place) in
    along_more c.loop-place.invariant (omega (arith, c.loop-place-test.true, c.loop-place.auto.place, length-drop 1 sp)) (c.from-in-loop-place.ensures ∙ c.spelled_at.ensures ∙ (ap (λ p. get_or sp p 0) (sym at) ∙ sym (get_or-drop 1 sp (c.loop-place.place - 1) 0))) (omega (arith, c.loop-place.auto.place)) s.after s.answer s.same

pub returns : goal.returns
returns g c =
    let e = c.enter-number.ensures in
    let i = c.loop-place.invariant in
    let sp = g.L.Label.spelling c.args.label.now in
    let k = g.L.Label.spells c.args.label.now in
    let one = enters_one e.after e.answer in
    let kind = c.from.ensures ∙ (c.kind_number.ensures ∙ sym k.begins) in
    record {
      enters = enters_first k.some (rw kind at one) (along_all i (omega (arith, c.loop-place-test.false, length-drop 1 sp)));
      same = i.same ∙ e.same;
    }
