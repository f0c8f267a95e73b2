use Rattle.std.proofs.Common.{true, map, length, vec_items, ap, ◌∙◌, arith}
use Rattle.std.proofs.lemmas.List.{map_push, nil_from_length}
use Rattle.std.specs.Vec.Iter.{into_iter_items}
use Rattle.book.specs.Calls.{asked, said}
use Rattle.book.specs.States.{State}
use Rattle.book.specs.Performed.{standing}
use Rattle.book.proofs.Lawful.{going_more, going_end}
use Rattle.book.proofs.arrangement.perform_all.Goals as goal

pub loop-call-preserved : goal.loop-call-preserved
loop-call-preserved g c =
    let i = c.loop-call.invariant in
    let items = c.in-Some.ensures.steps.0 in
    let push = c.push_reserved.ensures in (
      tt,
      tt,
      going_more _ _ _ _ _ _ _ _ (asked g.N.Takable.says c.in-Some.call) (said c.perform-next.result.1) i.2 (ap (map (asked g.N.Takable.says)) items) (ap (map said) push.items ∙ map_push said (vec_items c.loop-call.answers) c.perform-next.result.1) c.perform-next.ensures,
      omega (arith, ap length items, push.len, push.capacity, i.3),
    )

pub returns : goal.returns
returns g c =
    let i = c.loop-call.invariant in
    let new = c.in_ok-new.ensures.value in
    let over = nil_from_length (into_iter_items c.loop-call.call-iterator) (omega (arith, c.in-None.ensures.steps.0, c.loop-call.call-iterator.rest.ok)) in
    let calls = c.into_iter-call-iterator.ensures.into_iter_gives.0 in
    let end = going_end _ _ _ _ _ _ _ _ (ap (λ (s : State). standing s true) new) i.2 (ap (map (asked g.N.Takable.says)) over) c.into_register.ensures.pairs in
    (rw (ap (map (asked g.N.Takable.says)) calls) at end.0, c.into_register.ensures.room ∙ end.1)
