use Rattle.std.proofs.Common.{◌≡◌, ◌<◌, length, get_or, vec_items, refl, ap, ◌∙◌, arith}
use Rattle.book.specs.Linking.{number_at, later_of, ends_with}
use Rattle.book.specs.Repeats.{first}
use Rattle.book.specs.declared.linking.Index.{Index}
use Rattle.book.proofs.LinkingFirsts.{gathered_none, gathered_more, gathered_pass, gathered_all}
use Rattle.book.proofs.linking.Index.gather_firsts.Goals as goal
use Rattle.book.proofs.linking.Index.gather_firsts.Goals.{then-opens_repeat, else-opens_repeat}

pub loop-p-init : goal.loop-p-init
loop-p-init c = (rw c.clear.ensures.items (gathered_none c.args.entries.now), refl, refl)

pub loop-p-preserved : goal.loop-p-preserved
loop-p-preserved c =
    let es = c.args.entries.now in
    let p = c.loop-p.p in
    let i = c.loop-p.invariant in
    let l : p < length es = omega (arith, c.loop-p-test.true, ap length c.as_slice-entry-items.ensures.value) in
    let words = c.as_slice-entry-items.ensures.value in
    let read : get_or (vec_items c.loop-p.self.latest) (number_at c.as_slice-entry-items.result.now p) 0 ≡ first (ends_with es p) =
    ap (λ x. get_or (vec_items c.loop-p.self.latest) (number_at x p) 0) words ∙ (ap (λ t. get_or t (number_at es p) 0) i.1 ∙ c.requires.opened.each p l) in
    let link : get_or (vec_items c.loop-p.self.later) p 0 ≡ later_of es p = ap (λ t. get_or t p 0) i.2 ∙ c.requires.linked.each p l in
    let fs = vec_items c.loop-p.self.firsts in
    elim c.if-opens_repeat.branch [
      | then-opens_repeat w ↦ (
        rw (ap (λ (x : Index). vec_items x.firsts) w.self-is ∙ w.push_reserved.ensures.items) (gathered_more es p fs _ _ l read link i.0 w.if-opens_repeat.ensures),
        ap (λ (x : Index). vec_items x.latest) w.self-is ∙ i.1,
        ap (λ (x : Index). vec_items x.later) w.self-is ∙ i.2,
      )
      | else-opens_repeat w ↦ (
        rw (ap (λ (x : Index). vec_items x.firsts) w.self-is) (gathered_pass es p fs _ _ l read link i.0 w.if-opens_repeat.ensures),
        ap (λ (x : Index). vec_items x.latest) w.self-is ∙ i.1,
        ap (λ (x : Index). vec_items x.later) w.self-is ∙ i.2,
      )
    ]

pub returns : goal.returns
returns c =
    let i = c.loop-p.invariant in
    let over = ap length c.as_slice-entry-items.ensures.value in
    record {
      firsts = gathered_all c.args.entries.now c.loop-p.p (vec_items c.loop-p.self.firsts) (omega (arith, over, c.loop-p-test.false)) i.0;
      linked = rw i.2 c.requires.linked;
    }
