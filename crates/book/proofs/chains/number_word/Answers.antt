use Rattle.std.proofs.Common.{◌∙◌, arith}
use Rattle.book.proofs.Along.{enters_one, enters_append, enters_length, enters_within}
use Rattle.book.proofs.chains.number_word.Goals as goal

pub enter-sized-requires : goal.enter-sized-requires
enter-sized-requires g c =
    let a = c.enter-ranked.ensures in
    omega (arith, c.requires, a.same, enters_length (enters_one a.after a.answer))

pub enter_spelling-spelled-requires : goal.enter_spelling-spelled-requires
enter_spelling-spelled-requires g c =
    let a = c.enter-ranked.ensures in
    let b = c.enter-sized.ensures in
    omega (arith, c.requires, a.same, b.same, enters_length (enters_one a.after a.answer), enters_length (enters_one b.after b.answer))

pub enter_children-requires : goal.enter_children-requires
enter_children-requires g c =
    let a = c.enter-ranked.ensures in
    let b = c.enter-sized.ensures in
    let d = c.enter_spelling-spelled.ensures in
    omega (arith, c.requires, a.same, b.same, d.same, enters_length (enters_one a.after a.answer), enters_length (enters_one b.after b.answer), enters_length d.enters)

pub returns : goal.returns
returns g c =
    let a = c.enter-ranked.ensures in
    let b = c.enter-sized.ensures in
    let d = c.enter_spelling-spelled.ensures in
    let e = c.enter_children.ensures in
    let one = enters_one a.after a.answer in
    let two = enters_one b.after b.answer in
    let all = enters_append (rw c.from.ensures at one) (enters_append (rw (c.from-2.ensures ∙ c.spelled_len.ensures) at two) (enters_append d.enters e.enters)) in
    let sound = g.R.Register.sound c.enter_children.new.register in
    record {
      enters = all;
      same = e.same ∙ (d.same ∙ (b.same ∙ a.same));
      low = omega (arith, enters_within all, sound.within, sound.most);
    }
