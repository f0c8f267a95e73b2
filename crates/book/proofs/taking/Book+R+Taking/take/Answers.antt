use Rattle.std.proofs.Common.{Ok, Err, arith}
use Rattle.std.proofs.lemmas.Result.{err_from_is_err_and}
use Rattle.book.specs.Books.{held}
use Rattle.book.specs.Words.{word}
use Rattle.book.proofs.Takings.{takes, take_refused, take_fine, fine_as_said, not_refused}
use Rattle.book.proofs.taking.Book+R+Taking.take.Goals as goal

pub returns-in_err-check_word : goal.returns-in_err-check_word
returns-in_err-check_word g c =
    let s = held c.args.self.now in
    let w = word c.args.rank (g.L.Label.spelling c.args.label.now) in
    let p = err_from_is_err_and c.from_residual.result c.from_residual.ensures.1 in
    let is = take_refused s w _ c.in_err-check_word.ensures in
    rw (p.1, p.2) (record { answer = is.0; after = is.1; takes = takes s s w (Err c.in_err-check_word.field-0.0) is.0 is.1 })

pub grow-entry-requires : goal.grow-entry-requires
grow-entry-requires g c =
    let s = c.args.self.now in
    let fine = not_refused _ _ _ _ (fine_as_said _ c.in_ok-check_word.ensures) in
    record {
      ranked = omega (arith, s.tops.ok.0, fine.0);
      few = fine.1;
      free = omega (arith, fine.2, (g.R.Register.sound s.register).within);
    }

pub returns : goal.returns
returns g c =
    let s = held c.args.self.now in
    let t = held c.grow-entry.new.self in
    let w = word c.args.rank (g.L.Label.spelling c.args.label.now) in
    let is = take_fine s t w c.grow-entry.result (fine_as_said _ c.in_ok-check_word.ensures) c.grow-entry.ensures.answer c.grow-entry.ensures.after in
    record { answer = is.0; after = is.1; takes = takes s t w (Ok (c.grow-entry.result.group, c.grow-entry.result.start)) is.0 is.1 }
