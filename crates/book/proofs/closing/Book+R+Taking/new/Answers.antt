use Rattle.std.proofs.Common.{length, refl, ap, arith}
use Rattle.book.proofs.Laws.{passage_laws}
use Rattle.book.proofs.Takings.{fresh_is, fresh_holds}
use Rattle.book.proofs.closing.Book+R+Taking.new.Goals as goal

pub returns-in_default : goal.returns-in_default
returns-in_default g c = record { value = refl; laws = passage_laws; holds = tt }

pub invariant_of-result : goal.invariant_of-result
invariant_of-result g c =
    let made = c.in-Ok.ensures in
    let words = ap length made.words in
    let tops = ap length made.tops in
    record {
      few = omega (arith, words);
      fewer = omega (arith, tops, c.in-Ok.tops.ok.0);
      stacked = made.room;
      within = λ p h. absurd (omega (arith, h, tops));
      staged = tt;
    }

pub returns : goal.returns
returns g c =
    let e = fresh_is _ _ _ _ c.in-Ok.ensures.words c.in-Ok.ensures.tops in
    record { value = e; laws = passage_laws; holds = fresh_holds _ _ _ e }
