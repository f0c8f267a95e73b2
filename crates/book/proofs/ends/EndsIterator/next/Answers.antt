use Rattle.std.proofs.Common.{◌≡◌, ◌∷◌, length, sym, ap, ◌∙◌, arith}
use Rattle.book.specs.Ends.{left}
use Rattle.book.specs.Linking.{walk}
use Rattle.book.proofs.LinkingListed.{walk_step}
use Rattle.book.proofs.ends.EndsIterator.next.Goals as goal

pub returns : goal.returns
returns c =
    let links = c.args.self.now.later.now in
    let end = c.in_ok-end.end in
    let step : left c.args.self.now ≡ end ∷ left (record { later = c.args.self.now.later; next = c.end_after-self.result }) =
    ap (walk (length links) links) c.in_ok-end.was ∙ (walk_step (length links) links end (omega arith) ∙ ap (λ at. end ∷ walk (length links) links at) (sym c.end_after-self.ensures)) in
    record { steps = step; goes = record { on = λ _. (tt, tt, omega (arith, ap length step)); keeps = tt; rests = λ _. tt } }
