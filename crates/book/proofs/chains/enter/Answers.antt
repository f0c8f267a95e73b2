use Rattle.std.proofs.Common.{is_some, sym, ap, ◌∙◌}
use Rattle.registers.specs.Pairs.{pair}
use Rattle.book.proofs.Along.{numbered_in_room}
use Rattle.book.proofs.Numbered.{hold_in_room}
use Rattle.book.proofs.chains.enter.Goals as goal

pub unwrap-requires : goal.unwrap-requires
unwrap-requires g c = ap is_some (c.number.ensures.answer ∙ numbered_in_room _ _ (pair c.args.number c.args.item) c.requires)

pub returns : goal.returns
returns g c =
    record {
      answer = let same = sym c.unwrap.ensures ∙ (c.number.ensures.answer ∙ numbered_in_room _ _ (pair c.args.number c.args.item) c.requires) in cc;
      after = c.number.ensures.after ∙ hold_in_room _ _ _ c.requires;
      same = c.number.ensures.same;
    }
