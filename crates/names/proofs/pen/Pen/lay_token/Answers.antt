use Rattle.std.proofs.Common.{sym, ap, ◌∙◌}
use Rattle.names.specs.Heard.{said}
use Rattle.names.specs.Tokens.{spelled, marked}
use Rattle.names.proofs.Laying.{lays_as, room_as}
use Rattle.names.proofs.pen.Pen.lay_token.Goals as goal

pub lay-requires : goal.lay-requires
unfolding spelled
lay-requires c = room_as c.requires.room (c.word.ensures ∙ ap (λ t. spelled c.args.naming (said t)) (sym c.in-Naming.is))

pub lay_syllable-requires : goal.lay_syllable-requires
unfolding spelled
lay_syllable-requires c = room_as c.requires.room (ap (λ t. spelled c.args.naming (said t)) (sym c.in-Syllable.is))

pub lay_marked-requires : goal.lay_marked-requires
unfolding spelled
lay_marked-requires c = room_as c.requires.room (ap (λ t. spelled c.args.naming (said t)) (sym c.in-Rest.is))

pub lay_marked-requires-in-Frame : goal.lay_marked-requires-in-Frame
unfolding spelled
lay_marked-requires-in-Frame c =
    room_as c.requires.room (ap (λ w. marked w 58 c.in-Frame.rank) c.word-in-Frame.ensures ∙ ap (λ t. spelled c.args.naming (said t)) (sym c.in-Frame.is))

pub returns-in-Naming : goal.returns-in-Naming
unfolding spelled
returns-in-Naming c = lays_as c.lay.ensures (c.word.ensures ∙ ap (λ t. spelled c.args.naming (said t)) (sym c.in-Naming.is))

pub returns-in-Syllable : goal.returns-in-Syllable
unfolding spelled
returns-in-Syllable c = lays_as c.lay_syllable.ensures (ap (λ t. spelled c.args.naming (said t)) (sym c.in-Syllable.is))

pub returns-in-Rest : goal.returns-in-Rest
unfolding spelled
returns-in-Rest c = lays_as c.lay_marked.ensures (ap (λ t. spelled c.args.naming (said t)) (sym c.in-Rest.is))

pub returns-in-Frame : goal.returns-in-Frame
unfolding spelled
returns-in-Frame c =
    lays_as c.lay_marked-in-Frame.ensures (ap (λ w. marked w 58 c.in-Frame.rank) c.word-in-Frame.ensures ∙ ap (λ t. spelled c.args.naming (said t)) (sym c.in-Frame.is))
