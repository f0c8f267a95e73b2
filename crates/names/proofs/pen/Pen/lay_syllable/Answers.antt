use Rattle.std.proofs.Common.{[], ◌∷◌, refl}
use Rattle.names.proofs.Laying.{lays_then, room_front}
use Rattle.names.proofs.pen.Pen.lay_syllable.Goals as goal

pub returns : goal.returns
returns c =
    let front = lays_then (34 ∷ c.args.bytes.now) c.lay_byte.ensures c.lay.ensures refl (room_front _ (34 ∷ []) _ refl c.requires) in
    lays_then _ front c.lay_byte-2.ensures refl c.requires
