use Rattle.std.proofs.Common.{[], ◌∷◌, ◌++◌, decimal, refl, ap}
use Rattle.std.proofs.lemmas.List.{append_assoc}
use Rattle.names.proofs.Laying.{lays_then, lays_as, room_front}
use Rattle.names.proofs.pen.Pen.lay_marked.Goals as goal

pub returns : goal.returns
returns c =
    let bs = c.args.bytes.now in
    let parts = append_assoc bs (c.args.mark ∷ []) (decimal c.args.number) in
    let front = lays_then (bs ++ c.args.mark ∷ []) c.lay.ensures c.lay_byte.ensures refl (room_front _ (decimal c.args.number) _ parts c.requires) in
    lays_then _ front (lays_as c.lay_decimal.ensures (ap decimal c.from.ensures)) parts c.requires
