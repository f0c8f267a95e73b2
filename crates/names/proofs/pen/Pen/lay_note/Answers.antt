use Rattle.std.proofs.Common.{◌≡◌, ◌+◌, [], ◌∷◌, ◌++◌, decimal, sym}
use Rattle.std.proofs.lemmas.List.{append_assoc}
use Rattle.names.specs.declared.pitches.Naming.{Naming}
use Rattle.names.specs.declared.tokens.Note.{Note}
use Rattle.names.specs.Heard.{noted}
use Rattle.names.specs.Names.{name}
use Rattle.names.specs.Tokens.{spelled, marked}
use Rattle.names.proofs.Laying.{lays_then, room_front, room_behind}
use Rattle.names.proofs.pen.Pen.lay_note.Goals as goal

parts : (n : Naming) (x : Note) → name n x.pitch ++ marked ((48 + x.octave) ∷ []) 47 x.length ≡ spelled n (noted x)
unfolding spelled
parts n x = sym (append_assoc (name n x.pitch) ((48 + x.octave) ∷ []) (47 ∷ decimal x.length))

pub lay_name-requires : goal.lay_name-requires
lay_name-requires c = room_front _ _ _ (parts c.args.naming c.args.note.now) c.requires.room

pub lay_marked-requires : goal.lay_marked-requires
lay_marked-requires c = room_behind _ _ c.lay_name.ensures (parts c.args.naming c.args.note.now) c.requires.room

pub returns : goal.returns
returns c = lays_then _ c.lay_name.ensures c.lay_marked.ensures (parts c.args.naming c.args.note.now) c.requires.room
