-- The note reader, byte by byte. Assumes nothing.
use Rattle.std.specs.Prelude.{ℕ, ◌+◌, ◌-◌, Bool, true, false, cond, List, [], ◌∷◌, ◌==◌}
use Rattle.std.specs.Char.{is_ascii_digit}
use Rattle.names.specs.declared.notes.Part.{Part}
use Rattle.names.specs.declared.notes.Part.TheVariants.{Name, Octave, Stroke, Length, Amiss}
use Rattle.names.specs.declared.notes.NoteReader.{NoteReader}

abbrev pub start : NoteReader
start = record { part = Name; name = 0; octave = 0 }

abbrev pub onward : Part → NoteReader → NoteReader
onward p r = record { part = p; name = r.name; octave = r.octave }

abbrev pub stepped_at : Part → NoteReader → ℕ → NoteReader
stepped_at Name r b =
    cond (is_ascii_digit b) (record { part = Octave; name = r.name; octave = b - 48 }) (record { part = Name; name = r.name + 1; octave = r.octave })
stepped_at Octave r b = cond (b == 47) (onward Stroke r) (onward Amiss r)
stepped_at Stroke r b = onward Length r
stepped_at Length r b = onward Length r
stepped_at Amiss r b = onward Amiss r

abbrev pub stepped : NoteReader → ℕ → NoteReader
stepped r b = stepped_at r.part r b

unfoldable pub scanned : NoteReader → List ℕ → NoteReader
scanned r [] = r
scanned r (b ∷ bs) = scanned (stepped r b) bs

-- whether the octave and the stroke were read
abbrev pub struck : Part → Bool
struck Name = false
struck Octave = false
struck Stroke = true
struck Length = true
struck Amiss = false
