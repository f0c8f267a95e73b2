-- The two lists of note names. Assumes nothing.
use Rattle.std.specs.Prelude.{ℕ, cond, List, length, Ok, Err, codes, Option, Result}
use Rattle.std.specs.Option.{ok_or}
use Rattle.std.specs.Str.{bytes_eq}
use Rattle.names.specs.declared.pitches.Naming.{Naming}
use Rattle.names.specs.declared.pitches.Naming.TheVariants.{English, German}
use Rattle.names.specs.declared.pitches.Step.{Step}
use Rattle.names.specs.declared.pitches.Step.TheVariants.{C, D, E, F, G, A, B}
use Rattle.names.specs.declared.pitches.Alteration.{Alteration}
use Rattle.names.specs.declared.pitches.Alteration.TheVariants.{DoubleFlat, Flat, Natural, Sharp, DoubleSharp}
use Rattle.names.specs.declared.pitches.Pitch.{Pitch}
use Rattle.names.specs.declared.refusals.Refusal.{Refusal}
use Rattle.names.specs.declared.refusals.Refusal.TheVariants.{UnknownName, NameBufferTooShort}
use Rattle.names.specs.Buffers.{fits}
use Rattle.names.specs.Choice.{pick}
use Rattle.names.specs.Pitches.{pitches}

-- one entry for each alteration, from double flat to double sharp
abbrev pub row : List ℕ → List ℕ → List ℕ → List ℕ → List ℕ → Alteration → List ℕ
row ff f n s ss DoubleFlat = ff
row ff f n s ss Flat = f
row ff f n s ss Natural = n
row ff f n s ss Sharp = s
row ff f n s ss DoubleSharp = ss

abbrev pub english : Step → Alteration → List ℕ
english C = row (codes "Cbb") (codes "Cb") (codes "C") (codes "C#") (codes "C##")
english D = row (codes "Dbb") (codes "Db") (codes "D") (codes "D#") (codes "D##")
english E = row (codes "Ebb") (codes "Eb") (codes "E") (codes "E#") (codes "E##")
english F = row (codes "Fbb") (codes "Fb") (codes "F") (codes "F#") (codes "F##")
english G = row (codes "Gbb") (codes "Gb") (codes "G") (codes "G#") (codes "G##")
english A = row (codes "Abb") (codes "Ab") (codes "A") (codes "A#") (codes "A##")
english B = row (codes "Bbb") (codes "Bb") (codes "B") (codes "B#") (codes "B##")

abbrev pub german : Step → Alteration → List ℕ
german C = row (codes "Ceses") (codes "Ces") (codes "C") (codes "Cis") (codes "Cisis")
german D = row (codes "Deses") (codes "Des") (codes "D") (codes "Dis") (codes "Disis")
german E = row (codes "Eses") (codes "Es") (codes "E") (codes "Eis") (codes "Eisis")
german F = row (codes "Feses") (codes "Fes") (codes "F") (codes "Fis") (codes "Fisis")
german G = row (codes "Geses") (codes "Ges") (codes "G") (codes "Gis") (codes "Gisis")
german A = row (codes "Ases") (codes "As") (codes "A") (codes "Ais") (codes "Aisis")
german B = row (codes "Heses") (codes "B") (codes "H") (codes "His") (codes "Hisis")

-- a pitch's name in a naming
abbrev pub name : Naming → Pitch → List ℕ
name English p = english p.step p.alteration
name German p = german p.step p.alteration

-- the pitch that has a name, if any
unfoldable pub pitch_named : Naming → List ℕ → Option Pitch
pitch_named n bs = pick (λ p. bytes_eq (name n p) bs) pitches

-- reading a name, and writing one to a buffer of a length
abbrev pub pitch_read : Naming → List ℕ → Result Pitch Refusal
pitch_read n bs = ok_or (pitch_named n bs) UnknownName

abbrev pub name_written : Naming → Pitch → List ℕ → Result ℕ Refusal
name_written n p out = cond (fits out 0 (name n p)) (Ok (length (name n p))) (Err NameBufferTooShort)
