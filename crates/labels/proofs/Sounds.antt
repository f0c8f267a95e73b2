-- The sounding number + 2, from 0 to 123. Assumes nothing.
use Rattle.std.proofs.Common.{◌≡◌, ℕ, ◌+◌, pos, ◌+ℤ◌, refl, arith}
use Rattle.std.proofs.lemmas.Int.{ints}
use Rattle.names.specs.declared.pitches.Alteration.{Alteration}
use Rattle.names.specs.declared.pitches.Alteration.TheVariants.{DoubleFlat, Flat, Natural, Sharp, DoubleSharp}
use Rattle.names.specs.declared.pitches.Pitch.{Pitch}
use Rattle.names.specs.Pitches.{alteration_number}
use Rattle.labels.specs.Spellings.{raised, sounding, sounding_number}

pub raised_is : (a : Alteration) → pos (raised a) ≡ alteration_number a +ℤ pos 2
raised_is DoubleFlat = refl
raised_is Flat = refl
raised_is Natural = refl
raised_is Sharp = refl
raised_is DoubleSharp = refl

raised_from : (n : ℕ) (a : Alteration) → pos (n + raised a) ≡ (pos n +ℤ alteration_number a) +ℤ pos 2
raised_from n DoubleFlat = omega (arith, ints)
raised_from n Flat = omega (arith, ints)
raised_from n Natural = omega (arith, ints)
raised_from n Sharp = omega (arith, ints)
raised_from n DoubleSharp = omega (arith, ints)

pub sounding_is : (p : Pitch) (octave : ℕ) → pos (sounding p octave) ≡ sounding_number p octave +ℤ pos 2
sounding_is p octave = raised_from _ p.alteration
