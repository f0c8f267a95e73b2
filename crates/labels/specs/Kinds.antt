-- Each kind of label is spelled as a kind must be. Assumes nothing.
use Rattle.std.specs.Prelude.{◌≡◌, ℕ, suc, ◌<◌, ◌≤◌, true, List, [], ◌∷◌, length, nat_le, slice_index, refl}
use Rattle.std.proofs.Common.{arith}
use Rattle.std.proofs.lemmas.Bool.{and_parts, leb-true}
use Rattle.std.specs.List.{AllByRecursion}
use Rattle.names.specs.declared.pitches.Step.{Step}
use Rattle.names.specs.declared.pitches.Step.TheVariants.{C, D, E, F, G, A, B}
use Rattle.names.specs.declared.pitches.Alteration.{Alteration}
use Rattle.names.specs.declared.pitches.Alteration.TheVariants.{DoubleFlat, Flat, Natural, Sharp, DoubleSharp}
use Rattle.names.specs.declared.pitches.Pitch.{Pitch}
use Rattle.names.specs.declared.keywords.Keyword.{Keyword}
use Rattle.names.specs.declared.keywords.Keyword.TheVariants.{Bar, Verse, Chord, Sung, Score, Soprano, Alto1, Alto2, Tenor, Bass1, Bass2, Organ}
use Rattle.names.specs.Pitches.{step_number}
use Rattle.names.specs.Keywords.{keyword_number}
use Rattle.names.specs.Tokens.{lasting, sung}
use Rattle.labels.specs.Spellings.{Spells, bare_spelling, raised, written_spelling, rest_spelling, syllabic, syllable_spelling, frame_spelling, sounding_spelling}

pub bare_spells : Spells 0 1 bare_spelling
bare_spells = record { begins = refl; some = omega arith; within = omega arith; most = omega arith; small = (omega arith, tt) }

step_small : (s : Step) → step_number s < 65536
step_small C = omega arith
step_small D = omega arith
step_small E = omega arith
step_small F = omega arith
step_small G = omega arith
step_small A = omega arith
step_small B = omega arith

raised_small : (a : Alteration) → raised a < 65536
raised_small DoubleFlat = omega arith
raised_small Flat = omega arith
raised_small Natural = omega arith
raised_small Sharp = omega arith
raised_small DoubleSharp = omega arith

keyword_small : (k : Keyword) → keyword_number k < 65536
keyword_small Bar = omega arith
keyword_small Verse = omega arith
keyword_small Chord = omega arith
keyword_small Sung = omega arith
keyword_small Score = omega arith
keyword_small Soprano = omega arith
keyword_small Alto1 = omega arith
keyword_small Alto2 = omega arith
keyword_small Tenor = omega arith
keyword_small Bass1 = omega arith
keyword_small Bass2 = omega arith
keyword_small Organ = omega arith

-- a length, and an octave, is a byte

pub length_small : (lasts : ℕ) → lasting lasts ≡ true → lasts ≤ 255
length_small lasts l = let h = leb-true lasts 64 (and_parts (nat_le 1 lasts) (nat_le lasts 64) l).1 in omega arith

pub sung_small : (octave lasts : ℕ) → sung octave lasts ≡ true → (octave ≤ 255) × (lasts ≤ 255)
sung_small octave lasts s =
    let p = and_parts (nat_le octave 9) (lasting lasts) s in
    let h = leb-true octave 9 p.0 in
    (omega arith, length_small lasts p.1)

pub written_spells : (p : Pitch) (octave lasts : ℕ) → (octave ≤ 255) × (lasts ≤ 255) → Spells 1 5 (written_spelling p octave lasts)
written_spells p octave lasts (o, l) =
    record {
      begins = refl;
      some = omega arith;
      within = omega arith;
      most = omega arith;
      small = (omega arith, (step_small p.step, (raised_small p.alteration, (omega arith, (omega arith, tt)))));
    }

pub rest_spells : (lasts : ℕ) → lasts ≤ 255 → Spells 2 2 (rest_spelling lasts)
rest_spells lasts h = record { begins = refl; some = omega arith; within = omega arith; most = omega arith; small = (omega arith, (omega arith, tt)) }

bytes_small : (bs : List ℕ) → ((i : ℕ) → slice_index bs i < 256) → AllByRecursion (λ n. n < 65536) bs
bytes_small [] h = tt
bytes_small (b ∷ bs) h = let l : b < 256 = h 0 in (omega arith, bytes_small bs (λ i. h (suc i)))

pub syllable_short : (bs : List ℕ) → syllabic bs ≡ true → length bs ≤ 30
syllable_short bs s = leb-true (length bs) 30 (and_parts (nat_le 1 (length bs)) (nat_le (length bs) 30) s).1

pub syllable_spells : (bs : List ℕ) → length bs ≤ 30 → ((i : ℕ) → slice_index bs i < 256) → Spells 3 31 (syllable_spelling bs)
syllable_spells bs l h = record { begins = refl; some = omega arith; within = omega arith; most = omega arith; small = (omega arith, bytes_small bs h) }

pub frame_spells : (k : Keyword) → Spells 4 2 (frame_spelling k)
frame_spells k = record { begins = refl; some = omega arith; within = omega arith; most = omega arith; small = (omega arith, (keyword_small k, tt)) }

pub sounding_spells : (sounds lasts : ℕ) → sounds ≤ 255 → lasts ≤ 255 → Spells 5 3 (sounding_spelling sounds lasts)
sounding_spells sounds lasts s l = record { begins = refl; some = omega arith; within = omega arith; most = omega arith; small = (omega arith, (omega arith, (omega arith, tt))) }

pub raised_low : (sounds : ℕ) → sounds ≤ 123 → sounds ≤ 255
raised_low sounds h = omega arith
