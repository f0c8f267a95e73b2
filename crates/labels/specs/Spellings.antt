-- Spellings: what a label means, and how each kind of label is spelled. Assumes nothing.
use Rattle.std.specs.Prelude.{◌≡◌, ℕ, ◌+◌, ◌*◌, ◌<◌, ◌≤◌, Bool, cond, ◌&&◌, List, [], ◌∷◌, length, ℤ, pos, ◌+ℤ◌, Some, None, Option, nat_le, slice_index_or}
use Rattle.std.specs.List.{AllByRecursion}
use Rattle.names.specs.declared.pitches.Step.{Step}
use Rattle.names.specs.declared.pitches.Step.TheVariants.{C, D, E, F, G, A, B}
use Rattle.names.specs.declared.pitches.Alteration.{Alteration}
use Rattle.names.specs.declared.pitches.Alteration.TheVariants.{DoubleFlat, Flat, Natural, Sharp, DoubleSharp}
use Rattle.names.specs.declared.pitches.Pitch.{Pitch}
use Rattle.names.specs.declared.keywords.Keyword.{Keyword}
use Rattle.names.specs.Pitches.{step_number, alteration_number}
use Rattle.names.specs.Keywords.{keyword_number}
use Rattle.names.specs.Tokens.{lasting, sung}

-- What holds of every spelling of a kind: it begins with the kind number, and has at least one number and at most as many
-- as the longest spelling of the kind, which is 32 or less; and all of them are below 65,536.
pub record Spells (kind longest : ℕ) (s : List ℕ) : Type 0 where
  pub begins : slice_index_or s 0 0 ≡ kind
  pub some : 1 ≤ length s
  pub within : length s ≤ longest
  pub most : longest ≤ 32
  pub small : AllByRecursion (λ n. n < 65536) s

-- a bare node: nothing behind the kind number
abbrev pub bare_spelling : List ℕ
bare_spelling = 0 ∷ []

-- an alteration + 2
abbrev pub raised : Alteration → ℕ
raised DoubleFlat = 0
raised Flat = 1
raised Natural = 2
raised Sharp = 3
raised DoubleSharp = 4

-- a written note: step, alteration + 2, octave, length
abbrev pub written_spelling : Pitch → ℕ → ℕ → List ℕ
written_spelling p octave lasts = 1 ∷ step_number p.step ∷ raised p.alteration ∷ octave ∷ lasts ∷ []

-- a rest: length
abbrev pub rest_spelling : ℕ → List ℕ
rest_spelling lasts = 2 ∷ lasts ∷ []

-- a syllable: its bytes
abbrev pub syllable_spelling : List ℕ → List ℕ
syllable_spelling bs = 3 ∷ bs

-- a frame: the keyword's number
abbrev pub frame_spelling : Keyword → List ℕ
frame_spelling k = 4 ∷ keyword_number k ∷ []

-- half tones from C up to the step
abbrev pub half_tones : Step → ℕ
half_tones C = 0
half_tones D = 2
half_tones E = 4
half_tones F = 5
half_tones G = 7
half_tones A = 9
half_tones B = 11

-- the sounding number: 12 to the octave, the step and the alteration
abbrev pub sounding_number : Pitch → ℕ → ℤ
sounding_number p octave = pos (12 * octave + half_tones p.step) +ℤ alteration_number p.alteration

-- the sounding number + 2
abbrev pub sounding : Pitch → ℕ → ℕ
sounding p octave = 12 * octave + half_tones p.step + raised p.alteration

-- a sounding note: sounding number + 2, length
abbrev pub sounding_spelling : ℕ → ℕ → List ℕ
sounding_spelling sounds lasts = 5 ∷ sounds ∷ lasts ∷ []

-- Whether a label can be made: octaves from 0 to 9, lengths from 1 to 64, syllables of 1 to 30 bytes.

abbrev pub made_if : Bool → List ℕ → Option (List ℕ)
made_if can s = cond can (Some s) None

abbrev pub written_made : Pitch → ℕ → ℕ → Option (List ℕ)
written_made p octave lasts = made_if (sung octave lasts) (written_spelling p octave lasts)

abbrev pub rest_made : ℕ → Option (List ℕ)
rest_made lasts = made_if (lasting lasts) (rest_spelling lasts)

abbrev pub syllabic : List ℕ → Bool
syllabic bs = nat_le 1 (length bs) && nat_le (length bs) 30

abbrev pub syllable_made : List ℕ → Option (List ℕ)
syllable_made bs = made_if (syllabic bs) (syllable_spelling bs)

abbrev pub sounding_made : Pitch → ℕ → ℕ → Option (List ℕ)
sounding_made p octave lasts = made_if (sung octave lasts) (sounding_spelling (sounding p octave) lasts)
