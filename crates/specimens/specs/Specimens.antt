-- Worked examples: texts and words, and what a book over an empty register of 4,096 places makes of them. Assumes nothing.
use Rattle.std.specs.Prelude.{◌≡◌, ℕ, List, [], ◌∷◌, map, pos, Ok, Err, codes}
use Rattle.names.specs.declared.pitches.Step.TheVariants as step
use Rattle.names.specs.declared.pitches.Alteration.TheVariants as alteration
use Rattle.names.specs.declared.pitches.Pitch.{Pitch}
use Rattle.names.specs.declared.refusals.Refusal.TheVariants.{NoNaming, UnknownName}
use Rattle.labels.specs.Spellings.{bare_spelling, sounding_number}
use Rattle.book.specs.declared.readings.Reading.{Reading}
use Rattle.book.specs.declared.readings.Reading.TheVariants.{Written, Sounding}
use Rattle.book.specs.Words.{Word, word}
use Rattle.book.specs.Readings.{fault_at}
use Rattle.book.specs.Questions.{listing}
use Rattle.book.specs.Arrangements.{Asked, read, close, words, tops, group, repeats, list, Said, took, counted, told, done, listed, answers}

-- the answers to a reading of a text and to calls behind it
abbrev pub answers_behind : Reading → List ℕ → List Asked → List Said
answers_behind r text cs = answers [] 4096 (read r text ∷ cs)

abbrev pub pitched : step.the_data → alteration.the_data → Pitch
pitched s a = record { step = s; alteration = a }

abbrev pub bare_word : ℕ → Word
bare_word rank = word rank bare_spelling

-- a tree given by the ranks of its nodes in postfix order
abbrev pub ranked : List Word
ranked = map bare_word (0 ∷ 0 ∷ 0 ∷ 1 ∷ 2 ∷ 0 ∷ 1 ∷ 3 ∷ 0 ∷ 1 ∷ 1 ∷ 1 ∷ 0 ∷ 0 ∷ 1 ∷ 2 ∷ 2 ∷ 0 ∷ 0 ∷ 2 ∷ 0 ∷ 0 ∷ 1 ∷ 2 ∷ 4 ∷ [])

pub record Specimens : Type 0 where
  -- the empty text: no words, no repeats
  pub empty : answers_behind Written [] (words ∷ close ∷ repeats ∷ []) ≡ took (Ok 0) ∷ counted 0 ∷ done ∷ counted 0 ∷ []
  -- a note before any naming
  pub unnamed : answers_behind Written (codes "H4/4") [] ≡ took (Err (fault_at 0 NoNaming)) ∷ []
  -- names that are in no list, or in the other one
  pub no_name : answers_behind Written (codes "german Hes4/4") [] ≡ took (Err (fault_at 7 UnknownName)) ∷ []
  pub not_english : answers_behind Written (codes "english H4/4") [] ≡ took (Err (fault_at 8 UnknownName)) ∷ []
  -- two equal top passages make a repeat with the ends 0 and 1
  pub two_bars : answers_behind Written (codes "bar:0 bar:0") (tops ∷ close ∷ repeats ∷ list 0 (9 ∷ 9 ∷ 9 ∷ []) ∷ []) ≡ took (Ok 2) ∷ counted 2 ∷ done ∷ counted 1 ∷ listed (Ok (record { group = 4; size = 1; count = 2 })) (0 ∷ 1 ∷ 9 ∷ []) ∷ []
  -- two notes that sound alike, with the number 60, and are written otherwise
  pub alike : answers_behind Sounding (codes "german His4/4 C5/4") (group 0 ∷ group 1 ∷ []) ≡ took (Ok 2) ∷ told (Ok 5) ∷ told (Ok 5) ∷ []
  pub sixty : (sounding_number (pitched step.B alteration.Sharp) 4 ≡ pos 60) × (sounding_number (pitched step.C alteration.Natural) 5 ≡ pos 60)
  pub unlike : answers_behind Written (codes "german His4/4 C5/4") (group 0 ∷ group 1 ∷ []) ≡ took (Ok 2) ∷ told (Ok 7) ∷ told (Ok 11) ∷ []
  -- three repeats: eleven leaves, a leaf under one node in five places, and that beside a leaf in three
  pub tree : listing [] ranked ≡ (0 ∷ 1 ∷ 2 ∷ 5 ∷ 8 ∷ 12 ∷ 13 ∷ 17 ∷ 18 ∷ 20 ∷ 21 ∷ []) ∷ (3 ∷ 6 ∷ 9 ∷ 14 ∷ 22 ∷ []) ∷ (4 ∷ 15 ∷ 23 ∷ []) ∷ []
