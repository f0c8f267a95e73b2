-- The list of refusals: the number and the layer of each. Assumes nothing.
use Rattle.std.specs.Prelude.{ℕ, Bool, ◌==◌}
use Rattle.names.specs.declared.refusals.Refusal.{Refusal}
use Rattle.names.specs.declared.refusals.Refusal.TheVariants.{TextTooLong, TokenTooLong, NotOfForm, NoNaming, OutOfRange, UnknownName, BadOctaveOrLength, RankAboveTops, BookFull, RegisterFull, NoSuchPosition, NoSuchRepeat, TableTooShort, NotAScore, NoSuchVoice, NeverTyped, NameBufferTooShort, BufferTooShort}
use Rattle.names.specs.declared.refusals.Layer.{Layer}
use Rattle.names.specs.declared.refusals.Layer.TheVariants.{Text, Name, Book, Sheet}

pub record Listed : Type 0 where
  pub no : ℕ
  pub by : Layer

abbrev listing : ℕ → Layer → Listed
listing n l = record { no = n; by = l }

abbrev pub listed : Refusal → Listed
listed TextTooLong = listing 10 Text  -- over 65,536 bytes
listed TokenTooLong = listing 11 Text  -- over 64 bytes
listed NotOfForm = listing 12 Text  -- a frame or a syllable not of its form
listed NoNaming = listing 13 Text  -- a note before any naming word
listed OutOfRange = listing 21 Name  -- a naming above 1, a step above 6, an alteration beyond 2 either way
listed UnknownName = listing 22 Name  -- a name that is not in the list
listed BadOctaveOrLength = listing 23 Text  -- an octave or a length not of its form
listed RankAboveTops = listing 31 Book  -- a rank above the top passages
listed BookFull = listing 32 Book  -- 4,096 words are held
listed RegisterFull = listing 33 Book  -- fewer free places than 2, the spelling's length and the rank
listed NoSuchPosition = listing 41 Book  -- a position not below the words
listed NoSuchRepeat = listing 42 Book  -- a number not below the repeats
listed TableTooShort = listing 43 Book  -- a table too short for the ends
listed NotAScore = listing 51 Sheet  -- not exactly one top passage, or not a score
listed NoSuchVoice = listing 52 Sheet  -- a keyword that is no voice, or no such child
listed NeverTyped = listing 53 Sheet  -- a word that no typed token gives in the written reading
listed NameBufferTooShort = listing 54 Name  -- a buffer too short for a name
listed BufferTooShort = listing 54 Sheet  -- a buffer too short for anything else

abbrev pub number : Refusal → ℕ
number r = (listed r).no

abbrev pub layer : Refusal → Layer
layer r = (listed r).by

abbrev pub layer_number : Layer → ℕ
layer_number Text = 0
layer_number Name = 1
layer_number Book = 2
layer_number Sheet = 3

-- a refusal's place in the list, from 0, and whether two refusals are the same
abbrev pub place_of : Refusal → ℕ
place_of TextTooLong = 0
place_of TokenTooLong = 1
place_of NotOfForm = 2
place_of NoNaming = 3
place_of OutOfRange = 4
place_of UnknownName = 5
place_of BadOctaveOrLength = 6
place_of RankAboveTops = 7
place_of BookFull = 8
place_of RegisterFull = 9
place_of NoSuchPosition = 10
place_of NoSuchRepeat = 11
place_of TableTooShort = 12
place_of NotAScore = 13
place_of NoSuchVoice = 14
place_of NeverTyped = 15
place_of NameBufferTooShort = 16
place_of BufferTooShort = 17

abbrev pub same_refusal : Refusal → Refusal → Bool
same_refusal a b = place_of a == place_of b
