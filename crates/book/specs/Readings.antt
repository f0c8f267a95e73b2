-- The words of a text under a reading, and what reading it does to a book. Assumes nothing.
use Rattle.std.specs.Prelude.{◌≡◌, ℕ, List, [], ◌∷◌, ◌++◌, map, length, Some, None, Ok, Err, filter, Option, Result, nat_lt}
use Rattle.names.specs.declared.pitches.Pitch.{Pitch}
use Rattle.names.specs.declared.refusals.Fault.{Fault}
use Rattle.names.specs.declared.refusals.Refusal.{Refusal}
use Rattle.names.specs.Tokens.{Said, naming, syllable, note, rest, frame}
use Rattle.names.specs.Texts.{Told, text_told}
use Rattle.registers.specs.declared.pairs.Pair.{Pair}
use Rattle.book.specs.declared.readings.Reading.{Reading}
use Rattle.book.specs.declared.readings.Reading.TheVariants.{Written, Sounding, Bare}
use Rattle.labels.specs.Spellings.{bare_spelling, written_spelling, rest_spelling, syllable_spelling, frame_spelling, sounding, sounding_spelling}
use Rattle.book.specs.Words.{Word, word}
use Rattle.book.specs.States.{State, refused, grown, take_answer, after_take}
use Rattle.book.specs.Taken.{Holds, word_refusal}

-- what a label is spelled as: bare, nothing is told of it
abbrev pub spelled_in : Reading → List ℕ → List ℕ
spelled_in Written s = s
spelled_in Sounding s = s
spelled_in Bare s = bare_spelling

abbrev pub note_in : Reading → Pitch → ℕ → ℕ → List ℕ
note_in Written p octave lasts = written_spelling p octave lasts
note_in Sounding p octave lasts = sounding_spelling (sounding p octave) lasts
note_in Bare p octave lasts = bare_spelling

-- the word that a token tells; a naming word tells none, and only frames have children
abbrev pub word_of : Reading → Said → Option Word
word_of r (naming n) = None
word_of r (syllable s) = Some (word 0 (spelled_in r (syllable_spelling s)))
word_of r (note p octave lasts) = Some (word 0 (note_in r p octave lasts))
word_of r (rest lasts) = Some (word 0 (spelled_in r (rest_spelling lasts)))
word_of r (frame k rank) = Some (word rank (spelled_in r (frame_spelling k)))

-- a word and the byte where its token begins
pub record Placed : Type 0 where
  pub byte : ℕ
  pub said : Word

abbrev pub placing : ℕ → Option Word → List Placed → List Placed
placing at None ps = ps
placing at (Some w) ps = record { byte = at; said = w } ∷ ps

-- the words that tokens tell, in turn
abbrev pub placed : Reading → List Told → List Placed
placed r [] = []
placed r (t ∷ ts) = placing t.byte (word_of r t.says) (placed r ts)

abbrev pub said_of : Placed → Word
said_of p = p.said

-- the words of a text, up to the token at which it is stopped
abbrev pub text_words : Reading → List ℕ → List Placed
text_words r text = placed r (text_told text).tokens

-- the words that a reading adds, by its answer: all, or those whose tokens begin before the fault
abbrev pub words_added : List Placed → Result ℕ Fault → List Word
words_added ps (Ok n) = map said_of ps
words_added ps (Err f) = map said_of (filter (λ p. nat_lt p.byte f.byte) ps)

abbrev pub fault_at : ℕ → Refusal → Fault
fault_at at r = record { refusal = r; byte = at }

-- where a word is refused, or else what comes of the others
abbrev pub faulting : ℕ → Option Refusal → Option Fault → Option Fault
faulting at None later = later
faulting at (Some r) later = Some (fault_at at r)

-- The fault at which taking the words in turn stops: that of the first word refused, or else the one that stops the text.
abbrev pub first_fault : List Pair → ℕ → List Word → List Placed → Option Fault → Option Fault
first_fault qs room ws [] f = f
first_fault qs room ws (p ∷ ps) f = faulting p.byte (word_refusal qs room ws p.said) (first_fault qs room (ws ++ p.said ∷ []) ps f)

-- the answer to a reading: how many words it took, or the fault
abbrev pub read_as : List Placed → Option Fault → Result ℕ Fault
read_as ps None = Ok (length ps)
read_as ps (Some f) = Err f

abbrev pub reading_answer : List Pair → ℕ → List Word → Reading → List ℕ → Result ℕ Fault
reading_answer qs room ws r text = read_as (text_words r text) (first_fault qs room ws (text_words r text) (text_told text).fault)

-- The same of a book by what it holds.

-- one token
abbrev pub told_as : Result (ℕ × ℕ) Refusal → Result (Option (ℕ × ℕ)) Refusal
told_as (Ok x) = Ok (Some x)
told_as (Err r) = Err r

abbrev pub told_answer : State → Option Word → Result (Option (ℕ × ℕ)) Refusal
told_answer s None = Ok None
told_answer s (Some w) = told_as (take_answer s w)

-- the same without group and start: that the token is told, or the refusal
abbrev pub untold : {X : Type 0} → Result X Refusal → Result (Unit {0}) Refusal
untold (Ok x) = Ok tt
untold (Err r) = Err r

-- a refusal with the byte of its token
abbrev pub faulted : {X : Type 0} → ℕ → Result X Refusal → Result X Fault
faulted at (Ok x) = Ok x
faulted at (Err r) = Err (fault_at at r)

abbrev pub after_told : State → Option Word → State
after_told s None = s
after_told s (Some w) = after_take s w

-- the words in turn
abbrev pub stops : State → List Placed → Option Fault → Option Fault
stops s [] f = f
stops s (p ∷ ps) f = faulting p.byte (refused s p.said) (stops (grown s p.said) ps f)

abbrev pub grown_by : Option Refusal → State → State → State
grown_by None more s = more
grown_by (Some r) more s = s

abbrev pub takes_all : State → List Placed → State
takes_all s [] = s
takes_all s (p ∷ ps) = grown_by (refused s p.said) (takes_all (grown s p.said) ps) s

abbrev pub read_answer : State → Reading → List ℕ → Result ℕ Fault
read_answer s r text = read_as (text_words r text) (stops s (text_words r text) (text_told text).fault)

abbrev pub after_read : State → Reading → List ℕ → State
after_read s r text = takes_all s (text_words r text)

-- Whatever pairs the book was made over and whatever words it took, the answer is that of these words, and then it took those that the answer tells.
pub record Reads (s t : State) (r : Reading) (text : List ℕ) (answer : Result ℕ Fault) : Type 0 where
  pub answers : (qs : List Pair) (ws : List Word) → Holds qs ws s → answer ≡ reading_answer qs s.room ws r text
  pub holds : (qs : List Pair) (ws : List Word) → Holds qs ws s → Holds qs (ws ++ words_added (text_words r text) answer) t
