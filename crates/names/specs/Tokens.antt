-- Tokens: what a token says, the bytes that say it, and what bytes say. Assumes nothing.
use Rattle.std.specs.Prelude.{ℕ, ◌+◌, ◌-◌, Bool, true, false, cond, not, ◌&&◌, ◌||◌, List, [], ◌∷◌, ◌++◌, length, take, drop, Some, None, Ok, Err, codes, decimal, Option, Result, ◌==◌, nat_le, nat_lt, slice_index}
use Rattle.std.specs.List.{list_all, prefix_len}
use Rattle.std.specs.Char.{is_ascii_digit, is_ascii_uppercase}
use Rattle.names.specs.declared.pitches.Naming.{Naming}
use Rattle.names.specs.declared.pitches.Pitch.{Pitch}
use Rattle.names.specs.declared.keywords.Keyword.{Keyword}
use Rattle.names.specs.declared.refusals.Refusal.{Refusal}
use Rattle.names.specs.declared.refusals.Refusal.TheVariants.{TokenTooLong, NotOfForm, NoNaming, BadOctaveOrLength, BufferTooShort}
use Rattle.names.specs.declared.tokens.Kind.{Kind}
use Rattle.names.specs.declared.tokens.Kind.TheVariants.{Syllable, Note, Rest, Frame}
use Rattle.names.specs.Buffers.{fits, laid}
use Rattle.names.specs.Decimals.{number_read}
use Rattle.names.specs.Keywords.{keyword_word, keyword_named}
use Rattle.names.specs.Names.{name, pitch_read}
use Rattle.names.specs.Pitches.{naming_word, naming_named}

-- what a token says
pub data Said : Type 0 where
  naming : Naming → Said
  syllable : List ℕ → Said
  note : Pitch → ℕ → ℕ → Said  -- pitch, octave, length
  rest : ℕ → Said  -- length
  frame : Keyword → ℕ → Said  -- keyword, rank

-- space and line end part tokens from each other
abbrev pub gap : ℕ → Bool
gap b = b == 32 || b == 10

-- a byte that may stand in a syllable
abbrev pub plain : ℕ → Bool
plain b = not (b == 34 || gap b)

abbrev pub each : (ℕ → Bool) → List ℕ → Bool
each = list_all

-- how many bytes at the front pass the test
abbrev pub run : (ℕ → Bool) → List ℕ → ℕ
run = prefix_len

-- a syllable between its quotes
abbrev pub quotes : List ℕ → List ℕ
quotes s = 34 ∷ (s ++ 34 ∷ [])

-- bytes, a mark and a number
abbrev pub marked : List ℕ → ℕ → ℕ → List ℕ
marked bs mark number = bs ++ (mark ∷ decimal number)

-- the bytes of a token, its note's name taken from the naming
unfoldable pub spelled : Naming → Said → List ℕ
spelled n (naming m) = naming_word m
spelled n (syllable s) = quotes s
spelled n (note p octave length) = marked (name n p ++ ((48 + octave) ∷ [])) 47 length
spelled n (rest length) = marked (codes "r") 47 length
spelled n (frame k rank) = marked (keyword_word k) 58 rank

-- one to thirty bytes that may stand in a syllable
abbrev pub syllabled : List ℕ → Bool
syllabled s = nat_le 1 (length s) && (nat_le (length s) 30 && each plain s)

-- one to sixty-four sixteenths
abbrev pub lasting : ℕ → Bool
lasting length = nat_le 1 length && nat_le length 64

-- an octave of one digit, and a length
abbrev pub sung : ℕ → ℕ → Bool
sung octave length = nat_le octave 9 && lasting length

-- why a token cannot be written, if it cannot
abbrev pub unless : Bool → Refusal → Option Refusal
unless true r = None
unless false r = Some r

abbrev pub malformed : Said → Option Refusal
malformed (naming n) = None
malformed (syllable s) = unless (syllabled s) NotOfForm
malformed (note p octave length) = unless (sung octave length) BadOctaveOrLength
malformed (rest length) = unless (lasting length) BadOctaveOrLength
malformed (frame k rank) = unless (nat_le rank 255) NotOfForm

-- lengths and ranks
abbrev pub length_read : List ℕ → Option ℕ
length_read bs = number_read 1 64 bs

abbrev pub rank_read : List ℕ → Option ℕ
rank_read bs = number_read 0 255 bs

-- a quote, the syllable, a quote
abbrev pub quoted : List ℕ → Bool
quoted bs = nat_le 2 (length bs) && (slice_index bs 0 == 34 && slice_index bs (length bs - 1) == 34)

abbrev pub inside : List ℕ → List ℕ
inside bs = take (length bs - 2) (drop 1 bs)

unfoldable pub syllable_read : List ℕ → Result Said Refusal
syllable_read bs = cond (quoted bs && syllabled (inside bs)) (Ok (syllable (inside bs))) (Err NotOfForm)

abbrev pub of_length : Option ℕ → (ℕ → Said) → Result Said Refusal
of_length None says = Err BadOctaveOrLength
of_length (Some length) says = Ok (says length)

-- a note's name is all before its first digit; behind it stand the octave, a stroke and the length
abbrev pub note_name : List ℕ → List ℕ
note_name bs = take (run (λ b. not (is_ascii_digit b)) bs) bs

abbrev pub note_tail : List ℕ → List ℕ
note_tail bs = drop (run (λ b. not (is_ascii_digit b)) bs) bs

abbrev pub tailed : List ℕ → Bool
tailed bs = is_ascii_digit (slice_index bs 0) && slice_index bs 1 == 47

abbrev pub of_pitch : Result Pitch Refusal → List ℕ → Result Said Refusal
of_pitch (Err r) bs = Err r
of_pitch (Ok p) bs = cond (tailed bs) (of_length (length_read (drop 2 bs)) (note p (slice_index bs 0 - 48))) (Err BadOctaveOrLength)

unfoldable pub note_read : Option Naming → List ℕ → Result Said Refusal
note_read None bs = Err NoNaming
note_read (Some n) bs = of_pitch (pitch_read n (note_name bs)) (note_tail bs)

-- r, a stroke, a length
unfoldable pub rest_read : List ℕ → Result Said Refusal
rest_read bs = of_length (length_read (drop 2 bs)) rest

-- a keyword, a colon, a rank
abbrev pub colon : List ℕ → ℕ
colon bs = run (λ b. not (b == 58)) bs

abbrev pub framed : Option Keyword → Option ℕ → Result Said Refusal
framed None r = Err NotOfForm
framed (Some k) None = Err NotOfForm
framed (Some k) (Some rank) = Ok (frame k rank)

unfoldable pub frame_read : List ℕ → Result Said Refusal
frame_read bs = framed (keyword_named (take (colon bs) bs)) (rank_read (drop (colon bs + 1) bs))

abbrev pub rest_begun : List ℕ → Bool
rest_begun bs = nat_le 2 (length bs) && (slice_index bs 0 == 114 && slice_index bs 1 == 47)

-- a token is judged by its beginning
abbrev pub begun : List ℕ → Kind
begun bs =
    cond (slice_index bs 0 == 34) Syllable
    (cond (is_ascii_uppercase (slice_index bs 0)) Note
    (cond (rest_begun bs) Rest Frame))

abbrev pub read_by_kind : Kind → Option Naming → List ℕ → Result Said Refusal
read_by_kind Syllable n bs = syllable_read bs
read_by_kind Note n bs = note_read n bs
read_by_kind Rest n bs = rest_read bs
read_by_kind Frame n bs = frame_read bs

abbrev pub worded : Option Naming → Result Said Refusal → Result Said Refusal
worded None other = other
worded (Some n) other = Ok (naming n)

-- what bytes say under the naming in force, if any
unfoldable pub token_read : Option Naming → List ℕ → Result Said Refusal
token_read n bs = cond (nat_lt 64 (length bs)) (Err TokenTooLong) (worded (naming_named bs) (read_by_kind (begun bs) n bs))

-- the place behind a token that is written to a buffer, and the buffer then
abbrev pub lengthened : Option Refusal → List ℕ → Result ℕ Refusal
lengthened (Some r) bs = Err r
lengthened None bs = Ok (length bs)

abbrev pub placed : Option Refusal → List ℕ → ℕ → List ℕ → Result ℕ Refusal
placed (Some r) out at bs = Err r
placed None out at bs = cond (fits out at bs) (Ok (at + length bs)) (Err BufferTooShort)

abbrev pub buffered : Option Refusal → List ℕ → ℕ → List ℕ → List ℕ
buffered (Some r) out at bs = out
buffered None out at bs = cond (fits out at bs) (laid out at bs) out
