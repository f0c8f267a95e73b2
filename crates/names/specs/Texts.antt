-- Texts: their tokens, and what these say one after another. Assumes nothing.
use Rattle.std.specs.Prelude.{ℕ, ◌+◌, Bool, true, false, cond, not, List, [], ◌∷◌, length, Some, None, Ok, Err, Option, Result, nat_lt}
use Rattle.names.specs.declared.pitches.Naming.{Naming}
use Rattle.names.specs.declared.refusals.Fault.{Fault}
use Rattle.names.specs.declared.refusals.Refusal.{Refusal}
use Rattle.names.specs.declared.refusals.Refusal.TheVariants.{TextTooLong}
use Rattle.names.specs.Tokens.{Said, naming, syllable, note, rest, frame, gap, token_read}

-- a token and the byte where it begins
pub record Piece : Type 0 where
  pub byte : ℕ
  pub bytes : List ℕ

-- whether a token goes on with these bytes
abbrev pub goes_on : List ℕ → Bool
goes_on [] = false
goes_on (b ∷ bs) = not (gap b)

-- a byte that begins a token, or is put before the one that goes on
abbrev pub before : Bool → ℕ → ℕ → List Piece → List Piece
before false at b ps = record { byte = at; bytes = b ∷ [] } ∷ ps
before true at b [] = record { byte = at; bytes = b ∷ [] } ∷ []
before true at b (p ∷ ps) = record { byte = at; bytes = b ∷ p.bytes } ∷ ps

-- the tokens of a text, whose first byte is counted as at
unfoldable pub pieces : ℕ → List ℕ → List Piece
pieces at [] = []
pieces at (b ∷ bs) = cond (gap b) (pieces (at + 1) bs) (before (goes_on bs) at b (pieces (at + 1) bs))

-- what a token at a byte says, and the bytes that say it
pub record Told : Type 0 where
  pub byte : ℕ
  pub typed : List ℕ
  pub says : Said

-- what a text tells: its tokens up to the first that is refused, and that fault
pub record Telling : Type 0 where
  pub tokens : List Told
  pub fault : Option Fault

abbrev pub stopped : Refusal → ℕ → Telling
stopped r at = record { tokens = []; fault = Some (record { refusal = r; byte = at }) }

abbrev pub silent : Telling
silent = record { tokens = []; fault = None }

-- the naming in force behind a token
abbrev pub naming_after : Option Naming → Said → Option Naming
naming_after n (naming m) = Some m
naming_after n (syllable s) = n
naming_after n (note p octave length) = n
naming_after n (rest length) = n
naming_after n (frame k rank) = n

abbrev pub telling : Piece → Option Naming → Result Said Refusal → (Option Naming → Telling) → Telling
telling p n (Err r) later = stopped r p.byte
telling p n (Ok t) later =
    record {
      tokens = record { byte = p.byte; typed = p.bytes; says = t } ∷ (later (naming_after n t)).tokens;
      fault = (later (naming_after n t)).fault;
    }

unfoldable pub told : Option Naming → List Piece → Telling
told n [] = silent
told n (p ∷ ps) = telling p n (token_read n p.bytes) (λ m. told m ps)

-- a text starts with no naming, and has at most 65,536 bytes
abbrev pub text_told : List ℕ → Telling
text_told bs = cond (nat_lt 65536 (length bs)) (stopped TextTooLong 0) (told None (pieces 0 bs))

-- the first token, or the fault that stands in its place, or the end
abbrev pub first_of : List Told → Option Fault → Result (Option Told) Fault
first_of (t ∷ ts) f = Ok (Some t)
first_of [] (Some f) = Err f
first_of [] None = Ok None

abbrev pub later_than_first : List Told → List Told
later_than_first [] = []
later_than_first (t ∷ ts) = ts

abbrev pub later : Telling → Telling
later x = record { tokens = later_than_first x.tokens; fault = x.fault }
