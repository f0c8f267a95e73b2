-- What a word is typed as in the written reading. Assumes nothing.
use Rattle.std.specs.Prelude.{◌≡◌, ℕ, Bool, true, false, cond, ◌&&◌, List, [], ◌∷◌, Some, None, Option, ◌==◌, nat_eq, nat_le, nat_lt}
use Rattle.names.specs.declared.keywords.Keyword.{Keyword}
use Rattle.names.specs.declared.pitches.Alteration.{Alteration}
use Rattle.names.specs.declared.pitches.Step.{Step}
use Rattle.names.specs.Choice.{pick}
use Rattle.names.specs.Keywords.{keyword_numbered}
use Rattle.names.specs.Pitches.{alterations, step_numbered}
use Rattle.names.specs.Tokens.{Said, naming, syllable, note, rest, frame, each, lasting, sung, syllabled}
use Rattle.labels.specs.Spellings.{raised}
use Rattle.book.specs.Words.{Word}

abbrev pub only : {X : Type 0} → Bool → Option X → Option X
only true x = x
only false x = None

-- the alteration that a number tells, which is two above it
abbrev pub lowered : ℕ → Option Alteration
lowered n = pick (λ a. nat_eq (raised a) n) alterations

abbrev pub noted : Option Step → Option Alteration → ℕ → ℕ → Option Said
noted None a octave lasts = None
noted (Some s) None octave lasts = None
noted (Some s) (Some a) octave lasts = Some (note (record { step = s; alteration = a }) octave lasts)

abbrev pub framed : Option Keyword → ℕ → Option Said
framed None rank = None
framed (Some k) rank = Some (frame k rank)

-- the numbers behind each kind number
abbrev pub as_note : List ℕ → Option Said
as_note [] = None
as_note (s ∷ []) = None
as_note (s ∷ a ∷ []) = None
as_note (s ∷ a ∷ octave ∷ []) = None
as_note (s ∷ a ∷ octave ∷ lasts ∷ []) = only (sung octave lasts) (noted (step_numbered s) (lowered a) octave lasts)
as_note (s ∷ a ∷ octave ∷ lasts ∷ n ∷ ns) = None

abbrev pub as_rest : List ℕ → Option Said
as_rest [] = None
as_rest (lasts ∷ []) = only (lasting lasts) (Some (rest lasts))
as_rest (lasts ∷ n ∷ ns) = None

abbrev pub small : List ℕ → Bool
small bs = each (λ b. nat_lt b 256) bs

abbrev pub as_syllable : List ℕ → Option Said
as_syllable bs = only (syllabled bs && small bs) (Some (syllable bs))

abbrev pub as_frame : ℕ → List ℕ → Option Said
as_frame rank [] = None
as_frame rank (k ∷ []) = only (nat_le rank 255) (framed (keyword_numbered k) rank)
as_frame rank (k ∷ n ∷ ns) = None

-- only frames have children
abbrev pub by_kind : ℕ → List ℕ → Option Said
by_kind rank [] = None
by_kind rank (kind ∷ ns) =
    cond (kind == 1) (only (rank == 0) (as_note ns))
    (cond (kind == 2) (only (rank == 0) (as_rest ns))
    (cond (kind == 3) (only (rank == 0) (as_syllable ns))
    (cond (kind == 4) (as_frame rank ns) None)))

-- the token that gives the word in the written reading, if any
unfoldable pub token_of : Word → Option Said
token_of w = by_kind w.rank w.spelling

-- a syllable is made of bytes
abbrev pub Bytes : Said → Type 0
Bytes (naming n) = Unit {0}
Bytes (syllable s) = small s ≡ true
Bytes (note p octave lasts) = Unit {0}
Bytes (rest lasts) = Unit {0}
Bytes (frame k rank) = Unit {0}

-- the tokens of words, if each has one
abbrev pub with_token : Option Said → Option (List Said) → Option (List Said)
with_token None ts = None
with_token (Some t) None = None
with_token (Some t) (Some ts) = Some (t ∷ ts)

abbrev pub tokens_of : List Word → Option (List Said)
tokens_of [] = Some []
tokens_of (w ∷ ws) = with_token (token_of w) (tokens_of ws)
