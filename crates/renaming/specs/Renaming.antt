-- A text in the names of one naming, and what was seen of it. Assumes nothing.
use Rattle.std.specs.Prelude.{◌≡◌, ℕ, ◌+◌, ◌<◌, ◌≤◌, Bool, true, false, cond, not, List, [], ◌∷◌, ◌++◌, length, Some, None, Ok, Err, vec_items, vec_len, Option, Result, nat_le}
use Rattle.std.specs.Str.{bytes_eq}
use Rattle.names.specs.declared.Fault.{Fault}
use Rattle.names.specs.declared.Naming.{Naming}
use Rattle.names.specs.declared.Refusal.TheVariants.{TextTooLong}
use Rattle.names.specs.Lines.{line, spaced, is_word, words_of}
use Rattle.names.specs.Texts.{Told, Telling, text_told}
use Rattle.names.specs.Tokens.{Said, naming, syllable, note, rest, frame, spelled}
use Rattle.renaming.specs.declared.Renamed.{Renamed}
use Rattle.renaming.specs.declared.Tally.{Tally}
use Rattle.renaming.specs.declared.Unrenamed.{Unrenamed}
use Rattle.renaming.specs.declared.Unrenamed.TheVariants as unrenamed

abbrev pub one : Bool → ℕ
one true = 1
one false = 0

abbrev pub is_syllable : Said → Bool
is_syllable (naming n) = false
is_syllable (syllable s) = true
is_syllable (note p octave length) = false
is_syllable (rest length) = false
is_syllable (frame k rank) = false

abbrev pub is_note : Said → Bool
is_note (naming n) = false
is_note (syllable s) = false
is_note (note p octave length) = true
is_note (rest length) = false
is_note (frame k rank) = false

abbrev pub is_rest : Said → Bool
is_rest (naming n) = false
is_rest (syllable s) = false
is_rest (note p octave length) = false
is_rest (rest length) = true
is_rest (frame k rank) = false

abbrev pub is_frame : Said → Bool
is_frame (naming n) = false
is_frame (syllable s) = false
is_frame (note p octave length) = false
is_frame (rest length) = false
is_frame (frame k rank) = true

abbrev pub none : Tally
none = record { tokens = 0; notes = 0; syllables = 0; rests = 0; frames = 0; changed = 0 }

-- one token more
abbrev pub added : Tally → Said → Bool → Tally
added y t changed =
    record {
      tokens = y.tokens + 1;
      notes = y.notes + one (is_note t);
      syllables = y.syllables + one (is_syllable t);
      rests = y.rests + one (is_rest t);
      frames = y.frames + one (is_frame t);
      changed = y.changed + one changed;
    }

-- counts that are far from their limit
pub record Few (y : Tally) : Type 0 where
  pub tokens : y.tokens < 65536
  pub notes : y.notes < 65536
  pub syllables : y.syllables < 65536
  pub rests : y.rests < 65536
  pub frames : y.frames < 65536
  pub changed : y.changed < 65536

-- a word is spelled otherwise than it was typed
abbrev pub changes : Naming → Said → List ℕ → Bool
changes to t typed = cond (is_word t) (not (bytes_eq (spelled to t) typed)) false

-- a word and the space before it
abbrev pub appended : Naming → Said → List ℕ
appended to t = cond (is_word t) (32 ∷ spelled to t) []

-- a token's word put behind a line, and whether that changed it
pub record Appends (old new : List ℕ) (to : Naming) (t : Told) (changed : Bool) : Type 0 where
  pub line : new ≡ old ++ appended to t.says
  pub tells : changed ≡ changes to t.says t.typed

-- the tokens of a text counted behind those that were counted
unfoldable pub tallied : Naming → Tally → List Told → Tally
tallied to y [] = y
tallied to y (t ∷ ts) = tallied to (added y t.says (changes to t.says t.typed)) ts

-- a text's words in a naming, as a text: what a text refuses is refused, and so is what would be too long for one
abbrev pub unless_long : List ℕ → Result (List ℕ) Fault
unless_long bs = cond (nat_le (length bs) 65536) (Ok bs) (Err (record { refusal = TextTooLong; byte = 0 }))

abbrev pub unless_faulty : Option Fault → List ℕ → Result (List ℕ) Fault
unless_faulty (Some f) bs = Err f
unless_faulty None bs = unless_long bs

abbrev pub renamed : Naming → List ℕ → Result (List ℕ) Fault
renamed to text = unless_faulty (text_told text).fault (line to (words_of (text_told text).tokens))

-- the new text, and that it tells the same words as the old
pub record Renews (text : List ℕ) (to : Naming) (new : List ℕ) (tally : Tally) : Type 0 where
  pub made : renamed to text ≡ Ok new
  pub seen : tally ≡ tallied to none (text_told text).tokens
  pub same : words_of (text_told new).tokens ≡ words_of (text_told text).tokens
  pub whole : (text_told new).fault ≡ None

-- a line that is a new text if it is not too long
pub record Rewritten (text : List ℕ) (to : Naming) (new : List ℕ) (size : ℕ) (tally : Tally) : Type 0 where
  pub short : size ≤ 65536 → Renews text to new tally
  pub long : 65536 < size → renamed to text ≡ Err (record { refusal = TextTooLong; byte = 0 })

abbrev pub Rewrites : List ℕ → Naming → Result Renamed Unrenamed → Type 0
Rewrites text to (Ok x) = Rewritten text to (vec_items x.text) (vec_len x.text) x.tally
Rewrites text to (Err (unrenamed.Fault f)) = renamed to text ≡ Err f
Rewrites text to (Err unrenamed.Memory) = Unit {0}

abbrev pub Renames : List ℕ → Naming → Result Renamed Unrenamed → Type 0
Renames text to (Ok x) = Renews text to (vec_items x.text) x.tally
Renames text to (Err (unrenamed.Fault f)) = renamed to text ≡ Err f
Renames text to (Err unrenamed.Memory) = Unit {0}

-- room in each count for so many more
pub record Room (y : Tally) (more : ℕ) : Type 0 where
  pub tokens : y.tokens + more ≤ 65536
  pub notes : y.notes + more ≤ 65536
  pub syllables : y.syllables + more ≤ 65536
  pub rests : y.rests + more ≤ 65536
  pub frames : y.frames + more ≤ 65536
  pub changed : y.changed + more ≤ 65536

-- where the renaming of a text stands: what is done and what the rest tells make the whole
pub record Sofar (text : List ℕ) (to : Naming) (done : List ℕ) (y : Tally) (x : Telling) : Type 0 where
  pub words : done ++ spaced to (words_of x.tokens) ≡ line to (words_of (text_told text).tokens)
  pub fault : x.fault ≡ (text_told text).fault
  pub seen : tallied to y x.tokens ≡ tallied to none (text_told text).tokens
  pub room : Room y (length x.tokens)
