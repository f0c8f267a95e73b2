-- A line of words in one naming. Assumes nothing.
use Rattle.std.specs.Prelude.{◌≡◌, ℕ, ◌≤◌, Bool, true, false, cond, List, [], ◌∷◌, ◌++◌, length, None}
use Rattle.std.specs.List.{AllByRecursion}
use Rattle.names.specs.declared.pitches.Naming.{Naming}
use Rattle.names.specs.Pitches.{naming_word}
use Rattle.names.specs.Texts.{Told, text_told}
use Rattle.names.specs.Tokens.{Said, naming, syllable, note, rest, frame, malformed, spelled}

-- the naming word, then each word's token after one space, then a line end
unfoldable pub spaced : Naming → List Said → List ℕ
spaced n [] = 10 ∷ []
spaced n (t ∷ ts) = 32 ∷ (spelled n t ++ spaced n ts)

abbrev pub line : Naming → List Said → List ℕ
line n ts = naming_word n ++ spaced n ts

-- a naming word is no word
abbrev pub is_word : Said → Bool
is_word (naming n) = false
is_word (syllable s) = true
is_word (note p octave length) = true
is_word (rest length) = true
is_word (frame k rank) = true

abbrev pub words_of : List Told → List Said
words_of [] = []
words_of (t ∷ ts) = cond (is_word t.says) (t.says ∷ words_of ts) (words_of ts)

-- a word that can be typed
pub record Typable (t : Said) : Type 0 where
  pub word : is_word t ≡ true
  pub formed : malformed t ≡ None

-- a line of words that can be typed is a text that tells just these words
pub record LineLaws : Type 0 where
  pub back : (n : Naming) (ts : List Said) → AllByRecursion Typable ts → length (line n ts) ≤ 65536 → (words_of (text_told (line n ts)).tokens ≡ ts) × ((text_told (line n ts)).fault ≡ None)
  -- the words of a text can be typed
  pub typable : (text : List ℕ) → AllByRecursion Typable (words_of (text_told text).tokens)
