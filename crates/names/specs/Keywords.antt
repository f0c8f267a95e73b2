-- The keywords of frames. Assumes nothing.
use Rattle.std.specs.Prelude.{ℕ, List, [], ◌∷◌, codes, Option, nat_eq}
use Rattle.std.specs.Str.{bytes_eq}
use Rattle.names.specs.declared.keywords.Keyword.{Keyword}
use Rattle.names.specs.declared.keywords.Keyword.TheVariants.{Bar, Verse, Chord, Sung, Score, Soprano, Alto1, Alto2, Tenor, Bass1, Bass2, Organ}
use Rattle.names.specs.declared.keywords.NoSuchKeyword.{NoSuchKeyword}
use Rattle.names.specs.Choice.{pick}

abbrev pub keyword_number : Keyword → ℕ
keyword_number Bar = 0
keyword_number Verse = 1
keyword_number Chord = 2
keyword_number Sung = 3
keyword_number Score = 4
keyword_number Soprano = 5
keyword_number Alto1 = 6
keyword_number Alto2 = 7
keyword_number Tenor = 8
keyword_number Bass1 = 9
keyword_number Bass2 = 10
keyword_number Organ = 11

abbrev pub keyword_word : Keyword → List ℕ
keyword_word Bar = codes "bar"
keyword_word Verse = codes "verse"
keyword_word Chord = codes "chord"
keyword_word Sung = codes "sung"
keyword_word Score = codes "score"
keyword_word Soprano = codes "soprano"
keyword_word Alto1 = codes "alto1"
keyword_word Alto2 = codes "alto2"
keyword_word Tenor = codes "tenor"
keyword_word Bass1 = codes "bass1"
keyword_word Bass2 = codes "bass2"
keyword_word Organ = codes "organ"

abbrev pub keywords : List Keyword
keywords = Bar ∷ Verse ∷ Chord ∷ Sung ∷ Score ∷ Soprano ∷ Alto1 ∷ Alto2 ∷ Tenor ∷ Bass1 ∷ Bass2 ∷ Organ ∷ []

-- the keyword that has a number, and the one that has a word, if any
abbrev pub keyword_numbered : ℕ → Option Keyword
keyword_numbered n = pick (λ k. nat_eq (keyword_number k) n) keywords

unfoldable pub keyword_named : List ℕ → Option Keyword
keyword_named bs = pick (λ k. bytes_eq (keyword_word k) bs) keywords

-- a number that no keyword has
abbrev pub unnumbered : ℕ → NoSuchKeyword
unnumbered n = record { number = n }
