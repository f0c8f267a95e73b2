-- Words. Assumes nothing.
use Rattle.std.specs.Prelude.{ℕ, ◌+◌, List, [], ◌∷◌, length}

-- A word is one node: its rank, the number of its children, and its label, of which only the spelling counts.
pub record Word : Type 0 where
  pub rank : ℕ
  pub spelling : List ℕ

abbrev pub word : ℕ → List ℕ → Word
word rank spelling = record { rank = rank; spelling = spelling }

-- the ranks of the words, added up
abbrev pub ranks : List Word → ℕ
ranks [] = 0
ranks (w ∷ ws) = w.rank + ranks ws

-- how many numbers spell the words
abbrev pub spelled : List Word → ℕ
spelled [] = 0
spelled (w ∷ ws) = length w.spelling + spelled ws
