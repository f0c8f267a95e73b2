-- Reading words: the row of top passages, and the passage that ends at a position. Assumes nothing.
use Rattle.std.specs.Prelude.{ℕ, suc, ◌-◌, ◌≤◌, List, [], ◌∷◌, take, drop}
use Rattle.book.specs.Words.{Word}
use Rattle.book.specs.Passages.{Passage, Row, over, none, ◌▹◌, count, last, without_last, size}

-- the passage that a word makes: it takes as many of the last top passages as its rank, in their order
abbrev pub made : Row → Word → Passage
made row w = over w.spelling (last w.rank row)

-- the top passages after a word: the passage made stands in place of those taken
abbrev pub push : Row → Word → Row
push row w = without_last w.rank row ▹ made row w

-- the top passages after the words, read in turn from a row on
abbrev pub reading : Row → List Word → Row
reading row [] = row
reading row (w ∷ ws) = reading (push row w) ws

abbrev pub tops : List Word → Row
tops ws = reading none ws

-- every word finds as many top passages as its rank asks
abbrev pub FormedOn : Row → List Word → Type 0
FormedOn row [] = Unit {0}
FormedOn row (w ∷ ws) = (w.rank ≤ count row) × FormedOn (push row w) ws

abbrev pub Formed : List Word → Type 0
Formed ws = FormedOn none ws

-- the last passage of a row
abbrev pub top : Row → Passage
top none = over [] none
top (row ▹ t) = t

-- the passage that ends at position p; positions count from 0
abbrev pub passage_at : List Word → ℕ → Passage
passage_at ws p = top (tops (take (suc p) ws))

-- the position of its first leaf
abbrev pub start_at : List Word → ℕ → ℕ
start_at ws p = suc p - size (passage_at ws p)

-- the words from its start to its end
abbrev pub words_at : List Word → ℕ → List Word
words_at ws p = drop (start_at ws p) (take (suc p) ws)
