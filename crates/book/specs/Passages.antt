-- Passages as trees, and their postfix notation. Assumes nothing.
use Rattle.std.specs.Prelude.{ℕ, zero, suc, ◌+◌, List, [], ◌∷◌, ◌++◌}
use Rattle.book.specs.Words.{Word}

-- A passage is a tree: a spelling over a row of passages, its children. A row grows at its end.
mutual
  pub data Passage : Type 0 where
    over : List ℕ → Row → Passage

  pub data Row : Type 0 where
    none : Row
    ◌▹◌ : Row → Passage → Row

infixl 50 ◌▹◌
abbrev pub count : Row → ℕ
count none = 0
count (row ▹ t) = suc (count row)

-- the last n passages of a row, in their order
abbrev pub last : ℕ → Row → Row
last zero row = none
last (suc n) none = none
last (suc n) (row ▹ t) = last n row ▹ t

-- the row without its last n passages
abbrev pub without_last : ℕ → Row → Row
without_last zero row = row
without_last (suc n) none = none
without_last (suc n) (row ▹ t) = without_last n row

-- the word of a node: its rank is the number of its children
abbrev pub node : List ℕ → Row → Word
node s ts = record { rank = count ts; spelling = s }

-- the postfix notation: the notations of the children in order, then the node
abbrev mutual
  pub postfix : Passage → List Word
  postfix (over s ts) = postfixes ts ++ node s ts ∷ []

  pub postfixes : Row → List Word
  postfixes none = []
  postfixes (ts ▹ t) = postfixes ts ++ postfix t

-- the size: how many words a passage has
abbrev mutual
  pub size : Passage → ℕ
  size (over s ts) = suc (sizes ts)

  pub sizes : Row → ℕ
  sizes none = 0
  sizes (ts ▹ t) = sizes ts + size t
