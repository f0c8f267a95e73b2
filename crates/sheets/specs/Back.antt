-- A word read back from its group number, through the register's pairs. Assumes nothing.
use Rattle.std.specs.Prelude.{ℕ, zero, suc, List, [], ◌∷◌, take, drop, Some, None, Option}
use Rattle.registers.specs.declared.pairs.Pair.{Pair}
use Rattle.registers.specs.Pairs.{pair_at}
use Rattle.book.specs.Words.{Word, word}

abbrev pub behind : Option Pair → (Pair → List ℕ) → List ℕ → List ℕ
behind None more read = read
behind (Some p) more read = more p

-- the items that come to a number, at most so many, before those that are read already
abbrev pub items_back : ℕ → List Pair → ℕ → List ℕ → List ℕ
items_back zero qs n read = read
items_back (suc most) qs n read = behind (pair_at qs n) (λ p. items_back most qs p.first (p.second ∷ read)) read

-- a rank, a length, at most 32 spelled numbers and at most 255 children's numbers
abbrev pub all_items : List Pair → ℕ → List ℕ
all_items qs n = items_back 289 qs n []

abbrev pub word_in : List ℕ → Word
word_in [] = word 0 []
word_in (rank ∷ []) = word rank []
word_in (rank ∷ long ∷ is) = word rank (take long is)

abbrev pub children_in : List ℕ → List ℕ
children_in [] = []
children_in (rank ∷ []) = []
children_in (rank ∷ long ∷ is) = drop long is
