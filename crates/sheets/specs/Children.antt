-- Where the children of a passage end. Assumes nothing.
use Rattle.std.specs.Prelude.{ℕ, zero, suc, ◌-◌, List, [], ◌∷◌, ◌++◌}
use Rattle.book.specs.Passages.{Passage, Row, none, ◌▹◌}

-- the passages of a row from left to right
abbrev pub in_order : Row → List Passage
in_order none = []
in_order (row ▹ t) = in_order row ++ t ∷ []

-- The ends of so many children from left to right, the last of which ends before position p: each one ends before the next one's start.
abbrev pub ends_down : (ℕ → ℕ) → ℕ → ℕ → List ℕ → List ℕ
ends_down start zero p found = found
ends_down start (suc n) p found = ends_down start n (start (p - 1)) ((p - 1) ∷ found)

-- the ends of the children of the word at position p
abbrev pub child_ends : (ℕ → ℕ) → ℕ → ℕ → List ℕ
child_ends start rank p = ends_down start rank p []
