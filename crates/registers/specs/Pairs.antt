-- Lists of pairs as one who only looks reads them: which pairs are held, a pair's number, the pair at a number.
use Rattle.std.specs.Prelude.{◌≡◌, ℕ, ◌+◌, ◌-◌, ◌<◌, ◌≤◌, Bool, false, cond, ◌&&◌, ◌||◌, List, [], ◌∷◌, length, Some, None, Option, ◌==◌, nat_le, slice_index_or}
use Rattle.registers.specs.declared.pairs.Pair.{Pair}

abbrev pub pair : ℕ → ℕ → Pair
pair x y = record { first = x; second = y }

-- the pair at a place, from 0
abbrev pub at : List Pair → ℕ → Pair
at qs i = slice_index_or qs i (pair 0 0)

-- two pairs are the same if both halves are
abbrev pub same : Pair → Pair → Bool
same p q = p.first == q.first && p.second == q.second

-- whether the pair is in the list
abbrev pub holds : List Pair → Pair → Bool
holds [] p = false
holds (q ∷ qs) p = same q p || holds qs p

-- the place, from 0, of the first that is the same as the pair; the length where none is
abbrev pub place : List Pair → Pair → ℕ
place [] p = 0
place (q ∷ qs) p = cond (same q p) 0 (1 + place qs p)

-- the pair's place, from 0, or none where it is not held
unfoldable pub place_in : List Pair → Pair → Option ℕ
place_in qs p = cond (holds qs p) (Some (place qs p)) None

-- places count from 0, numbers from 1
abbrev pub from_place : Option ℕ → Option ℕ
from_place None = None
from_place (Some i) = Some (i + 1)

-- a pair's number in a list, or none where it is not held
abbrev pub number_in : List Pair → Pair → Option ℕ
number_in qs p = from_place (place_in qs p)

-- the pair at a number, or none outside 1 to the length
abbrev pub pair_at : List Pair → ℕ → Option Pair
pair_at qs n = cond (nat_le 1 n && nat_le n (length qs)) (Some (at qs (n - 1))) None

-- no two pairs are the same
abbrev pub Apart : List Pair → Type 0
Apart qs = (i j : ℕ) → (i < j) × (j < length qs) → same (at qs i) (at qs j) ≡ false

-- what holds of a register's capacity and pairs at any time
pub record Sound (room : ℕ) (qs : List Pair) : Type 0 where
  pub most : room ≤ 32768
  pub within : length qs ≤ room
  pub apart : Apart qs
