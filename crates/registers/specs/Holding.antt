-- Lists of pairs as one who appends leaves them.
use Rattle.std.specs.Prelude.{ℕ, cond, List, [], ◌∷◌, ◌++◌, length, nat_lt}
use Rattle.registers.specs.declared.pairs.Pair.{Pair}
use Rattle.registers.specs.Pairs.{holds}

-- the list with the pair held, as far as the capacity allows: a pair that is not held is appended if there is a place left
unfoldable pub holding : ℕ → List Pair → Pair → List Pair
holding room qs p = cond (holds qs p) qs (cond (nat_lt (length qs) room) (qs ++ p ∷ []) qs)
