-- Pairs as they are typed. Assumes nothing.
use Rattle.std.specs.Prelude.{ℕ, ◌+◌, cond, List, length, take, drop, Some, None, Option, ◌==◌}
use Rattle.registers.specs.declared.pairs.Pair.{Pair}
use Rattle.typed.specs.Typed.{number_typed, space_place}

abbrev pub both : Option ℕ → Option ℕ → Option Pair
both None y = None
both (Some x) None = None
both (Some x) (Some y) = Some (record { first = x; second = y })

-- two numbers with one space between; no number has a space, so the first space is the one
abbrev pub pair_typed : List ℕ → Option Pair
pair_typed cs =
    cond (space_place cs == length cs) None (both (number_typed (take (space_place cs) cs)) (number_typed (drop (space_place cs + 1) cs)))
