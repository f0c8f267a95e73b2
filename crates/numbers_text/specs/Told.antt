-- What is told of a pair that was asked for.
use Rattle.std.specs.Prelude.{ℕ, max, cond, List, length, Some, None, Option, nat_lt}
use Rattle.registers.specs.declared.pairs.Pair.{Pair}
use Rattle.registers.specs.Pairs.{holds}
use Rattle.numbers_text.specs.declared.telling.Word.{Word}
use Rattle.numbers_text.specs.declared.telling.Word.TheVariants.{New, Known, Refused}

-- by the pair's number and the count before it was asked for
abbrev pub told : Option ℕ → ℕ → Word
told None count = Refused
told (Some n) count = cond (nat_lt count n) New Known

-- by the register's capacity and list before it was asked for
abbrev pub told_of : ℕ → List Pair → Pair → Word
told_of room qs p = cond (holds qs p) Known (cond (nat_lt (length qs) room) New Refused)

-- how many pairs there are after it, by its number and the count before
abbrev pub counted : Option ℕ → ℕ → ℕ
counted None count = count
counted (Some n) count = max n count
