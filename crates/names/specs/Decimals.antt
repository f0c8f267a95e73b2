-- Decimal notation without leading zeros. Assumes nothing.
use Rattle.std.specs.Prelude.{ℕ, zero, suc, ◌+◌, ◌-◌, ◌*◌, Bool, true, false, cond, List, [], ◌∷◌, length, decimal, Option, ◌==◌, nat_lt, slice_index}
use Rattle.std.specs.Str.{bytes_eq}
use Rattle.names.specs.Choice.{pick}

-- so many numbers from n on
abbrev pub up_from : ℕ → ℕ → List ℕ
up_from n zero = []
up_from n (suc k) = n ∷ up_from (n + 1) k

-- the number from least to most whose decimal notation the bytes are, if any
unfoldable pub number_read : ℕ → ℕ → List ℕ → Option ℕ
number_read least most bs = pick (λ n. bytes_eq (decimal n) bs) (up_from least (most + 1 - least))

-- the number that digits write behind those of v
abbrev pub value_from : ℕ → List ℕ → ℕ
value_from v [] = v
value_from v (b ∷ bs) = value_from (v * 10 + (b - 48)) bs

-- no digit, or a leading zero
abbrev pub ill_led : List ℕ → Bool
ill_led ds = cond (length ds == 0) true (cond (slice_index ds 0 == 48) (nat_lt 1 (length ds)) false)
