-- What is read from the places that are held, and the capacity of a bucket register. Assumes nothing.
use Rattle.std.proofs.Common.{◌≡◌, ℕ, ◌-◌, ◌<◌, ◌≤◌, List, length, get_or, Some, None, arith}
use Rattle.std.proofs.lemmas.Grind.{common_steps}
use Rattle.std.proofs.lemmas.Option.{gets}
use Rattle.registers.specs.Places.{item_at}
use Rattle.registers.specs.Chains.{within_buckets}

pub item_some : {X : Type 0} (xs : List X) (n : ℕ) (x : X) → Some x ≡ item_at xs n → (0 < n) × (n ≤ length xs) × ((d : X) → get_or xs (n - 1) d ≡ x)
item_some xs n x e = grind (arith, common_steps, gets)

pub item_none : {X : Type 0} (xs : List X) (n : ℕ) → None ≡ item_at xs n → n ≤ length xs → n ≡ 0
item_none xs n e l = grind (arith, common_steps, gets)

-- there is no room without buckets
pub room_some : (n places buckets : ℕ) → n < within_buckets places buckets → 0 < buckets
room_some n places buckets h = grind (arith, common_steps)
