-- Chains: the pairs of one bucket, from the last that arrived to the first.
use Rattle.std.specs.Prelude.{◌≡◌, ℕ, zero, suc, ◌<◌, max, cond, List, map, length, count_by, ◌==◌, slice_index, slice_index_or}
use Rattle.registers.specs.declared.pairs.Pair.{Pair}
use Rattle.registers.specs.declared.slots.Slot.{Slot}
use Rattle.registers.specs.Pairs.{pair, at}
use Rattle.registers.specs.Places.{within_limit}
use Rattle.registers.specs.Mixing.{bucket_index}

-- the pairs in the places
abbrev pub pairs_in : List Slot → List Pair
pairs_in = map (λ (s : Slot). s.pair)

-- the number that the place has for the next in its chain; 0 ends the chain
abbrev pub next_at : List Slot → ℕ → ℕ
next_at table i = (slice_index_or table i (record { pair = pair 0 0; next = 0 })).next

-- the capacity over a table of so many places, with so many buckets
abbrev pub within_buckets : ℕ → ℕ → ℕ
within_buckets places buckets = cond (buckets == 0) 0 (within_limit places)

-- the number of the last among the first k pairs that belongs to the bucket; 0 where none does
abbrev pub last_in : ℕ → List Pair → ℕ → ℕ → ℕ
last_in buckets qs b zero = 0
last_in buckets qs b (suc k) = cond (bucket_index buckets (at qs k) == b) (suc k) (last_in buckets qs b k)

-- each bucket names the last pair that belongs to it
abbrev pub Headed : List ℕ → ℕ → List Pair → Type 0
Headed heads buckets qs = (b : ℕ) → b < buckets → slice_index heads b ≡ last_in buckets qs b (length qs)

-- each place names the last pair before it that belongs to the same bucket
abbrev pub Linked : List Slot → ℕ → List Pair → Type 0
Linked table buckets qs = (i : ℕ) → i < length qs → next_at table i ≡ last_in buckets qs (bucket_index buckets (at qs i)) i

-- how many of the pairs belong to the bucket
abbrev pub chain_length : ℕ → List Pair → ℕ → ℕ
chain_length buckets qs b = count_by (λ q. bucket_index buckets q == b) qs

-- the length of the longest chain of the first k buckets
abbrev pub longest_below : ℕ → List Pair → ℕ → ℕ
longest_below buckets qs zero = 0
longest_below buckets qs (suc b) = max (longest_below buckets qs b) (chain_length buckets qs b)

abbrev pub longest_of_chains : ℕ → List Pair → ℕ
longest_of_chains buckets qs = longest_below buckets qs buckets
