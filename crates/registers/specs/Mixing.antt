-- Which bucket a pair belongs to.
use Rattle.std.specs.Prelude.{ℕ, ◌+◌, ◌*◌, ◌/◌, ◌%◌, ◌^◌, min, bit_xor}
use Rattle.registers.specs.declared.pairs.Pair.{Pair}

-- a number by the first multiplier, on 32 bits
abbrev pub stirred : ℕ → ℕ
stirred n = n * 2654435761 % 2 ^ 32

-- a number of 32 bits that depends on both halves of the pair, most of all in its upper bits
unfoldable pub mix : Pair → ℕ
mix p = (bit_xor (stirred p.first) (stirred p.first / 2 ^ 15) + p.second) % 2 ^ 32 * 2246822507 % 2 ^ 32

-- the pair's bucket among so many: the mixed number scaled down from all 32-bit numbers to the buckets. No more than 65,536 are used
unfoldable pub bucket_index : ℕ → Pair → ℕ
bucket_index buckets p = mix p * min buckets 65536 / 2 ^ 32
