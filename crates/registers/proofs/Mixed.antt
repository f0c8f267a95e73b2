-- A pair's bucket lies within the table. Assumes nothing.
use Rattle.std.proofs.Common.{ℕ, ◌*◌, ◌^◌, ◌<◌, min, mul_comm, arith, lit<}
use native.Mathlib.Nat.{mul-lt-mul_of_pos_left}
use Rattle.std.proofs.lemmas.Nat.{div_below, mod_below}
use Rattle.registers.specs.declared.pairs.Pair.{Pair}
use Rattle.registers.specs.Mixing.{mix, bucket_index}

mix_below : (p : Pair) → mix p < 2 ^ 32
unfolding mix
mix_below p = mod_below _ (2 ^ 32) (lit< tt)

pub bucket_within : (n : ℕ) (p : Pair) → 0 < n → bucket_index n p < n
unfolding bucket_index
bucket_within n p h =
    let some : 0 < min n 65536 = omega arith in
    let less : mix p * min n 65536 < min n 65536 * 2 ^ 32 = rw (mul_comm (mix p) (min n 65536)) (mul-lt-mul_of_pos_left (mix_below p) some) in
    omega (arith, div_below (mix p * min n 65536) (2 ^ 32) (min n 65536) (lit< tt) less)
