-- The row register: the pairs are what its places hold.
use Rattle.std.specs.Prelude.{ℕ, ◌≤◌, List, take, vec_items, vec_len, Vec}
use Rattle.std.proofs.Common.{arith, length-take}
use Rattle.std.specs.declared.alloc.Global.{Global}
use Rattle.registers.specs.declared.pairs.Pair.{Pair}
use Rattle.registers.specs.declared.by_rows.Rows.{Rows}
use Rattle.registers.specs.Pairs.{Apart, Sound}
use Rattle.registers.specs.Places.{places_of, limit_of}
pub use Rattle.registers.specs.Places.{within_limit}

abbrev pub pairs_of : Rows → List Pair
pairs_of s = places_of s.held

abbrev pub room_of : Rows → ℕ
room_of s = limit_of s.held

pub rows_sound : (n : ℕ) (table : Vec Pair Global) → n ≤ vec_len table → n ≤ 32768 → Apart (take n (vec_items table)) → Sound (within_limit (vec_len table)) (take n (vec_items table))
rows_sound n table h m a = record { most = omega arith; within = omega (arith, length-take n (vec_items table), table.ok.0); apart = a }

pub sound_of : (s : Rows) → Sound (room_of s) (pairs_of s)
sound_of s = rows_sound s.held.count s.held.table s.held.within s.held.most s.apart
