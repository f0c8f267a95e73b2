-- The bucket register: the pairs are those of its places.
use Rattle.std.specs.Prelude.{ℕ, ◌≤◌, List, length, take, vec_items, vec_len, Vec, ◌==◌}
use Rattle.std.proofs.Common.{arith, length-take}
use Rattle.std.proofs.lemmas.List.{length-map}
use Rattle.std.proofs.lemmas.Bool.{cond_both}
use Rattle.std.specs.declared.alloc.Global.{Global}
use Rattle.registers.specs.declared.pairs.Pair.{Pair}
use Rattle.registers.specs.declared.slots.Slot.{Slot}
use Rattle.registers.specs.declared.by_buckets.Buckets.{Buckets}
use Rattle.registers.specs.Pairs.{Apart, Sound}
use Rattle.registers.specs.Mixing.{bucket_index}
use Rattle.registers.specs.Places.{places_of, within_limit}
use Rattle.registers.specs.Chains.{pairs_in, last_in, within_buckets}

abbrev pub pairs_of : Buckets → List Pair
pairs_of s = pairs_in (places_of s.held)

abbrev pub room_of : Buckets → ℕ
room_of s = within_buckets (vec_len s.held.table) (vec_len s.heads)

-- the number of the last pair in the bucket of a pair, or 0
abbrev pub head_of : Buckets → Pair → ℕ
head_of s p = last_in (vec_len s.heads) (pairs_of s) (bucket_index (vec_len s.heads) p) (length (pairs_of s))

pub buckets_sound : (n : ℕ) (table : Vec Slot Global) (buckets : ℕ) → n ≤ within_buckets (vec_len table) buckets → Apart (pairs_in (take n (vec_items table))) → Sound (within_buckets (vec_len table) buckets) (pairs_in (take n (vec_items table)))
buckets_sound n table buckets h a =
    record {
      most = cond_both (buckets == 0) 0 (within_limit (vec_len table)) (λ m. m ≤ 32768) (λ _. omega arith) (λ _. omega arith);
      within = omega (arith, length-map (take n (vec_items table)) (λ (s : Slot). s.pair), length-take n (vec_items table));
      apart = a;
    }

pub sound_of : (s : Buckets) → Sound (room_of s) (pairs_of s)
sound_of s = buckets_sound s.held.count s.held.table (vec_len s.heads) (omega (arith, s.within, length-take s.held.count (vec_items s.held.table), s.held.table.ok.0, s.held.within)) s.apart
