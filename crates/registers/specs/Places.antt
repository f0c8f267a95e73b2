-- The places of a register's table that are held.
use Rattle.std.specs.Prelude.{ℕ, ◌-◌, min, cond, List, take, vec_items, vec_len, None, Option, nat_le, slice_get}
use Rattle.registers.specs.declared.held.Held.{Held}

-- the places that are held, in the order in which they were taken
abbrev pub places_of : {T : _} → Held T → List T
places_of s = take s.count (vec_items s.table)

-- how many may be held over a table of so many places
abbrev pub within_limit : ℕ → ℕ
within_limit places = min places 32768

abbrev pub limit_of : {T : _} → Held T → ℕ
limit_of s = within_limit (vec_len s.table)

-- the item with a number, or none outside 1 to the length
abbrev pub item_at : {X : Type 0} → List X → ℕ → Option X
item_at xs n = cond (nat_le 1 n) (slice_get xs (n - 1)) None
