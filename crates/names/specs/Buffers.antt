-- Bytes written over part of a buffer. Assumes nothing.
use Rattle.std.specs.Prelude.{ℕ, ◌+◌, Bool, cond, List, ◌++◌, length, take, drop, nat_le}

-- the bytes have room from the place on
abbrev pub fits : List ℕ → ℕ → List ℕ → Bool
fits out at bs = nat_le (at + length bs) (length out)

-- the buffer with the bytes from the place on, and else as it was
abbrev pub laid : List ℕ → ℕ → List ℕ → List ℕ
laid out at bs = take at out ++ (bs ++ drop (at + length bs) out)

-- the buffer after a writing that refuses what does not fit
abbrev pub written : List ℕ → ℕ → List ℕ → List ℕ
written out at bs = cond (fits out at bs) (laid out at bs) out
