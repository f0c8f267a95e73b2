-- Words and numbers as they are typed. Assumes nothing.
use Rattle.std.specs.List.{position_or_len}
use Rattle.std.specs.Prelude.{ℕ, ◌+◌, ◌-◌, ◌*◌, ◌^◌, cond, ◌&&◌, List, [], ◌∷◌, take, drop, Some, None, Option, ◌==◌, nat_le, nat_lt}

-- the number so far with one more digit, where the byte is a digit and 32 bits hold the number
abbrev pub with_digit : ℕ → ℕ → Option ℕ
with_digit n c = cond (nat_le 48 c && nat_le c 57) (cond (nat_lt (n * 10 + (c - 48)) (2 ^ 32)) (Some (n * 10 + (c - 48))) None) None

-- the number that the digits give after those before them
abbrev pub value_after : List ℕ → Option ℕ → Option ℕ
value_after [] so_far = so_far
value_after (c ∷ cs) None = None
value_after (c ∷ cs) (Some n) = value_after cs (with_digit n c)

-- one digit or more
abbrev pub number_typed : List ℕ → Option ℕ
number_typed [] = None
number_typed (c ∷ cs) = value_after (c ∷ cs) (Some 0)

-- the place of the first space; the length where there is none
abbrev pub space_place : List ℕ → ℕ
space_place = position_or_len (λ c. c == 32)

-- all before the first space, and all behind it
abbrev pub first_word : List ℕ → List ℕ
first_word cs = take (space_place cs) cs

abbrev pub behind : List ℕ → List ℕ
behind cs = drop (space_place cs + 1) cs
