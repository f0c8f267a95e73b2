-- Asking for the numbers of pairs, one after another.
-- All of it follows from the capacity and the list at the beginning, whichever register it is.
use Rattle.std.specs.Prelude.{◌≡◌, ℕ, ◌<◌, Bool, ◌↔◌, List, [], ◌∷◌, ◌++◌, length, take, drop, Some, None, Option, ◌==◌, slice_index_or}
use Rattle.std.specs.Option.{option_eq}
use Rattle.std.specs.Cmp.Lexicographic.{pointwise}
use Rattle.registers.specs.declared.pairs.Pair.{Pair}
use Rattle.registers.specs.Pairs.{at, number_in, pair_at}
use Rattle.registers.specs.Holding.{holding}

-- the list after all the pairs were asked for
abbrev pub holding_all : ℕ → List Pair → List Pair → List Pair
holding_all room qs [] = qs
holding_all room qs (p ∷ ps) = holding_all room (holding room qs p) ps

-- the numbers that are given, one for each pair that is asked for
abbrev pub numbers : ℕ → List Pair → List Pair → List (Option ℕ)
numbers room qs [] = []
numbers room qs (p ∷ ps) = number_in (holding room qs p) p ∷ numbers room (holding room qs p) ps

-- the pairs that a table of numbers has places for
abbrev pub fitting : List Pair → List (Option ℕ) → List Pair
fitting asked table = take (length table) asked

-- the table with the numbers that are given written to its beginning
abbrev pub answered : ℕ → List Pair → List Pair → List (Option ℕ) → List (Option ℕ)
answered room qs asked table = numbers room qs (fitting asked table) ++ drop (length asked) table

-- The law of numbers given for the pairs asked for, where qs is the list after it.
pub record Law (room : ℕ) (asked : List Pair) (given : List (Option ℕ)) (qs : List Pair) : Type 0 where
  -- a number that was given is the pair's number in that list
  pub lasting : (i n : ℕ) → i < length asked → slice_index_or given i None ≡ Some n → number_in qs (at asked i) ≡ Some n
  -- and stays it, whatever is asked after
  pub stays : (p : Pair) (n : ℕ) (later : List Pair) → number_in qs p ≡ Some n → number_in (holding_all room qs later) p ≡ Some n
  -- in that list the pair at a number is the pair that has it
  pub back : (p : Pair) (n : ℕ) → (number_in qs p ≡ Some n) ↔ (pair_at qs n ≡ Some p)
  -- two numbers that were given are equal exactly where the pairs are
  pub exact : (i j m n : ℕ) → i < length asked → j < length asked → slice_index_or given i None ≡ Some m → slice_index_or given j None ≡ Some n → (m ≡ n) ↔ (at asked i ≡ at asked j)

-- two rows of answers that agree: as many, and the same at each place
abbrev pub same_numbers : List (Option ℕ) → List (Option ℕ) → Bool
same_numbers = pointwise (option_eq (λ m n. m == n))
