-- Group numbers: the number that a passage has by a list of pairs. Assumes nothing.
use Rattle.std.specs.Prelude.{◌≡◌, ℕ, suc, true, List, [], ◌∷◌, ◌++◌, length, Some, None, Option}
use Rattle.registers.specs.declared.pairs.Pair.{Pair}
use Rattle.registers.specs.Pairs.{pair, holds, number_in}
use Rattle.registers.specs.Holding.{holding}
use Rattle.book.specs.Words.{Word}
use Rattle.book.specs.Passages.{Passage, Row, over, none, ◌▹◌, last, node}
use Rattle.book.specs.Tops.{passage_at, push}

abbrev pub or_zero : Option ℕ → ℕ
or_zero None = 0
or_zero (Some n) = n

-- a pair's number in a list; 0, which is no pair's number, where it is not held
abbrev pub number_of : List Pair → Pair → ℕ
number_of qs p = or_zero (number_in qs p)

-- The number that a row of items comes to: for each item in turn, the number of the pair (number so far, item).
abbrev pub chain : List Pair → ℕ → List ℕ → ℕ
chain qs n [] = n
chain qs n (i ∷ is) = chain qs (number_of qs (pair n i)) is

-- each pair on that way is held
abbrev pub Links : List Pair → ℕ → List ℕ → Type 0
Links qs n [] = Unit {0}
Links qs n (i ∷ is) = (holds qs (pair n i) ≡ true) × Links qs (number_of qs (pair n i)) is

-- the items of a word: its rank, its spelling's length, the spelled numbers, and the children's group numbers from left to right
abbrev pub items : Word → List ℕ → List ℕ
items w children = w.rank ∷ length w.spelling ∷ w.spelling ++ children

-- The group number of a passage, and those of a row from left to right.
abbrev mutual
  pub group : List Pair → Passage → ℕ
  group qs (over s ts) = chain qs 0 (items (node s ts) (groups qs ts))

  pub groups : List Pair → Row → List ℕ
  groups qs none = []
  groups qs (ts ▹ t) = groups qs ts ++ group qs t ∷ []

-- the group number of the passage that ends at position p
abbrev pub group_at : List Pair → List Word → ℕ → ℕ
group_at qs ws p = group qs (passage_at ws p)

-- Every pair of a passage is held, those of the passages in it too.
abbrev mutual
  pub Held : List Pair → Passage → Type 0
  Held qs (over s ts) = Links qs 0 (items (node s ts) (groups qs ts)) × HeldAll qs ts

  pub HeldAll : List Pair → Row → Type 0
  HeldAll qs none = Unit {0}
  HeldAll qs (ts ▹ t) = HeldAll qs ts × Held qs t

-- the list with a pair held, where there is a place left for it
abbrev pub hold : List Pair → Pair → List Pair
hold qs p = holding (suc (length qs)) qs p

-- the list after the pairs of the items were asked for in turn, from the number n on
abbrev pub entered : List Pair → ℕ → List ℕ → List Pair
entered qs n [] = qs
entered qs n (i ∷ is) = entered (hold qs (pair n i)) (number_of (hold qs (pair n i)) (pair n i)) is

-- the number that is reached so
abbrev pub reached : List Pair → ℕ → List ℕ → ℕ
reached qs n [] = n
reached qs n (i ∷ is) = reached (hold qs (pair n i)) (number_of (hold qs (pair n i)) (pair n i)) is

-- that the items, asked for in turn from the number n on, lead from the one list to the other and to the number m
pub record Enters (qs : List Pair) (n : ℕ) (is : List ℕ) (rs : List Pair) (m : ℕ) : Type 0 where
  pub list : rs ≡ entered qs n is
  pub number : m ≡ reached qs n is

-- the list after one word, over the top passages before it
abbrev pub with_word : List Pair → Row → Word → List Pair
with_word qs row w = entered qs 0 (items w (groups qs (last w.rank row)))

-- the list after the words, read in turn from a row on
abbrev pub registering : List Pair → Row → List Word → List Pair
registering qs row [] = qs
registering qs row (w ∷ ws) = registering (with_word qs row w) (push row w) ws

abbrev pub registered : List Pair → List Word → List Pair
registered qs ws = registering qs none ws

-- The same on a register with a capacity: the list, and the number, if each pair gets one.
abbrev pub entered_in : ℕ → List Pair → ℕ → List ℕ → List Pair
entered_in room qs n [] = qs
entered_in room qs n (i ∷ is) = entered_in room (holding room qs (pair n i)) (number_of (holding room qs (pair n i)) (pair n i)) is

abbrev pub reached_in : ℕ → List Pair → ℕ → List ℕ → ℕ
reached_in room qs n [] = n
reached_in room qs n (i ∷ is) = reached_in room (holding room qs (pair n i)) (number_of (holding room qs (pair n i)) (pair n i)) is
