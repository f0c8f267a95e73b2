-- Links: how a closed book leads from each word to the next word of the same group, and what it lists of a repeat. Assumes nothing.
use Rattle.std.specs.Prelude.{◌≡◌, ℕ, zero, suc, ◌+◌, ◌-◌, ◌<◌, cond, ◌&&◌, List, [], ◌∷◌, ◌++◌, map, length, get_or, drop, Some, None, Ok, Err, filter, Option, Result, ◌==◌, nat_eq, nat_le, nat_lt, slice_index, slice_index_or}
use Rattle.std.specs.List.{range_with_len}
use Rattle.names.specs.declared.refusals.Refusal.{Refusal}
use Rattle.names.specs.declared.refusals.Refusal.TheVariants.{NoSuchRepeat, TableTooShort}
use Rattle.book.specs.declared.entries.Entry.{Entry}
use Rattle.book.specs.declared.linking.Listed.{Listed}
use Rattle.book.specs.Entries.{entry}
use Rattle.book.specs.Repeats.{first, ends, repeats}

-- the group number at a position
abbrev pub number_at : List Entry → ℕ → ℕ
number_at es p = (get_or es p (entry 0 0)).group

abbrev pub repeats_of : List Entry → List (List ℕ)
repeats_of es = repeats (number_at es) (length es)

-- the positions from p on, below n, that have the number g
abbrev pub ends_from : (ℕ → ℕ) → ℕ → ℕ → ℕ → List ℕ
ends_from number p n g = filter (λ q. nat_eq (number q) g) (range_with_len p (n - p))

-- the next position that has p's group; 0, which comes after none, where there is none
abbrev pub later_of : List Entry → ℕ → ℕ
later_of es p = first (ends_from (number_at es) (p + 1) (length es) (number_at es p))

-- q, if it is a position after p that has p's group, or else 0
abbrev pub if_later : List Entry → ℕ → ℕ → ℕ
if_later es p q = cond (nat_lt p q && (nat_lt q (length es) && number_at es q == number_at es p)) q 0

-- each position leads to the next one of its group
pub record Linked (es : List Entry) (later : List ℕ) : Type 0 where
  pub long : length later ≡ length es
  pub each : (p : ℕ) → p < length es → slice_index later p ≡ later_of es p

-- what a closed book has found: where each position leads, and the first end of each repeat
pub record Indexed (es : List Entry) (later firsts : List ℕ) : Type 0 where
  pub linked : Linked es later
  pub listed : firsts ≡ map first (repeats_of es)

-- the table has, for each group that occurs, the first position of it
pub record Opened (es : List Entry) (table : List ℕ) : Type 0 where
  pub each : (p : ℕ) → p < length es → slice_index table (number_at es p) ≡ first (ends (number_at es) (length es) (number_at es p))

-- the position that the link from p leads to, if it comes after p
abbrev pub next_along : List ℕ → ℕ → Option ℕ
next_along later p = cond (nat_lt p (slice_index later p)) (Some (slice_index later p)) None

-- the positions that at most n links lead through, from one on
abbrev pub walk : ℕ → List ℕ → Option ℕ → List ℕ
walk zero later None = []
walk zero later (Some p) = p ∷ []
walk (suc n) later None = []
walk (suc n) later (Some p) = p ∷ walk n later (next_along later p)

-- the positions that the links lead through from p on, of which there are no more than links
abbrev pub along : List ℕ → ℕ → List ℕ
along later p = walk (length later) later (Some p)

-- What is listed of a repeat: the group, the size of each of its passages, and how many ends it has.

-- the positions of p's group
abbrev pub ends_with : List Entry → ℕ → List ℕ
ends_with es p = ends (number_at es) (length es) (number_at es p)

-- p is a position, and the first of its group
pub record OpensGroup (es : List Entry) (p : ℕ) : Type 0 where
  pub below : p < length es
  pub opens : first (ends_with es p) ≡ p

unfoldable pub listing_from : List Entry → ℕ → Listed
listing_from es p = record { group = number_at es p; size = p + 1 - (get_or es p (entry 0 0)).start; count = length (ends_with es p) }

abbrev pub ends_of : List Entry → ℕ → List ℕ
ends_of es k = slice_index_or (repeats_of es) k []

-- the answer for the repeat of number k, with so many places in the table
unfoldable pub listed_answer : List Entry → ℕ → ℕ → Result Listed Refusal
listed_answer es k places = cond (nat_lt k (length (repeats_of es))) (cond (nat_le (length (ends_of es k)) places) (Ok (listing_from es (first (ends_of es k)))) (Err TableTooShort)) (Err NoSuchRepeat)

-- the table with all ends of the repeat at its beginning, where they fit
unfoldable pub listed_table : List Entry → ℕ → List ℕ → List ℕ
listed_table es k table = cond (nat_lt k (length (repeats_of es)) && nat_le (length (ends_of es k)) (length table)) (ends_of es k ++ drop (length (ends_of es k)) table) table
