-- What is asked of a book. Assumes nothing.
use Rattle.std.specs.Prelude.{◌≡◌, ℕ, cond, ◌&&◌, List, [], ◌++◌, length, get_or, drop, Ok, Err, Result, nat_le, nat_lt, slice_index_or}
use Rattle.names.specs.declared.refusals.Refusal.{Refusal}
use Rattle.names.specs.declared.refusals.Refusal.TheVariants.{NoSuchPosition, NoSuchRepeat, TableTooShort}
use Rattle.registers.specs.declared.pairs.Pair.{Pair}
use Rattle.book.specs.declared.linking.Listed.{Listed}
use Rattle.book.specs.Words.{Word}
use Rattle.book.specs.Passages.{count, size}
use Rattle.book.specs.Tops.{tops, passage_at, start_at}
use Rattle.book.specs.Groups.{group_at, registered}
use Rattle.book.specs.Repeats.{first, repeats}
use Rattle.book.specs.Entries.{entry}
use Rattle.book.specs.States.{State}
use Rattle.book.specs.Taken.{Holds}

-- an answer about a position, if that is below the words
abbrev pub at_position : {X : Type 0} → ℕ → ℕ → X → Result X Refusal
at_position words p answer = cond (nat_lt p words) (Ok answer) (Err NoSuchPosition)

abbrev pub group_answer : State → ℕ → Result ℕ Refusal
group_answer s p = at_position (length s.entries) p (get_or s.entries p (entry 0 0)).group

abbrev pub start_answer : State → ℕ → Result ℕ Refusal
start_answer s p = at_position (length s.entries) p (get_or s.entries p (entry 0 0)).start

-- The same of a book made over the pairs qs that took the words.

abbrev pub word_count : List Pair → List Word → ℕ
word_count qs ws = length ws

abbrev pub top_count : List Pair → List Word → ℕ
top_count qs ws = count (tops ws)

abbrev pub word_group : ℕ → List Pair → List Word → Result ℕ Refusal
word_group p qs ws = at_position (length ws) p (group_at (registered qs ws) ws p)

abbrev pub word_start : ℕ → List Pair → List Word → Result ℕ Refusal
word_start p qs ws = at_position (length ws) p (start_at ws p)

-- the repeats, each by its ends
unfoldable pub listing : List Pair → List Word → List (List ℕ)
listing qs ws = repeats (group_at (registered qs ws) ws) (length ws)

abbrev pub repeat_count : List Pair → List Word → ℕ
repeat_count qs ws = length (listing qs ws)

-- the ends of repeat k
abbrev pub ends_at : ℕ → List Pair → List Word → List ℕ
ends_at k qs ws = slice_index_or (listing qs ws) k []

-- a repeat's group number, its size and the count of its ends
abbrev pub listed_by : List Pair → List Word → List ℕ → Listed
listed_by qs ws es = record { group = group_at (registered qs ws) ws (first es); size = size (passage_at ws (first es)); count = length es }

-- the answer to listing repeat k into a table of so many places, and the table then
unfoldable pub word_listed : ℕ → ℕ → List Pair → List Word → Result Listed Refusal
word_listed k places qs ws = cond (nat_lt k (repeat_count qs ws)) (cond (nat_le (length (ends_at k qs ws)) places) (Ok (listed_by qs ws (ends_at k qs ws))) (Err TableTooShort)) (Err NoSuchRepeat)

unfoldable pub word_table : ℕ → List ℕ → List Pair → List Word → List ℕ
word_table k table qs ws = cond (nat_lt k (repeat_count qs ws) && nat_le (length (ends_at k qs ws)) (length table)) (ends_at k qs ws ++ drop (length (ends_at k qs ws)) table) table

-- Whatever pairs the book was made over and whatever words it took, what is told is so of these words.
pub record Tells {X : Type 0} (s : State) (told : X) (so : List Pair → List Word → X) : Type 0 where
  pub law : (qs : List Pair) (ws : List Word) → Holds qs ws s → told ≡ so qs ws
