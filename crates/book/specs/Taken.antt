-- What a book holds that was made over some pairs and took some words, said of these alone. Assumes nothing.
use Rattle.std.specs.Prelude.{◌≡◌, ℕ, ◌-◌, List, [], ◌∷◌, ◌++◌, map, length, Ok, Err, Option, Result}
use Rattle.std.specs.List.{range_with_len}
use Rattle.names.specs.declared.refusals.Refusal.{Refusal}
use Rattle.registers.specs.declared.pairs.Pair.{Pair}
use Rattle.book.specs.declared.entries.Entry.{Entry}
use Rattle.book.specs.Words.{Word}
use Rattle.book.specs.Passages.{Row, none, ◌▹◌, count, sizes}
use Rattle.book.specs.Tops.{tops, Formed, start_at}
use Rattle.book.specs.Groups.{group, group_at, registered}
use Rattle.book.specs.Entries.{entry}
use Rattle.book.specs.States.{State, state, refusal, answered}

-- the group number and the start of the passage that ends at a position
abbrev pub entry_at : List Pair → List Word → ℕ → Entry
entry_at qs ws p = entry (group_at qs ws p) (start_at ws p)

unfoldable pub entries_of : List Pair → List Word → List Entry
entries_of qs ws = map (entry_at qs ws) (range_with_len 0 (length ws))

-- the group numbers and the starts of the passages of a row
abbrev pub entries_on : List Pair → Row → List Entry
entries_on qs none = []
entries_on qs (row ▹ t) = entries_on qs row ++ entry (group qs t) (sizes row) ∷ []

-- The book made over the pairs qs that took the words: its register's pairs, its words' and its top passages' numbers and starts.
abbrev pub state_of : List Pair → ℕ → List Word → State
state_of qs room ws = state (registered qs ws) room (entries_of (registered qs ws) ws) (entries_on (registered qs ws) (tops ws))

pub record Holds (qs : List Pair) (ws : List Word) (s : State) : Type 0 where
  pub formed : Formed ws
  pub is : s ≡ state_of qs s.room ws

-- why such a book refuses a word
abbrev pub word_refusal : List Pair → ℕ → List Word → Word → Option Refusal
word_refusal qs room ws w = refusal (count (tops ws)) (length ws) (room - length (registered qs ws)) w

-- the answer to taking a word: the group number and the start of the passage that then ends with it
abbrev pub word_answer : List Pair → ℕ → List Word → Word → Result (ℕ × ℕ) Refusal
word_answer qs room ws w = answered (word_refusal qs room ws w) (entry_at (registered qs (ws ++ w ∷ [])) (ws ++ w ∷ []) (length ws))

-- the words that a taking adds, by its answer
abbrev pub added_by : Word → Result (ℕ × ℕ) Refusal → List Word
added_by w (Ok x) = w ∷ []
added_by w (Err r) = []

-- Whatever pairs the book was made over and whatever words it took, the answer is that of these words, and it took the word if it was answered.
pub record Takes (s t : State) (w : Word) (r : Result (ℕ × ℕ) Refusal) : Type 0 where
  pub answers : (qs : List Pair) (ws : List Word) → Holds qs ws s → r ≡ word_answer qs s.room ws w
  pub holds : (qs : List Pair) (ws : List Word) → Holds qs ws s → Holds qs (ws ++ added_by w r) t
