-- Arrangements of calls on one book, and what each call answers. Assumes nothing.
use Rattle.std.specs.Prelude.{ℕ, Bool, true, false, List, [], ◌∷◌, ◌++◌, length, Result}
use Rattle.names.specs.declared.refusals.Fault.{Fault}
use Rattle.names.specs.declared.refusals.Refusal.{Refusal}
use Rattle.registers.specs.declared.pairs.Pair.{Pair}
use Rattle.book.specs.declared.linking.Listed.{Listed}
use Rattle.book.specs.declared.readings.Reading.{Reading}
use Rattle.book.specs.Words.{Word}
use Rattle.book.specs.Taken.{word_answer, added_by}
use Rattle.book.specs.Readings.{text_words, words_added, reading_answer}
use Rattle.book.specs.Questions.{word_group, word_start, word_count, top_count, repeat_count, word_listed, word_table}

-- the calls
pub data Asked : Type 0 where
  take : Word → Asked
  read : Reading → List ℕ → Asked  -- a text
  close : Asked
  reopen : Asked
  words : Asked
  tops : Asked
  group : ℕ → Asked  -- at a position
  start : ℕ → Asked
  repeats : Asked
  list : ℕ → List ℕ → Asked  -- a repeat's number, and the caller's table

-- the answers
pub data Said : Type 0 where
  taken : Result (ℕ × ℕ) Refusal → Said  -- group number and start
  took : Result ℕ Fault → Said  -- how many words
  done : Said
  counted : ℕ → Said
  told : Result ℕ Refusal → Said
  listed : Result Listed Refusal → List ℕ → Said  -- with the table
  not_allowed : Said

-- What a call answers on a book that was made over the pairs qs and took the words ws. A call that the book does not allow as it stands
-- is answered by that word, and does nothing.

-- the questions that a book answers whether it takes words or is closed
abbrev pub question_answer : Asked → List Pair → List Word → Said
question_answer words qs ws = counted (word_count qs ws)
question_answer tops qs ws = counted (top_count qs ws)
question_answer (group p) qs ws = told (word_group p qs ws)
question_answer (start p) qs ws = told (word_start p qs ws)
question_answer c qs ws = not_allowed

-- while it takes words
abbrev pub taking_answer : List Pair → ℕ → List Word → Asked → Said
taking_answer qs room ws (take w) = taken (word_answer qs room ws w)
taking_answer qs room ws (read r text) = took (reading_answer qs room ws r text)
taking_answer qs room ws close = done
taking_answer qs room ws c = question_answer c qs ws

-- while it is closed
abbrev pub closed_answer : List Pair → List Word → Asked → Said
closed_answer qs ws reopen = done
closed_answer qs ws repeats = counted (repeat_count qs ws)
closed_answer qs ws (list k table) = listed (word_listed k (length table) qs ws) (word_table k table qs ws)
closed_answer qs ws c = question_answer c qs ws

-- whether the book takes words, before and after a call
abbrev pub answer_to : List Pair → ℕ → List Word → Bool → Asked → Said
answer_to qs room ws true c = taking_answer qs room ws c
answer_to qs room ws false c = closed_answer qs ws c

abbrev pub taking_after : Bool → Asked → Bool
taking_after b close = false
taking_after b reopen = true
taking_after b c = b

-- The words that a call adds follow from it and its answer: a taking answered adds its word, a reading answered all words of its text,
-- one stopped at a byte those whose tokens begin before it, and no other call adds any.
abbrev pub taken_words : Word → Said → List Word
taken_words w (taken r) = added_by w r
taken_words w a = []

abbrev pub read_words : Reading → List ℕ → Said → List Word
read_words r text (took x) = words_added (text_words r text) x
read_words r text a = []

abbrev pub words_of : Asked → Said → List Word
words_of (take w) a = taken_words w a
words_of (read r text) a = read_words r text a
words_of c a = []

-- the words taken by an arrangement, from its calls and their answers alone
abbrev pub words_taken : List Asked → List Said → List Word
words_taken [] said = []
words_taken (c ∷ cs) [] = []
words_taken (c ∷ cs) (a ∷ said) = words_of c a ++ words_taken cs said

-- the answers to the calls one after another: each finds the book as the one before left it
abbrev pub answers_on : List Pair → ℕ → List Word → Bool → List Asked → List Said
answers_on qs room ws b [] = []
answers_on qs room ws b (c ∷ cs) = answer_to qs room ws b c ∷ answers_on qs room (ws ++ words_of c (answer_to qs room ws b c)) (taking_after b c) cs

-- an arrangement begins with a taking book just made, without words
abbrev pub answers : List Pair → ℕ → List Asked → List Said
answers qs room cs = answers_on qs room [] true cs
