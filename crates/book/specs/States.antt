-- What a book holds, and what taking a word does to it. Assumes nothing.
use Rattle.std.specs.Prelude.{◌≡◌, ℕ, ◌+◌, ◌-◌, cond, List, [], ◌∷◌, ◌++◌, length, take, drop, Some, None, Ok, Err, Option, Result, nat_le, nat_lt}
use Rattle.names.specs.declared.refusals.Refusal.{Refusal}
use Rattle.names.specs.declared.refusals.Refusal.TheVariants.{RankAboveTops, BookFull, RegisterFull}
use Rattle.registers.specs.declared.pairs.Pair.{Pair}
use Rattle.book.specs.declared.entries.Entry.{Entry}
use Rattle.book.specs.Words.{Word}
use Rattle.book.specs.Groups.{items, entered, reached}
use Rattle.book.specs.Entries.{entry, groups_of}

-- The register's pairs and capacity, an entry for each word, and one for each top passage.
pub record State : Type 0 where
  pub pairs : List Pair
  pub room : ℕ
  pub entries : List Entry
  pub tops : List Entry

abbrev pub state : List Pair → ℕ → List Entry → List Entry → State
state qs room es ts = record { pairs = qs; room = room; entries = es; tops = ts }

-- a book just made
abbrev pub fresh : List Pair → ℕ → State
fresh qs room = state qs room [] []

-- the free places that a word asks for, as many as it has items
abbrev pub needs : Word → ℕ
needs w = 2 + length w.spelling + w.rank

-- Why a word is refused, by the number of top passages, of words held and of free places: the first reason that applies.
unfoldable pub refusal : ℕ → ℕ → ℕ → Word → Option Refusal
refusal tops words free w = cond (nat_lt tops w.rank) (Some RankAboveTops) (cond (nat_le 4096 words) (Some BookFull) (cond (nat_lt free (needs w)) (Some RegisterFull) None))

abbrev pub refused : State → Word → Option Refusal
refused s w = refusal (length s.tops) (length s.entries) (s.room - length s.pairs) w

-- that a word may be taken, or the refusal
abbrev pub allowed : Option Refusal → Result (Unit {0}) Refusal
allowed None = Ok tt
allowed (Some r) = Err r

-- the top passages that the word takes as its children
abbrev pub children : State → Word → List Entry
children s w = drop (length s.tops - w.rank) s.tops

-- a passage starts with its first child, and at the word itself where it has none
abbrev pub start_over : List Entry → ℕ → ℕ
start_over [] p = p
start_over (c ∷ cs) p = c.start

abbrev pub taken : State → Word → Entry
taken s w = entry (reached s.pairs 0 (items w (groups_of (children s w)))) (start_over (children s w) (length s.entries))

-- the book with the word
abbrev pub grown : State → Word → State
grown s w =
    state (entered s.pairs 0 (items w (groups_of (children s w)))) s.room (s.entries ++ taken s w ∷ [])
    (take (length s.tops - w.rank) s.tops ++ taken s w ∷ [])

-- the answer to a taking: group number and start, or the refusal
abbrev pub answered : Option Refusal → Entry → Result (ℕ × ℕ) Refusal
answered None e = Ok (e.group, e.start)
answered (Some r) e = Err r

abbrev pub unless : {X : Type 0} → Option Refusal → X → X → X
unless None x y = x
unless (Some r) x y = y

unfoldable pub take_answer : State → Word → Result (ℕ × ℕ) Refusal
take_answer s w = answered (refused s w) (taken s w)

unfoldable pub after_take : State → Word → State
after_take s w = unless (refused s w) (grown s w) s

-- the answer to taking a word, and what the book holds then
pub record Took (s t : State) (w : Word) (r : Result (ℕ × ℕ) Refusal) : Type 0 where
  pub answer : r ≡ take_answer s w
  pub after : t ≡ after_take s w
