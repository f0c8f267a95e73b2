-- One call on a book in one of its two stages. Assumes nothing.
use Rattle.std.specs.Prelude.{◌≡◌, Bool, true, false, List, ◌++◌}
use Rattle.registers.specs.declared.meaning.Register.{Ghosts}
use Rattle.registers.specs.declared.pairs.Pair.{Pair}
use Rattle.book.specs.declared.arrangement.AnyBook.{AnyBook}
use Rattle.book.specs.declared.arrangement.AnyBook.TheVariants.{Taking, Closed}
use Rattle.book.specs.Words.{Word}
use Rattle.book.specs.States.{State}
use Rattle.book.specs.Taken.{Holds}
use Rattle.book.specs.Books.{held}
use Rattle.book.specs.Arrangements.{Asked, Said, answer_to, taking_after, words_of}

-- what a book holds, and whether it takes words
pub record Stand : Type 0 where
  pub held : State
  pub taking : Bool

abbrev pub standing : State → Bool → Stand
standing s b = record { held = s; taking = b }

abbrev pub stand_of : {R : Type 0} {g : Ghosts R} → AnyBook R g → Stand
stand_of (Taking b) = standing (held b) true
stand_of (Closed b) = standing (held b) false

-- A call leads from one stand to another, with its answer, whatever pairs the book was made over and whatever words it took.
pub record Performs (s t : Stand) (c : Asked) (a : Said) : Type 0 where
  pub room : t.held.room ≡ s.held.room
  pub taking : t.taking ≡ taking_after s.taking c
  pub answers : (qs : List Pair) (ws : List Word) → Holds qs ws s.held → a ≡ answer_to qs s.held.room ws s.taking c
  pub holds : (qs : List Pair) (ws : List Word) → Holds qs ws s.held → Holds qs (ws ++ words_of c a) t.held
