-- What a book holds, in either of its stages. Assumes nothing.
use Rattle.std.specs.Prelude.{vec_items}
use Rattle.registers.specs.declared.meaning.Register.{Ghosts}
use Rattle.book.specs.declared.books.Stage.{Ghosts as StageGhosts}
use Rattle.book.specs.declared.books.Book.{Book}
use Rattle.book.specs.States.{State, state}

abbrev pub held : {R S : Type 0} {g : Ghosts R} {h : StageGhosts S} → Book R S g h → State
held {R} {S} {g} {h} b = state (g.pairs b.register) (g.room b.register) b.entries (vec_items b.tops)
