-- What a book keeps of its words, as facts of its types. Assumes nothing.
use Rattle.std.specs.Prelude.{ℕ, ◌<◌, ◌≤◌, List, length, slice_index_or}
use Rattle.book.specs.declared.entries.Entry.{Entry}
use Rattle.book.specs.Entries.{entry}

-- each group number is one that a register can give
abbrev pub LowGroups : List Entry → Type 0
LowGroups es = (p : ℕ) → p < length es → (slice_index_or es p (entry 0 0)).group ≤ 32768

-- each passage starts at its end or before
abbrev pub LowStarts : List Entry → Type 0
LowStarts es = (p : ℕ) → p < length es → (slice_index_or es p (entry 0 0)).start ≤ p

pub record Kept (es : List Entry) : Type 0 where
  pub few : length es ≤ 4096
  pub numbered : LowGroups es
  pub started : LowStarts es

-- no top passage starts behind the words
abbrev pub LowTops : List Entry → ℕ → Type 0
LowTops ts words = (p : ℕ) → p < length ts → (slice_index_or ts p (entry 0 0)).start ≤ words
