-- Words as a book holds them. Assumes nothing.
use Rattle.std.specs.Prelude.{ℕ, List, map}
use Rattle.book.specs.declared.entries.Entry.{Entry}

abbrev pub entry : ℕ → ℕ → Entry
entry g s = record { group = g; start = s }

abbrev pub group_of : Entry → ℕ
group_of e = e.group

-- the group numbers, in their order
abbrev pub groups_of : List Entry → List ℕ
groups_of es = map group_of es
