-- The ends that are left along the links. Assumes nothing.
use Rattle.std.specs.Prelude.{ℕ, List, length}
use Rattle.book.specs.declared.ends.Ends.{Ends}
use Rattle.book.specs.Linking.{walk}

abbrev pub left : Ends → List ℕ
left s = walk (length s.later.now) s.later.now s.next
