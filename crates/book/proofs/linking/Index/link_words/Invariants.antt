use Rattle.std.proofs.Common.{vec_items}
use Rattle.book.proofs.LinkingWords.{Back}
use Rattle.book.proofs.linking.Index.link_words.Given as goal

abbrev pub invariant-loop-p : goal.invariant-loop-p
invariant-loop-p l = Back l.entries l.p (vec_items l.self.latest) (vec_items l.self.later)
