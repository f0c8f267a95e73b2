use Rattle.std.proofs.Common.{◌≡◌, vec_items}
use Rattle.book.proofs.LinkingFirsts.{Gathered}
use Rattle.book.proofs.linking.Index.gather_firsts.Given as goal

abbrev pub invariant-loop-p : goal.invariant-loop-p
invariant-loop-p l =
    Gathered l.entries l.p (vec_items l.self.firsts) × (vec_items l.self.latest ≡ vec_items l.initial.self.latest) × (vec_items l.self.later ≡ vec_items l.initial.self.later)
