use Rattle.std.proofs.Common.{◌∙◌, arith}
use Rattle.book.proofs.Asking.{count_repeats, repeats_few}
use Rattle.book.proofs.questions.Book+R+Closed.repeats.Goals as goal

pub count-requires : goal.count-requires
count-requires g c = let b = c.args.self.now in omega (arith, count_repeats b.entries _ (c.as_slice.ensures.value ∙ b.staged.listed), b.few, repeats_few b.entries)
