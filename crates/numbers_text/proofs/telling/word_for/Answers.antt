use Rattle.std.proofs.Common.{rules}
use Rattle.numbers_text.specs.declared.telling.Word.TheVariants.{Known}
use Rattle.numbers_text.proofs.Words.{told_right}
use Rattle.numbers_text.proofs.telling.word_for.Goals as goal

pub returns-in-Some-2-clause-right : goal.returns-in-Some-2-clause-right
returns-in-Some-2-clause-right c room qs p e f = told_right room qs p _ _ e f Known (search rules)
