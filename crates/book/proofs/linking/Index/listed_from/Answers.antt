use Rattle.std.proofs.Common.{◌≡◌, ◌≤◌, length, ap, ◌∙◌, refl, inl, arith}
use Rattle.std.proofs.lemmas.Iterator.Consumers.{count_from_yields_List, YieldsList-from_first}
use Rattle.book.specs.Linking.{ends_with}
use Rattle.book.specs.Ends.{left}
use Rattle.book.proofs.LinkingListed.{along_ends, ends_few, told_from}
use Rattle.book.proofs.linking.Index.listed_from.Goals as goal
use Rattle.book.proofs.linking.Index.listed_from.Goals.{After-ends, After-count}

-- the ends that the walk passes
passed : (c : After-ends) → left c.ends.result ≡ ends_with c.args.entries.now c.args.first
passed c = c.ends.ensures ∙ along_ends c.args.entries.now _ c.requires.linked c.args.first c.requires.opens

few : (c : After-ends) → length (left c.ends.result) ≤ 4096
few c = omega (arith, ap length (passed c), ends_few c.args.entries.now c.args.first, c.as_slice.ensures.kept.few)

counted : (c : After-count) → c.count.result ≡ length (left c.ends.result)
counted c = count_from_yields_List c.ends.result c.count.result c.count.ensures.ran (YieldsList-from_first (λ x. x) left (left c.ends.result) refl)

pub count-requires-clause-fits : goal.count-requires-clause-fits
count-requires-clause-fits c = inl (omega (arith, few c))

pub overflow_cast-result : goal.overflow_cast-result
overflow_cast-result c = omega (arith, counted c, few (goal.at.overflow_cast-result c).After-ends)

pub returns : goal.returns
returns c = told_from c.args.entries.now _ c.as_slice.ensures.value c.args.first _ _ c.size_of_passage.ensures (counted c ∙ ap length (passed (goal.at.returns c).After-ends))
