-- What calls and answers of the code are. Assumes nothing.
use Rattle.std.specs.Prelude.{vec_items}
use Rattle.book.specs.declared.calls.Call.{Call}
use Rattle.book.specs.declared.calls.Call.TheVariants as call
use Rattle.book.specs.declared.calls.Answer.{Answer}
use Rattle.book.specs.declared.calls.Answer.TheVariants as answer
use Rattle.book.specs.Words.{Word}
use Rattle.book.specs.Arrangements.{Asked, take, read, close, reopen, words, tops, group, start, repeats, list, Said, taken, took, done, counted, told, listed, not_allowed}

abbrev pub asked : {N : Type 0} → (N → Word) → Call N → Asked
asked says (call.Take n) = take (says n)
asked says (call.Read r text) = read r text.now
asked says call.Close = close
asked says call.Reopen = reopen
asked says call.Words = words
asked says call.Tops = tops
asked says (call.Group p) = group p
asked says (call.Start p) = start p
asked says call.Repeats = repeats
asked says (call.List k table) = list k (vec_items table)

abbrev pub said : Answer → Said
said (answer.Taken r) = taken r
said (answer.Took r) = took r
said answer.Done = done
said (answer.Counted n) = counted n
said (answer.Told r) = told r
said (answer.Listed r table) = listed r (vec_items table)
said answer.NotAllowed = not_allowed
