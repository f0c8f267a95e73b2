use Rattle.std.proofs.Common.{◌≡◌, ◌-◌, ◌∷◌, length, drop, Some, None, Ok, Err, sym, ap, ◌∙◌, arith}
use Rattle.std.proofs.lemmas.Result.{err_from_is_err_and}
use Rattle.names.specs.declared.refusals.Fault.{Fault}
use Rattle.names.specs.Reader.{unread, told_of_placed, told_next}
use Rattle.names.specs.Texts.{pieces, text_told, later_than_first}
use Rattle.names.proofs.Lines.{told_formed}
use Rattle.book.specs.Books.{held}
use Rattle.book.specs.Readings.{placed, text_words, stops, takes_all}
use Rattle.names.proofs.Cuts.{first_some, first_none, first_fails}
use Rattle.book.proofs.Telling.{going_more, going_refused, going_end, opened_fine, read_after, read_ended, read_counted, reads}
use Rattle.book.proofs.reading.Book+R+Taking.read.Given.{Over}
use Rattle.book.proofs.reading.Book+R+Taking.read.Goals as goal
use Rattle.book.proofs.reading.Book+R+Taking.read.Goals.{In_ok-reader, In-Some, In_default}

-- the reader has the whole text to tell
opened : (g : Over) (c : In_ok-reader g) → unread c.in_ok-reader.reader ≡ text_told c.args.text.now
opened g c = opened_fine c.args.text.now (unread c.in_ok-reader.reader) c.in_ok-reader.ensures.value

-- the token that was read is the first of what was left to tell
first : (g : Over) (c : In-Some g) → (unread c.loop-placed.reader).tokens ≡ told_of_placed c.in-Some.placed ∷ later_than_first (unread c.loop-placed.reader).tokens
first g c = first_some _ (unread c.loop-placed.reader).fault _ (ap (λ o. told_next (Ok o)) (sym c.in-Some.is) ∙ c.in_ok-placed.ensures.value)

-- at the end of the text each of its words was taken
ended : (g : Over) (c : In_default g) →
    (None ≡ stops (held c.args.self.now) (placed c.args.reading (unread c.in_ok-reader.reader).tokens) (unread c.in_ok-reader.reader).fault)
    × (held c.loop-placed.self ≡ takes_all (held c.args.self.now) (placed c.args.reading (unread c.in_ok-reader.reader).tokens))
ended g c =
    let x = unread c.loop-placed.reader in
    let z = first_none x.tokens x.fault (ap (λ o. told_next (Ok o)) (sym c.in_default.is) ∙ c.in_ok-placed.ensures.value) in
    going_end _ _ _ _ x c.loop-placed.invariant z.0 None z.1

pub take_placed-requires : goal.take_placed-requires
take_placed-requires g c =
    let r = c.loop-placed.reader in
    let e = first g (goal.at.take_placed-requires g c).In-Some in
    (rw e at (told_formed (pieces r.at (drop r.at r.text.now)) r.naming)).0

pub loop-placed-preserved : goal.loop-placed-preserved
loop-placed-preserved g c =
    let took = c.in_ok-take_placed.ensures in
    going_more _ _ _ _ (unread c.loop-placed.reader) (told_of_placed c.in-Some.placed) c.loop-placed.invariant (first g (goal.at.loop-placed-preserved g c).In-Some) _ _ took.answer took.after c.next_token.ensures.left

pub returns-in_err-placed : goal.returns-in_err-placed
returns-in_err-placed g c =
    let s = held c.args.self.now in
    let u = held c.loop-placed.self in
    let x = unread c.loop-placed.reader in
    let p = err_from_is_err_and c.from_residual-in_err-placed.result c.from_residual-in_err-placed.ensures.1 in
    let f = c.in_err-placed.field-0.0 in
    let z = first_fails x.tokens x.fault f c.in_err-placed.ensures.value in
    let whole = opened g (goal.at.returns-in_err-placed g c).In_ok-reader in
    let end = going_end _ _ _ _ x c.loop-placed.invariant z.0 (Some f) z.1 in
    let a = p.1 ∙ (ap (λ (f : Fault). Err f) p.2 ∙ read_ended s u c.args.reading c.args.text.now _ whole end.1 (Some f) end.0) in
    let b = read_after s u c.args.reading c.args.text.now _ whole end.1 in
    record { answer = a; after = b; reads = reads s u c.args.reading c.args.text.now _ a b }

pub returns-in_err-take_placed : goal.returns-in_err-take_placed
returns-in_err-take_placed g c =
    let s = held c.args.self.now in
    let u = held c.take_placed.new.self in
    let p = err_from_is_err_and c.from_residual-in_err-take_placed.result c.from_residual-in_err-take_placed.ensures.1 in
    let f = c.in_err-take_placed.field-0.0 in
    let took = c.in_err-take_placed.ensures in
    let whole = opened g (goal.at.returns-in_err-take_placed g c).In_ok-reader in
    let end = going_refused _ _ _ _ (unread c.loop-placed.reader) (told_of_placed c.in-Some.placed) c.loop-placed.invariant (first g (goal.at.returns-in_err-take_placed g c).In-Some) u f took.answer took.after in
    let a = p.1 ∙ (ap (λ (f : Fault). Err f) p.2 ∙ read_ended s u c.args.reading c.args.text.now _ whole end.1 (Some f) end.0) in
    let b = read_after s u c.args.reading c.args.text.now _ whole end.1 in
    record { answer = a; after = b; reads = reads s u c.args.reading c.args.text.now _ a b }

pub overflow_sub-result : goal.overflow_sub-result
overflow_sub-result g c =
    let end = ended g (goal.at.overflow_sub-result g c).In_default in
    let whole = opened g (goal.at.overflow_sub-result g c).In_ok-reader in
    omega (arith, read_counted (held c.args.self.now) (held c.loop-placed.self) c.args.reading c.args.text.now _ whole end.1 end.0, c.words-before.ensures.value, c.words.ensures.value)

pub returns : goal.returns
returns g c =
    let s = held c.args.self.now in
    let u = held c.loop-placed.self in
    let end = ended g (goal.at.returns g c).In_default in
    let whole = opened g (goal.at.returns g c).In_ok-reader in
    let n = read_counted s u c.args.reading c.args.text.now _ whole end.1 end.0 in
    let took : c.words.result - c.words-before.result ≡ length (text_words c.args.reading c.args.text.now) = omega (arith, n, c.words-before.ensures.value, c.words.ensures.value) in
    let a = ap (λ k. Ok k) took ∙ read_ended s u c.args.reading c.args.text.now _ whole end.1 None end.0 in
    let b = read_after s u c.args.reading c.args.text.now _ whole end.1 in
    record { answer = a; after = b; reads = reads s u c.args.reading c.args.text.now _ a b }
