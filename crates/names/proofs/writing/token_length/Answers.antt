use Rattle.std.proofs.Common.{◌≡◌, ℕ, ◌+◌, true, leb, [], ◌∷◌, ◌++◌, length, None, Ok, codes, decimal, sym, refl, ap, ◌∙◌, arith}
use Rattle.std.proofs.lemmas.List.{length_push}
use Rattle.std.proofs.lemmas.Bool.{le-leb}
use Rattle.names.specs.declared.pitches.Naming.{Naming}
use Rattle.names.specs.declared.refusals.Refusal.TheVariants.{NotOfForm, BadOctaveOrLength}
use Rattle.names.specs.declared.tokens.Token.{Token}
use Rattle.names.specs.Heard.{said}
use Rattle.names.specs.Keywords.{keyword_word}
use Rattle.names.specs.Names.{name}
use Rattle.names.specs.Tokens.{spelled, malformed, unless, lengthened}
use Rattle.names.proofs.Laying.{length_marked, length_quotes}
use Rattle.names.proofs.writing.token_length.Goals as goal

-- the length of a token that is known to be of a form and to be well formed
fit : (n : Naming) (t x : Token) (k : ℕ) → t ≡ x → malformed (said x) ≡ None → k ≡ length (spelled n (said x)) → Ok k ≡ lengthened (malformed (said t)) (spelled n (said t))
fit n t x k e none len =
    ap Ok len ∙ ap (λ m. lengthened m (spelled n (said x))) (sym none) ∙ ap (λ y. lengthened (malformed (said y)) (spelled n (said y))) (sym e)

pub returns-in-Naming : goal.returns-in-Naming
unfolding spelled
returns-in-Naming c = fit c.args.naming c.args.token.now _ (length c.word.result.now) c.in-Naming.is refl (ap length c.word.ensures)

pub returns-in-Syllable : goal.returns-in-Syllable
unfolding spelled
returns-in-Syllable c =
    fit c.args.naming c.args.token.now _ (length c.in-Syllable.bytes.now + 2) c.in-Syllable.is
    (ap (λ b. unless b NotOfForm) (sym c.is_syllable.ensures ∙ c.if-is_syllable.true))
    (sym (length_quotes c.in-Syllable.bytes.now))

pub returns-in-Note : goal.returns-in-Note
unfolding spelled
returns-in-Note c =
    let x = c.in-Note.note in
    let nm = name c.args.naming x.pitch in
    let m = length_marked (nm ++ ((48 + x.octave) ∷ [])) 47 x.length in
    let p = length_push nm (48 + x.octave) in
    let d = c.decimal_length.ensures.value ∙ ap (λ n. length (decimal n)) c.from.ensures in
    let s = c.name_length.ensures in
    fit c.args.naming c.args.token.now _ (c.name_length.result + 2 + c.decimal_length.result) c.in-Note.is
    (ap (λ b. unless b BadOctaveOrLength) (sym c.is_sung.ensures ∙ c.if-is_sung.true)) (omega arith)

pub returns-in-Rest : goal.returns-in-Rest
unfolding spelled
returns-in-Rest c =
    let m = length_marked (codes "r") 47 c.in-Rest.length in
    let d = c.decimal_length-in-Rest.ensures.value ∙ ap (λ n. length (decimal n)) c.from-in-Rest.ensures in
    fit c.args.naming c.args.token.now _ (2 + c.decimal_length-in-Rest.result) c.in-Rest.is
    (ap (λ b. unless b BadOctaveOrLength) (sym c.is_length.ensures ∙ c.if-is_length.true)) (omega arith)

pub returns-in-Frame : goal.returns-in-Frame
unfolding spelled
returns-in-Frame c =
    let rank = c.in-Frame.rank in
    let m = length_marked (keyword_word c.in-Frame.keyword) 58 rank in
    let d = c.decimal_length-in-Frame.ensures.value ∙ ap (λ n. length (decimal n)) c.from-in-Frame.ensures in
    let w = ap length c.word-in-Frame.ensures in
    let fits : leb rank 255 ≡ true = le-leb rank 255 (omega arith) in
    fit c.args.naming c.args.token.now _ (length c.word-in-Frame.result.now + 1 + c.decimal_length-in-Frame.result) c.in-Frame.is
    (ap (λ b. unless b NotOfForm) fits) (omega arith)
