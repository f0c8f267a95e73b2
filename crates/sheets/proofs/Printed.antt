-- Lines of words read back. Assumes nothing.
use Rattle.std.proofs.Common.{◌≡◌, ℕ, List, [], ◌∷◌, map, Some, None, Option, sym, refl, ap, ◌∙◌, arith}
use Rattle.std.specs.List.{AllByRecursion}
use Rattle.names.specs.Lines.{Typable, line, words_of}
use Rattle.names.specs.Texts.{Told, text_told}
use Rattle.names.specs.Tokens.{Said, naming, syllable, note, rest, frame}
use Rattle.names.proofs.Lines.{line_laws}
use Rattle.book.specs.declared.readings.Reading.TheVariants.{Written}
use Rattle.book.specs.Readings.{word_of, placed, said_of}
use Rattle.book.specs.Words.{Word}
use Rattle.sheets.specs.Typing.{token_of, with_token, tokens_of}
use Rattle.sheets.specs.SheetLaws.{LinesBack}
use Rattle.sheets.proofs.Typed.{types}

-- the words that tokens give, each of which gives one
abbrev given : Option Word → List Word → List Word
given None ws = ws
given (Some w) ws = w ∷ ws

abbrev words_given : List Said → List Word
words_given [] = []
words_given (t ∷ ts) = given (word_of Written t) (words_given ts)

placed_given : (ts : List Told) → map said_of (placed Written ts) ≡ words_given (words_of ts)
placed_given [] = refl
placed_given (t ∷ ts) = by t.says (placed_given ts)
  where
    by : (x : Said) → map said_of (placed Written ts) ≡ words_given (words_of ts) → map said_of (placed Written (record { byte = t.byte; typed = t.typed; says = x } ∷ ts)) ≡ words_given (words_of (record { byte = t.byte; typed = t.typed; says = x } ∷ ts))
    by (naming n) e = e
    by (syllable s) e = ap (λ ws. given (word_of Written (syllable s)) ws) e
    by (note p octave lasts) e = ap (λ ws. given (word_of Written (note p octave lasts)) ws) e
    by (rest lasts) e = ap (λ ws. given (word_of Written (rest lasts)) ws) e
    by (frame k rank) e = ap (λ ws. given (word_of Written (frame k rank)) ws) e

-- the tokens of words can be typed, and give the words
tokens_good : (ws : List Word) (ts : List Said) → tokens_of ws ≡ Some ts → AllByRecursion Typable ts × (words_given ts ≡ ws)
tokens_good [] ts e = let none : [] ≡ ts = cc in rw (sym none) (tt, refl)
tokens_good (w ∷ ws) ts e = by (token_of w) refl (tokens_of ws) refl e (tokens_good ws)
  where
    by : (o : Option Said) → token_of w ≡ o → (os : Option (List Said)) → tokens_of ws ≡ os → with_token o os ≡ Some ts → ((us : List Said) → tokens_of ws ≡ Some us → AllByRecursion Typable us × (words_given us ≡ ws)) → AllByRecursion Typable ts × (words_given ts ≡ w ∷ ws)
    by None a os b k ih = let z : ◌≡◌ {A = ℕ} 0 1 = cc in absurd (omega arith)
    by (Some t) a None b k ih = let z : ◌≡◌ {A = ℕ} 0 1 = cc in absurd (omega arith)
    by (Some t) a (Some us) b k ih =
        let is : t ∷ us ≡ ts = cc in
        let more = ih us b in
        rw (← is) ((types.typable w t a, more.0), ap (λ o. given o (words_given us)) (types.gives w t a) ∙ ap (λ vs. w ∷ vs) more.1)

pub lines_back : LinesBack
lines_back =
    record {
      same = λ n ws ts e h.
          let good = tokens_good ws ts e in
          let told = line_laws.back n ts good.0 h in
          placed_given (text_told (line n ts)).tokens ∙ (ap words_given told.0 ∙ good.1);
      fine = λ n ws ts e h. (line_laws.back n ts (tokens_good ws ts e).0 h).1;
    }
