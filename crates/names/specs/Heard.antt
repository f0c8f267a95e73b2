-- What a token of the code says. Assumes nothing.
use Rattle.std.specs.Prelude.{◌≡◌, ℕ, List, IfOk, Ok, Err, Result}
use Rattle.names.specs.declared.refusals.Refusal.{Refusal}
use Rattle.names.specs.declared.tokens.Note.{Note}
use Rattle.names.specs.declared.tokens.Token.{Token}
use Rattle.names.specs.declared.tokens.Token.TheVariants as token
use Rattle.names.specs.Tokens.{Said, naming, syllable, note, rest, frame, note_name}

abbrev pub noted : Note → Said
noted x = note x.pitch x.octave x.length

abbrev pub said : Token → Said
said (token.Naming n) = naming n
said (token.Syllable s) = syllable s.now
said (token.Note x) = noted x
said (token.Rest length) = rest length
said (token.Frame k rank) = frame k rank

abbrev pub heard : Result Token Refusal → Result Said Refusal
heard (Ok t) = Ok (said t)
heard (Err r) = Err r

-- a note's name is borrowed from the typed bytes
abbrev pub Borrows : List ℕ → Token → Type 0
Borrows bs (token.Naming n) = Unit {0}
Borrows bs (token.Syllable s) = Unit {0}
Borrows bs (token.Note x) = x.name.now ≡ note_name bs
Borrows bs (token.Rest length) = Unit {0}
Borrows bs (token.Frame k rank) = Unit {0}

-- the result of reading the bytes is what they say
pub record Hears (bs : List ℕ) (r : Result Token Refusal) (says : Result Said Refusal) : Type 0 where
  pub value : heard r ≡ says
  pub borrows : IfOk r (Borrows bs)
