use Rattle.std.proofs.Common.{sym}
use Rattle.names.specs.declared.tokens.Kind.TheVariants.{Syllable, Note, Rest, Frame}
use Rattle.names.proofs.Reading.{token_long, token_naming, token_kind, hears}
use Rattle.names.proofs.TokenFacts.{token_laws}
use Rattle.names.proofs.tokens.read_token.Goals as goal

pub returns-then-bytes-gt64 : goal.returns-then-bytes-gt64
returns-then-bytes-gt64 c = record { value = record { value = sym (token_long c.args.naming c.args.bytes.now c.if-bytes-gt64.true); borrows = tt }; laws = token_laws }

pub returns-in-Some : goal.returns-in-Some
returns-in-Some c = record { value = record { value = sym (token_naming c.args.naming c.args.bytes.now c.in-Some.set c.if-bytes-gt64.false (sym c.in-Some.ensures)); borrows = tt }; laws = token_laws }

pub returns-in-Syllable : goal.returns-in-Syllable
returns-in-Syllable c = record { value = hears c.read_syllable.ensures (token_kind c.args.naming c.args.bytes.now Syllable c.if-bytes-gt64.false (sym c.in_default.ensures) (sym c.in-Syllable.ensures)); laws = token_laws }

pub returns-in-Note : goal.returns-in-Note
returns-in-Note c = record { value = hears c.read_note.ensures (token_kind c.args.naming c.args.bytes.now Note c.if-bytes-gt64.false (sym c.in_default.ensures) (sym c.in-Note.ensures)); laws = token_laws }

pub returns-in-Rest : goal.returns-in-Rest
returns-in-Rest c = record { value = hears c.read_rest.ensures (token_kind c.args.naming c.args.bytes.now Rest c.if-bytes-gt64.false (sym c.in_default.ensures) (sym c.in-Rest.ensures)); laws = token_laws }

pub returns-in-Frame : goal.returns-in-Frame
returns-in-Frame c = record { value = hears c.read_frame.ensures (token_kind c.args.naming c.args.bytes.now Frame c.if-bytes-gt64.false (sym c.in_default.ensures) (sym c.in-Frame.ensures)); laws = token_laws }
