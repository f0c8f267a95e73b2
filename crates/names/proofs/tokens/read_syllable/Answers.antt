use Rattle.std.proofs.Common.{◌≡◌, true, false, sym, refl, ◌∙◌, arith}
use Rattle.std.proofs.lemmas.Bool.Decides.{nat_tests}
use Rattle.names.specs.Tokens.{quoted}
use Rattle.names.proofs.Reading.{unquoted, unsyllabled, syllable_is}
use Rattle.names.proofs.tokens.read_syllable.Goals as goal
use Rattle.names.proofs.tokens.read_syllable.Goals.{in_default-via-then-bytes-lt2, in_default-via-in-34+else-is_syllable, in_default-via-else-bytes-lt2+in-34+in_default-1, in_default-via-else-bytes-lt2+in_default-1}

pub returns-in-34 : goal.returns-in-34
returns-in-34 c =
    let q : quoted c.args.bytes.now ≡ true = grind (arith, nat_tests) in
    record { value = sym (syllable_is c.args.bytes.now _ refl q (sym c.is_syllable.ensures ∙ c.if-is_syllable.true)); borrows = tt }

pub returns-in_default : goal.returns-in_default
returns-in_default c =
    elim c.in_default.branch [
      | in_default-via-then-bytes-lt2 w ↦ let q : quoted c.args.bytes.now ≡ false = grind (arith, nat_tests) in record { value = sym (unquoted c.args.bytes.now q); borrows = tt }
      | in_default-via-in-34+else-is_syllable w ↦ record { value = sym (unsyllabled c.args.bytes.now (sym w.is_syllable.ensures ∙ w.if-is_syllable.false)); borrows = tt }
      | in_default-via-else-bytes-lt2+in-34+in_default-1 w ↦ let q : quoted c.args.bytes.now ≡ false = grind (arith, nat_tests) in record { value = sym (unquoted c.args.bytes.now q); borrows = tt }
      | in_default-via-else-bytes-lt2+in_default-1 w ↦ let q : quoted c.args.bytes.now ≡ false = grind (arith, nat_tests) in record { value = sym (unquoted c.args.bytes.now q); borrows = tt }
    ]
