use Rattle.std.proofs.Common.{◌≡◌, drop, Some}
use Rattle.typed.specs.Typed.{value_after, number_typed}
use Rattle.typed.proofs.read_number.Given as goal

abbrev pub invariant-loop-byte : goal.invariant-loop-byte
invariant-loop-byte l = value_after (drop l.byte-index l.text) (Some l.number) ≡ number_typed l.text
