use Rattle.std.proofs.Common.{◌≡◌, ◌≤◌, drop}
use Rattle.names.specs.Scanned.{start, scanned}
use Rattle.names.proofs.notes.scan.Given as goal

abbrev pub invariant-loop-byte : goal.invariant-loop-byte
invariant-loop-byte l = (l.reader.name ≤ l.byte-index) × (scanned l.reader (drop l.byte-index l.bytes) ≡ scanned start l.bytes)
