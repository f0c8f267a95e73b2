-- Choosing from a list by a test. Assumes nothing.
use Rattle.std.specs.Prelude.{Bool, List, Option}
use Rattle.std.specs.List.{find}

-- the first that passes the test
abbrev pub pick : {X : Type 0} → (X → Bool) → List X → Option X
pick = find
