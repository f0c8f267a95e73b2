-- Where gaps and tokens end in a text. Assumes nothing.
use Rattle.std.specs.Prelude.{◌≡◌, ℕ, ◌<◌, ◌≤◌, Bool, true, false, not, List, length, slice_index}
use Rattle.names.specs.Tokens.{gap}

-- whether two answers are the same
abbrev pub same_answer : Bool → Bool → Bool
same_answer a true = a
same_answer a false = not a

-- from one place to the other each byte answers the test in the one way, and the next, if any, in the other
pub record Stretch (answer other : Bool) (text : List ℕ) (from to : ℕ) : Type 0 where
  pub forth : from ≤ to
  pub within : from ≤ length text → to ≤ length text
  pub all : (k : ℕ) → from ≤ k → k < to → (k < length text) × (gap (slice_index text k) ≡ answer)
  pub ends : to < length text → gap (slice_index text to) ≡ other

abbrev pub Skipped : List ℕ → ℕ → ℕ → Type 0
Skipped text from to = Stretch true false text from to

abbrev pub Ended : List ℕ → ℕ → ℕ → Type 0
Ended text from to = Stretch false true text from to
