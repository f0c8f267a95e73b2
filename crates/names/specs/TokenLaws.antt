-- Reading and writing tokens undo each other.
use Rattle.std.specs.Prelude.{◌≡◌, ℕ, List, Some, None, Ok}
use Rattle.names.specs.declared.pitches.Naming.{Naming}
use Rattle.names.specs.Tokens.{Said, spelled, malformed, token_read}

pub record TokenLaws : Type 0 where
  -- a token that can be written reads back as itself, in the naming it was written in
  pub back : (n : Naming) (t : Said) → malformed t ≡ None → token_read (Some n) (spelled n t) ≡ Ok t
  -- a token that was read can be written, byte for byte as it was typed
  pub same : (n : Naming) (bs : List ℕ) (t : Said) → token_read (Some n) bs ≡ Ok t → (malformed t ≡ None) × (spelled n t ≡ bs)
  -- bytes have at most one reading
  pub once : (n : Naming) (t u : Said) → malformed t ≡ None → malformed u ≡ None → spelled n t ≡ spelled n u → t ≡ u
  -- what is read before any naming word is read alike in both namings
  pub unset : (n : Naming) (bs : List ℕ) (t : Said) → token_read None bs ≡ Ok t → token_read (Some n) bs ≡ Ok t
