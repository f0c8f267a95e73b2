-- A text is gaps and tokens in turn. Assumes nothing.
use Rattle.std.specs.Prelude.{◌≡◌, ℕ, ◌+◌, ◌<◌, true, false, not, List, [], ◌∷◌, ◌++◌, length}
use Rattle.names.specs.Texts.{Piece, goes_on}
use Rattle.names.specs.Tokens.{gap, each}

-- gaps, a token of one byte or more without a gap in it, which goes on as long as it can, and so on; the text's first byte counts as at
pub data Parted : ℕ → List ℕ → List Piece → Type 0 where
  last : {at : ℕ} {text : List ℕ} → each gap text ≡ true → Parted at text []
  next : {at : ℕ} {text : List ℕ} {ps : List Piece} (gaps token rest : List ℕ) → text ≡ gaps ++ (token ++ rest) → each gap gaps ≡ true → 0 < length token → each (λ b. not (gap b)) token ≡ true → goes_on rest ≡ false → Parted (at + length gaps + length token) rest ps → Parted at text (record { byte = at + length gaps; bytes = token } ∷ ps)
