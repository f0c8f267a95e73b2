-- What is kept of a text's tokens and of lines.
use Rattle.std.specs.Prelude.{ℕ, List}
use Rattle.names.specs.Lines.{LineLaws}
use Rattle.names.specs.Parted.{Parted}
use Rattle.names.specs.Texts.{pieces}

pub record TextLaws (text : List ℕ) : Type 0 where
  -- the tokens are the longest runs of bytes without a gap
  pub parted : Parted 0 text (pieces 0 text)
  -- a line of words is a text that tells these words
  pub lines : LineLaws
