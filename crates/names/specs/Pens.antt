-- A pen over a caller's buffer. Assumes nothing.
use Rattle.std.specs.Prelude.{◌≡◌, ℕ, ◌+◌, ◌≤◌, List, length}
use Rattle.names.specs.declared.pen.Pen.{Pen}
use Rattle.names.specs.Buffers.{laid}

-- the bytes have room behind the pen
pub record HasRoom (p : Pen) (bs : List ℕ) : Type 0 where
  pub fits : p.at + length bs ≤ length p.out.now

-- the pen laid the bytes where it stood, in the same buffer, and stands behind them
pub record Lays (old new : Pen) (bs : List ℕ) : Type 0 where
  pub same : new.out.ghost_name ≡ old.out.ghost_name
  pub place : new.at ≡ old.at + length bs
  pub after : new.out.now ≡ laid old.out.now old.at bs
