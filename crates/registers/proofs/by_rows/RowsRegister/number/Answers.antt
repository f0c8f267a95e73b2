use Rattle.registers.specs.Rowed.{pairs_of}
use Rattle.registers.proofs.Listed.{apart_new}
use Rattle.registers.proofs.by_rows.RowsRegister.number.Goals as goal

pub invariant_of-self : goal.invariant_of-self
invariant_of-self c =
    let s = c.args.self.now in
    record { apart = rw c.push.ensures.after (apart_new (pairs_of s) c.args.pair s.apart c.in_default.ensures) }
