use Rattle.std.proofs.Common.{length, ◌≤◌}
use Rattle.registers.specs.Asking.{fitting}
use Rattle.registers.proofs.Asked.{asked_law}
use Rattle.registers.proofs.law.number_all.Goals as goal

pub returns-clause-law : goal.returns-clause-law
returns-clause-law g c =
    let asked = fitting c.args.asked.now c.args.given.now in
    let end : length asked ≤ c.loop-place.place = rw (← c.fitting-fitting.ensures) c.loop-place-test.false in
    asked_law {asked = asked} c.loop-place.invariant end (g.R.Register.sound c.loop-place.register)
