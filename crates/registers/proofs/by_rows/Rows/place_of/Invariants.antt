use Rattle.std.proofs.Common.{◌≡◌, ℕ, ◌-◌, ◌<◌, ◌≤◌, false, length}
use Rattle.registers.specs.Pairs.{at, same}
use Rattle.registers.proofs.by_rows.Rows.place_of.Given as goal

-- no place before i has the pair
abbrev pub invariant-loop-i : goal.invariant-loop-i
invariant-loop-i l =
    record {
      within : l.i ≤ length l.pairs;
      passed : (k : ℕ) → k < l.i → same (at l.pairs k) l.pair ≡ false;
    }

abbrev pub decreases-loop-i : goal.decreases-loop-i
decreases-loop-i l = length l.pairs - l.i
