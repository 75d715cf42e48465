-- The exponent is below the power and one less than the next, and the power is 1 or at most x. Assumes nothing.
use Rattle.std.proofs.Common.{◌+◌, ◌-◌, ◌<◌, ◌≤◌, ◌≡◌}
use Rattle.plain_steps.proofs.power.largest.Given as goal

abbrev pub invariant-loop-exponent : goal.invariant-loop-exponent
invariant-loop-exponent l = (l.power.exponent + 1 ≡ l.exponent) × (l.power.exponent < l.power.value) × (l.power.value ≤ l.x + (1 - l.x))
