-- What was met last is a number met. Assumes nothing.
use Rattle.std.proofs.Common.{◌≤◌}
use Rattle.plain_steps.proofs.local.local_ancestor.Given as goal

abbrev pub invariant-loop-step : goal.invariant-loop-step
invariant-loop-step l = (l.last ≤ l.met) × (l.met ≤ l.local)
