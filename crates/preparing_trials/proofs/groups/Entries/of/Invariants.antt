-- There are 512 entries at most. Assumes nothing.
use Rattle.std.proofs.Common.{◌≤◌}
use Rattle.preparing_trials.proofs.groups.Entries.of.Given as goal

abbrev pub invariant-loop-i : goal.invariant-loop-i
invariant-loop-i g l = l.count ≤ 512
