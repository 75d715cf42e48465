-- The entry is where i climbs lead. Assumes nothing.
use Rattle.std.proofs.Common.{◌≡◌}
use Rattle.samples.specs.Climbing.{word_above}
use Rattle.samples.proofs.climbing.above.Given as goal

abbrev pub invariant-loop-i : goal.invariant-loop-i
invariant-loop-i l = l.at ≡ word_above l.parents l.v l.i
