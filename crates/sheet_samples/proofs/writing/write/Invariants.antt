-- No lines have no bytes. Assumes nothing.
use Rattle.std.proofs.Common.{◌≡◌}
use Rattle.sheet_samples.proofs.writing.write.Given as goal

abbrev pub invariant-loop : goal.invariant-loop
invariant-loop l = l.m ≡ 0 → l.at ≡ 0
