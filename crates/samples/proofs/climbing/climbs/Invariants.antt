-- The entry is where k climbs lead, and none of fewer led to the top. Assumes nothing.
use Rattle.std.proofs.Common.{◌≡◌, ℕ, ◌<◌, get_or}
use Rattle.samples.specs.Climbing.{word_above}
use Rattle.samples.proofs.climbing.climbs.Given as goal

abbrev pub invariant-loop-k : goal.invariant-loop-k
invariant-loop-k l = (l.at ≡ word_above l.parents l.v l.k) × ((j : ℕ) → j < l.k → get_or l.parents (word_above l.parents l.v j) 0 ≡ 4294967295 → ⊥)
