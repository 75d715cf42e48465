-- `link::link` meets its contract. The entries from `v` on are linked. Assumes nothing.
use Rattle.std.proofs.Common.{◌<◌, length, IfSome}
use Rattle.judge.specs.Regions.{Linked, chain}
use Rattle.judge.proofs.link.link.Given as goal

abbrev pub invariant-loop-v : goal.invariant-loop-v
invariant-loop-v l = record { linked : Linked l.parents l.v l.heads l.nexts (chain l.first); within : IfSome l.first (λ v. v.0 < length l.parents) }
