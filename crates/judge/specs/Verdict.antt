-- What the list alone answers. Assumes nothing.
use Rattle.std.specs.Prelude.{List, ℕ, length}
use Rattle.std.proofs.Math.Option.{Option-elim}
use Rattle.base.specs.Numbers.{Outcome, accepted}
use Rattle.tree.specs.Faults.{list_fault}

-- 4 to 6, or acceptance, which names n
unfoldable pub verdict : List ℕ → Outcome
verdict ps = Option-elim (list_fault ps) (accepted (length ps)) (λ o. o)
