-- `finding::below` meets its contract. Assumes nothing.
use mathlib.Core.Path.{refl}
use Prim.Native.Nat.{ℕ, ◌+◌, ◌*◌, ◌-◌, ◌/◌, ◌%◌, ◌≤◌}
use native.Mathlib.Omega.{arith}
use lib.ListN.{get_or}
use Rattle.sheets.proofs.finding.Halving.{bracket-turn, half-most}
use Rattle.sheets.proofs.finding.below.Goals as goal
use Rattle.sheets.proofs.finding.below.Goals.{At-loop-size}

abbrev bit : At-loop-size → ℕ
bit b = (9223372036854775807 + b.args.x - get_or b.args.keys.now (b.loop-size.low + b.loop-size.size / 2) 0 % 9223372036854775808) / 9223372036854775808

turn : (b : At-loop-size) → b.loop-size.size / 2 * bit b ≤ b.loop-size.size / 2
turn b = half-most (b.loop-size.size / 2) (bit b) (omega (arith, b.requires))

pub loop-size-preserved : goal.loop-size-preserved
loop-size-preserved c =
    let l = c.loop-size in (
      omega arith,
      omega (arith, turn (goal.at.loop-size-preserved c).At-loop-size),
      λ asc small. bracket-turn c.args.keys.now c.args.x asc l.low l.size (bit (goal.at.loop-size-preserved c).At-loop-size) small c.requires (omega arith) refl (l.invariant.2 asc small),
    )
