-- `powers::exponent` meets its contract, by the law of the leading zeros. Assumes nothing.
use mathlib.Core.Path.{◌≡◌, sym}
use mathlib.Core.Option.{some}
use Prim.Native.Nat.{ℕ, ◌-◌, ◌^◌, ◌≤◌, ◌<◌}
use native.Mathlib.Omega.{arith}
use lib.Count.{count_leading_zeros, leading_top}
use Rattle.base.specs.Powers.{exponent}
use Rattle.base.proofs.Exponents.{exponent-iff, exponent-none}
use Rattle.base.proofs.powers.exponent.Goals as goal

by-zeros : (x : ℕ) → 0 < x → x < 2 ^ 32 → (count_leading_zeros 32 x ≤ 31) × (exponent x ≡ some (31 - count_leading_zeros 32 x))
by-zeros x p h =
    let (j, e, lo, hi) = leading_top 32 x p h in
    let k : 31 - count_leading_zeros 32 x ≡ j = omega arith in
    (omega arith, rw k ((exponent-iff x j h).1 (lo, hi)))

pub returns-then-x-eq0 : goal.returns-then-x-eq0
returns-then-x-eq0 c = record { answer = sym ((exponent-none c.args.x c.ranges.x.fits).1 (omega (arith, c.if-x-eq0.true))) }

pub overflow_sub-result : goal.overflow_sub-result
overflow_sub-result c = (by-zeros c.args.x (omega (arith, c.if-x-eq0.false)) c.ranges.x.fits).0

pub returns : goal.returns
returns c = record { answer = sym (by-zeros c.args.x (omega (arith, c.if-x-eq0.false)) c.ranges.x.fits).1 }
