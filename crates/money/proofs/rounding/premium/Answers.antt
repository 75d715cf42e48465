-- `rounding::premium` meets its contract. Assumes nothing.
use native.Mathlib.Omega.{arith}
use lib.IntN.{nat_abs}
use Rattle.money.specs.Premium.{premium}
use Rattle.money.proofs.Halves.{parts-fit, nearest-most}
use Rattle.money.proofs.rounding.premium.Goals as goal

pub overflow_mul-size : goal.overflow_mul-size
overflow_mul-size c = rw c.size.ensures (omega (arith, parts-fit (nat_abs c.args.sum.0) c.args.rate c.requires.0 c.requires.1))

pub signed-requires : goal.signed-requires
signed-requires c =
    rw (c.nearest-cents.ensures, c.size.ensures)
    (omega (arith, nearest-most (nat_abs c.args.sum.0) c.args.rate c.requires.0 c.requires.1))

pub returns : goal.returns
unfolding premium
returns c = cc
