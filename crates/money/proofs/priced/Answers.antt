-- `priced` meets its contract. Assumes nothing.
use mathlib.Core.Path.{sym, ap, ◌∙◌}
use Rattle.base.specs.Numbers.{accepted}
use Rattle.money.specs.Prices.{costing}
use Rattle.money.proofs.Prices.{priced-over, priced-outside, priced-within}
use Rattle.money.proofs.priced.Goals as goal

pub returns-then-over : goal.returns-then-over
returns-then-over c =
    let args = c.args in
    c.refused.ensures ∙ sym (priced-over args.class args.rate args.sum.0 c.if-over.true)

pub returns-then-outside : goal.returns-then-outside
returns-then-outside c =
    let args = c.args in
    let size = c.size-outside in
    c.refused-then-outside.ensures
    ∙ sym (priced-outside args.class args.rate args.sum.0 c.if-over.false (rw size.ensures at c.if-outside.true))

-- the rate and the sum are in their ranges
pub premium-cents-requires : goal.premium-cents-requires
premium-cents-requires c = (rw c.size-outside.ensures at c.if-outside.false, c.if-over.false)

pub returns : goal.returns
returns c =
    let args = c.args in
    let size = c.size-outside in
    ap (costing (accepted args.class)) c.premium-cents.ensures
    ∙ sym (priced-within args.class args.rate args.sum.0 c.if-over.false (rw size.ensures at c.if-outside.false))
