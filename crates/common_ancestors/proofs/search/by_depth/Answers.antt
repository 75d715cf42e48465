-- `search::by_depth` meets its contract. Assumes nothing.
use mathlib.Core.Logic.{inl, inr}
use mathlib.Core.Path.{refl}
use Rattle.common_ancestors.proofs.search.by_depth.Goals as goal

pub returns-then-dv-du : goal.returns-then-dv-du
returns-then-dv-du c = inr (c.if-dv-du.true, refl)

pub returns : goal.returns
returns c = inl (c.if-dv-du.false, refl)
