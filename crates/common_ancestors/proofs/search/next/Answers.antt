-- `search::next` meets its contract. Assumes nothing.
use native.Mathlib.Omega.{arith}
use Rattle.common_ancestors.proofs.search.next.Goals as goal

-- from the third try on the stride is past half way
pub returns-then-stride-half : goal.returns-then-stride-half
returns-then-stride-half c = (omega arith, omega arith, λ h. absurd (omega (arith, c.stride-stride.ensures h)))
