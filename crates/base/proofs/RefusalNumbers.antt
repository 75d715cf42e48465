-- Laws of the numbers of refusals. Assumes nothing.
use mathlib.Core.Path.{◌≡◌, refl}
use Prim.Native.Nat.{◌≤◌}
use native.Mathlib.Omega.{arith}
use Rattle.base.specs.Refusals.{refused, amount_of}
use Rattle.base.specs.declared.refusals.Refusal.{Refusal}
use Rattle.base.specs.declared.refusals.Refusal.TheVariants.{Count, ShortTable, ShortSpace, Stray, Tops, Loop, Unknown, TooDeep, Broken, NotAbove, BadRate, BadSum, BadLine, Gap, Overlap}

-- none has number 0
pub refused-numbered : (r : Refusal) → (refused r).number ≡ 0 → ⊥
refused-numbered Count e = omega (arith, e)
refused-numbered ShortTable e = omega (arith, e)
refused-numbered ShortSpace e = omega (arith, e)
refused-numbered (Stray v) e = omega (arith, e)
refused-numbered (Tops v) e = omega (arith, e)
refused-numbered (Loop v) e = omega (arith, e)
refused-numbered (Unknown v) e = omega (arith, e)
refused-numbered (TooDeep v) e = omega (arith, e)
refused-numbered Broken e = omega (arith, e)
refused-numbered (NotAbove u) e = omega (arith, e)
refused-numbered BadRate e = omega (arith, e)
refused-numbered BadSum e = omega (arith, e)
refused-numbered (BadLine line) e = omega (arith, e)
refused-numbered (Gap class amount) e = omega (arith, e)
refused-numbered (Overlap class amount) e = omega (arith, e)

-- up to 13 none names an amount
pub amount-none : (r : Refusal) → (refused r).number ≤ 13 → amount_of r ≡ 0
amount-none Count h = refl
amount-none ShortTable h = refl
amount-none ShortSpace h = refl
amount-none (Stray v) h = refl
amount-none (Tops v) h = refl
amount-none (Loop v) h = refl
amount-none (Unknown v) h = refl
amount-none (TooDeep v) h = refl
amount-none Broken h = refl
amount-none (NotAbove u) h = refl
amount-none BadRate h = refl
amount-none BadSum h = refl
amount-none (BadLine line) h = refl
amount-none (Gap class amount) h = absurd (omega (arith, h))
amount-none (Overlap class amount) h = absurd (omega (arith, h))
