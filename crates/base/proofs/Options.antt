-- Laws of a value that there may be. Assumes nothing.
use mathlib.Core.Path.{◌≡◌, ◌∙◌, sym, ap}
use Rattle.std.specs.Prelude.{Option}
use Rattle.std.proofs.Math.Option as math
use Rattle.base.specs.Options.{option_of}

-- where an answer is p, the definition gives what p says
pub option-told : {A : Type 0} {o : math.Option A} {r p : Option A} → option_of r ≡ o → r ≡ p → o ≡ option_of p
option-told q t = sym q ∙ ap option_of t
