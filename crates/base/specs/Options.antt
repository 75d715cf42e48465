-- A value that there may be, of the code and of the definitions. Assumes nothing.
use Rattle.std.specs.Prelude.{Option, Some, None}
use Rattle.std.proofs.Math.Option as math

abbrev pub option_of : {A : Type 0} → Option A → math.Option A
option_of (Some x) = math.some x
option_of None = math.none
