-- The largest power of two not above a number. Assumes nothing.
use Rattle.std.specs.Prelude.{◌&&◌, ℕ, suc, ◌^◌, leb, ltb}
use Rattle.std.proofs.Math.Option.{Option}
use Rattle.base.specs.Lists.{first, below}

-- the exponent e of the largest power of two not above a 32-bit number x: 2^e ≤ x < 2^(e+1). There is none for 0
unfoldable pub exponent : ℕ → Option ℕ
exponent x = first (λ e. leb (2 ^ e) x && ltb x (2 ^ suc e)) (below 32 (λ e. e))
