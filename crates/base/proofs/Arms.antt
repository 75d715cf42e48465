-- What the last arm of a match on 0, .., n - 1 knows. Assumes nothing.
use mathlib.Core.Path.{◌≡◌}
use Prim.Native.Nat.{ℕ, zero, suc, ◌≤◌}
use native.Mathlib.Omega.{arith}

-- x is none of 0, .., n - 1
abbrev pub Differs : ℕ → ℕ → Type 0
Differs zero x = Unit
Differs (suc n) x = Differs n x × (x ≡ n → ⊥)

-- then x is n or more
pub past : (n x : ℕ) → Differs n x → n ≤ x
past zero x d = omega arith
past (suc n) x d = omega (arith, past n x d.0, d.1)
