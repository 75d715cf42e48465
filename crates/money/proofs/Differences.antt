-- Products, differences and sizes of whole numbers. Assumes nothing.
use mathlib.Core.Path.{◌≡◌, refl, sym, ap, ◌∙◌}
use mathlib.Core.Bool.{Bool, true, false, cond}
use Prim.Native.Nat.{ℕ, zero, suc, ◌-◌, ◌*◌}
use native.Mathlib.Omega.{arith}
use lib.Dec.{ltb}
use lib.IntN.{ℤ, pos, negsuc, neg_ℤ, nat_abs, sub_ℕ, ◌-ℤ◌, ◌*ℤ◌, neg_ℤ-neg_ℤ, neg_ℤ-+ℤ, *ℤ-zero}
use borrow.Author.Tests.{ltb-true, ltb-false}
use Rattle.money.specs.Premium.{with_sign}
use Rattle.money.proofs.Halves.{apart}

pub size-neg : (z : ℤ) → nat_abs (neg_ℤ z) ≡ nat_abs z
size-neg (pos zero) = refl
size-neg (pos (suc n)) = refl
size-neg (negsuc n) = refl

pub size-sign : (b : Bool) (n : ℕ) → nat_abs (with_sign b n) ≡ n
size-sign false n = refl
size-sign true n = size-neg (pos n)

pub times-neg : (n : ℕ) (z : ℤ) → pos n *ℤ neg_ℤ z ≡ neg_ℤ (pos n *ℤ z)
times-neg n (pos zero) = rw (*ℤ-zero (pos n))
times-neg n (pos (suc m)) = refl
times-neg n (negsuc m) = sym (neg_ℤ-neg_ℤ (pos (n * suc m)))

-- the difference of two numbers by their sizes
sub-apart : (x y : ℕ) → nat_abs (sub_ℕ x y) ≡ apart x y
sub-apart x y = by (ltb x y) refl
  where
    by : (t : Bool) → ltb x y ≡ t → nat_abs (cond t (negsuc (y - suc x)) (pos (x - y))) ≡ apart x y
    by true e = omega (arith, ltb-true x y e)
    by false e = omega (arith, ltb-false x y e)

pub difference : (x y : ℕ) → nat_abs (pos x -ℤ pos y) ≡ apart x y
difference x zero = omega arith
difference x (suc y) = sub-apart x (suc y)

pub difference-neg : (x z : ℤ) → nat_abs (neg_ℤ x -ℤ neg_ℤ z) ≡ nat_abs (x -ℤ z)
difference-neg x z = ap nat_abs (sym (neg_ℤ-+ℤ x (neg_ℤ z))) ∙ size-neg (x -ℤ z)
