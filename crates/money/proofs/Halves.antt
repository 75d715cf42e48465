-- Rounding to the nearest cent, on sizes: by the laws of the half rule alone. Assumes nothing.
use mathlib.Core.Path.{◌≡◌, refl}
use mathlib.Core.Bool.{Bool, true, false, cond}
use Prim.Native.Nat.{ℕ, ◌+◌, ◌-◌, ◌*◌, ◌/◌, ◌%◌, ◌≤◌, ◌<◌}
use native.Mathlib.Omega.{arith}
use native.Mathlib.Nat.{mul-le-mul}
use native.Mathlib.Decide.{dec_le}
use lib.Dec.{ltb}
use borrow.Author.Tests.{ltb-true, ltb-false}
use Rattle.base.specs.Amounts.{cent_parts, most_rate, most_sum}
use Rattle.money.specs.Premium.{half_rule, nearest}

-- ---- the half rule: it takes one of the two cents beside a half, keeps the order, and of the two takes the farther from zero
pub half-low : (q : ℕ) → q ≤ half_rule q
unfolding half_rule
half-low q = omega arith

pub half_high : (q : ℕ) → half_rule q ≤ q + 1
unfolding half_rule
half_high q = omega arith

pub half-rises : (p q : ℕ) → p ≤ q → half_rule p ≤ half_rule q
unfolding half_rule
half-rises p q h = omega arith

half-side : (q : ℕ) → half_rule q ≡ q + 1
unfolding half_rule
half-side q = refl

-- ---- the three ways in which x is rounded
pub data Rounds (x : ℕ) : ℕ → Type 0 where
  down : 2 * (x % cent_parts) < cent_parts → Rounds x (x / cent_parts)
  up : cent_parts < 2 * (x % cent_parts) → Rounds x (x / cent_parts + 1)
  tie : 2 * (x % cent_parts) ≡ cent_parts → Rounds x (half_rule (x / cent_parts))

pub rounds : (x : ℕ) → Rounds x (nearest x)
unfolding nearest
rounds x = by (ltb (2 * (x % cent_parts)) cent_parts) (ltb cent_parts (2 * (x % cent_parts))) refl refl
  where
    by : (a b : Bool) → ltb (2 * (x % cent_parts)) cent_parts ≡ a → ltb cent_parts (2 * (x % cent_parts)) ≡ b → Rounds x (cond a (x / cent_parts) (cond b (x / cent_parts + 1) (half_rule (x / cent_parts))))
    by true b e f = down (ltb-true _ _ e)
    by false true e f = up (ltb-true _ _ f)
    by false false e f = tie (omega (arith, ltb-false (2 * (x % cent_parts)) cent_parts e, ltb-false cent_parts (2 * (x % cent_parts)) f))

-- how far x is from y
abbrev pub apart : ℕ → ℕ → ℕ
apart x y = (x - y) + (y - x)

-- to the nearest, and at a half on the half rule's side
near : {x y : ℕ} → Rounds x y → 2 * apart (cent_parts * y) x ≤ cent_parts
near (down h) = omega arith
near (up h) = omega arith
near {x} (tie h) = omega (arith, half-low (x / cent_parts), half_high (x / cent_parts))

pub nearest-near : (x : ℕ) → 2 * apart (cent_parts * nearest x) x ≤ cent_parts
nearest-near x = near (rounds x)

side : {x y : ℕ} → Rounds x y → 2 * apart (cent_parts * y) x ≡ cent_parts → x < cent_parts * y
side (down h) e = omega arith
side (up h) e = omega arith
side {x} (tie h) e = omega (arith, half-side (x / cent_parts))

pub nearest-side : (x : ℕ) → 2 * apart (cent_parts * nearest x) x ≡ cent_parts → x < cent_parts * nearest x
nearest-side x = side (rounds x)

-- no other number of cents is
only : {x y : ℕ} (c : ℕ) → 2 * apart (cent_parts * c) x ≤ cent_parts → (2 * apart (cent_parts * c) x ≡ cent_parts → x < cent_parts * c) → Rounds x y → c ≡ y
only c n s (down h) = omega arith
only c n s (up h) = omega arith
only {x} c n s (tie h) = by (dec_le c (x / cent_parts))
  where
    by : Dec (c ≤ x / cent_parts) → c ≡ half_rule (x / cent_parts)
    by (yes k) = let z : x < cent_parts * c = s (omega arith) in omega arith
    by (no k) = omega (arith, half-side (x / cent_parts))

pub nearest-only : (x c : ℕ) → 2 * apart (cent_parts * c) x ≤ cent_parts → (2 * apart (cent_parts * c) x ≡ cent_parts → x < cent_parts * c) → c ≡ nearest x
nearest-only x c n s = only c n s (rounds x)

-- more parts are no fewer cents
rising : {x y p q : ℕ} → x ≤ y → Rounds x p → Rounds y q → p ≤ q
rising h (down e) (down f) = omega arith
rising h (down e) (up f) = omega arith
rising {y = y} h (down e) (tie f) = omega (arith, half-low (y / cent_parts))
rising h (up e) (down f) = omega arith
rising h (up e) (up f) = omega arith
rising {y = y} h (up e) (tie f) = omega (arith, half-low (y / cent_parts))
rising {x = x} h (tie e) (down f) = omega (arith, half_high (x / cent_parts))
rising {x = x} h (tie e) (up f) = omega (arith, half_high (x / cent_parts))
rising {x = x} {y = y} h (tie e) (tie f) = half-rises (x / cent_parts) (y / cent_parts) (omega arith)

pub nearest-rises : (x y : ℕ) → x ≤ y → nearest x ≤ nearest y
nearest-rises x y h = rising h (rounds x) (rounds y)

-- none of nothing; and of a legal sum's size at a legal rate at most 200,000,000,000
pub nearest-none : nearest 0 ≡ 0
unfolding nearest
nearest-none = refl

pub parts-fit : (n r : ℕ) → n ≤ most_sum → r ≤ most_rate → n * r ≤ 2000000000000000
parts-fit n r h k = mul-le-mul h k

pub nearest-most : (n r : ℕ) → n ≤ most_sum → r ≤ most_rate → nearest (n * r) ≤ 200000000000
unfolding nearest
nearest-most n r h k = nearest-rises (n * r) 2000000000000000 (parts-fit n r h k)
