-- "The premium in cents is sum times rate divided by 10,000, to the nearest cent, a half going away from zero" (2026-01). Assumes nothing.
use Rattle.std.specs.Prelude.{Bool, true, false, cond, ℕ, ◌+◌, ◌*◌, ◌/◌, ◌%◌, ltb, ℤ, pos, negsuc, neg_ℤ, nat_abs}
use Rattle.base.specs.Amounts.{cent_parts}

-- the half rule, "a half going away from zero": the cents where q whole cents and a half are left
unfoldable pub half_rule : ℕ → ℕ
half_rule q = q + 1

-- x parts of a cent in cents: to the nearest, a half by the half rule
unfoldable pub nearest : ℕ → ℕ
nearest x =
    cond (ltb (2 * (x % cent_parts)) cent_parts) (x / cent_parts)
    (cond (ltb cent_parts (2 * (x % cent_parts))) (x / cent_parts + 1)
    (half_rule (x / cent_parts)))

-- a whole number's sign, and a size with a sign: `true` is below zero
abbrev pub negative : ℤ → Bool
negative (pos n) = false
negative (negsuc n) = true

abbrev pub with_sign : Bool → ℕ → ℤ
with_sign false n = pos n
with_sign true n = neg_ℤ (pos n)

-- the premium in cents: of the sum's size times the rate the nearest cents, with the sum's sign
unfoldable pub premium : ℤ → ℕ → ℤ
premium sum rate = with_sign (negative sum) (nearest (nat_abs sum * rate))
