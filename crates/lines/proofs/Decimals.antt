-- Numbers in decimal: their last digit, and how many digits they have. Assumes nothing.
use mathlib.Core.Path.{◌≡◌, sym, ap, ◌∙◌}
use mathlib.Core.List.{[], ◌∷◌, ◌++◌}
use Prim.Native.Nat.{ℕ, zero, suc, ◌+◌, ◌/◌, ◌%◌, ◌^◌, ◌≤◌, ◌<◌}
use native.Mathlib.Omega.{arith}
use native.Mathlib.Decide.{dec_lt}
use lib.ListN.{length, length-append}
use borrow.Author.Tests.{lt-ltb, le-ltb}
use Rattle.std.specs.Fmt.{decimal as printed}
use Rattle.std.proofs.lemmas.Fmt.{decimal_by_steps}
use Rattle.lines.specs.Text.{digits, decimal}

module _ (m x : ℕ) where
  digits-one : x < 10 → digits (suc m) x ≡ (48 + x) ∷ []
  unfolding digits
  digits-one h = rw (lt-ltb x 10 h)

  digits_more : 10 ≤ x → digits (suc m) x ≡ digits m (x / 10) ++ ((48 + x % 10) ∷ [])
  unfolding digits
  digits_more h = rw (le-ltb x 10 h)

-- more digits than a number has change nothing
digits-enough : (m x : ℕ) → x < 10 ^ suc m → digits (suc (suc m)) x ≡ digits (suc m) x
digits-enough zero x h = digits-one 1 x (omega arith) ∙ sym (digits-one 0 x (omega arith))
digits-enough (suc m) x h = go (dec_lt x 10) (digits-enough m (x / 10))
  where
    go : Dec (x < 10) → (x / 10 < 10 ^ suc m → digits (suc (suc m)) (x / 10) ≡ digits (suc m) (x / 10)) → digits (suc (suc (suc m))) x ≡ digits (suc (suc m)) x
    go (yes b) ih = digits-one (suc (suc m)) x b ∙ sym (digits-one (suc m) x b)
    go (no b) ih =
        let low : 10 ≤ x = omega arith in
        digits_more (suc (suc m)) x low ∙ ap (λ l. l ++ ((48 + x % 10) ∷ [])) (ih (omega arith)) ∙ sym (digits_more (suc m) x low)

pub decimal-one : (x : ℕ) → x < 10 → decimal x ≡ (48 + x) ∷ []
decimal-one x h = digits-one 19 x h

pub decimal-more : (x : ℕ) → x < 2 ^ 64 → 10 ≤ x → decimal x ≡ decimal (x / 10) ++ ((48 + x % 10) ∷ [])
decimal-more x h low = digits_more 19 x low ∙ ap (λ l. l ++ ((48 + x % 10) ∷ [])) (sym (digits-enough 18 (x / 10) (omega arith)))

-- a number below a power of ten has at most as many digits
digits-below : (m k x : ℕ) → x < 10 ^ suc k → length (digits m x) ≤ suc k
unfolding digits
digits-below zero k x h = omega arith
digits-below (suc m) zero x h = omega (arith, ap length (digits-one m x (omega arith)))
digits-below (suc m) (suc k) x h = go (dec_lt x 10) (digits-below m k (x / 10))
  where
    go : Dec (x < 10) → (x / 10 < 10 ^ suc k → length (digits m (x / 10)) ≤ suc k) → length (digits (suc m) x) ≤ suc (suc k)
    go (yes b) ih = omega (arith, ap length (digits-one m x b))
    go (no b) ih = omega (arith, ap length (digits_more m x (omega arith)), length-append (digits m (x / 10)) ((48 + x % 10) ∷ []), ih (omega arith))

pub decimal_long : (x : ℕ) → x < 2 ^ 64 → length (decimal x) ≤ 20
decimal_long x h = digits-below 20 19 x (omega arith)

pub decimal_short : (x : ℕ) → x < 2 ^ 32 → length (decimal x) ≤ 10
decimal_short x h = digits-below 20 9 x (omega arith)

-- what the library prints
pub decimal_printed : (x : ℕ) → x < 2 ^ 64 → printed x ≡ decimal x
decimal_printed x h = decimal_by_steps (λ n ds. n < 2 ^ 64 → ds ≡ decimal n) (λ n b k. sym (decimal-one n b)) (λ n ds low e k. ap (λ l. l ++ ((48 + n % 10) ∷ [])) (e (omega arith)) ∙ sym (decimal-more n k low)) x h h
