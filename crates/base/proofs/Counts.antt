-- How often a number stands in a list, and sums of such counts: a list of numbers below n has as many places as its counts add up to.
-- Assumes nothing.
use mathlib.Core.Path.{◌≡◌, refl, sym, ap}
use mathlib.Core.List.{List, [], ◌∷◌, ◌++◌}
use mathlib.Core.Bool.{Bool, true, false, cond}
use Prim.Native.Nat.{ℕ, zero, suc, ◌+◌, ◌≤◌, ◌<◌}
use native.Mathlib.Omega.{arith}
use native.Mathlib.Nat.{not-suc-le-zero}
use native.Mathlib.Decide.{ℕ_discrete, dec_lt}
use lib.ListN.{length, get_or}
use lib.Dec.{eqb}
use borrow.Author.Tests.{eq-eqb, ne_eqb}
use Rattle.base.specs.Lists.{places}

abbrev pub one : Bool → ℕ
one true = 1
one false = 0

-- how often x stands in a list
unfoldable pub times : ℕ → List ℕ → ℕ
times x [] = 0
times x (y ∷ l) = one (eqb x y) + times x l

pub times-append : (x : ℕ) (a b : List ℕ) → times x (a ++ b) ≡ times x a + times x b
unfolding times
times-append x [] b = omega arith
times-append x (y ∷ a) b = omega (arith, times-append x a b)

-- how often x is among the places of v in a list
places-before : (x : ℕ) (qs : List ℕ) (i v : ℕ) → x < i → times x (places qs i v) ≡ 0
unfolding times places
places-before x [] i v h = refl
places-before x (p ∷ qs) i v h = go (eqb p v) (places-before x qs (suc i) v (omega arith))
  where
    go : (b : Bool) → times x (places qs (suc i) v) ≡ 0 → times x (cond b (i ∷ places qs (suc i) v) (places qs (suc i) v)) ≡ 0
    go true e = rw (ne_eqb x i (λ q. omega arith)) (omega arith)
    go false e = e

pub places-past : (x : ℕ) (qs : List ℕ) (i v : ℕ) → i + length qs ≤ x → times x (places qs i v) ≡ 0
unfolding times places
places-past x [] i v h = refl
places-past x (p ∷ qs) i v h = go (eqb p v) (places-past x qs (suc i) v (omega arith))
  where
    go : (b : Bool) → times x (places qs (suc i) v) ≡ 0 → times x (cond b (i ∷ places qs (suc i) v) (places qs (suc i) v)) ≡ 0
    go true e = rw (ne_eqb x i (λ q. omega arith)) (omega arith)
    go false e = e

pub places-at : (qs : List ℕ) (i j x v : ℕ) → j < length qs → i + j ≡ x → times x (places qs i v) ≡ one (eqb (get_or qs j 0) v)
unfolding times places
places-at [] i j x v h e = absurd (not-suc-le-zero h)
places-at (p ∷ qs) i zero x v h e = go (eqb p v) (places-before x qs (suc i) v (omega arith))
  where
    go : (b : Bool) → times x (places qs (suc i) v) ≡ 0 → times x (cond b (i ∷ places qs (suc i) v) (places qs (suc i) v)) ≡ one b
    go true z = rw (eq-eqb x i (omega arith)) (omega arith)
    go false z = z
places-at (p ∷ qs) i (suc j) x v h e = go (eqb p v) (places-at qs (suc i) j x v (omega arith) (omega arith))
  where
    go : (b : Bool) → times x (places qs (suc i) v) ≡ one (eqb (get_or qs j 0) v) → times x (cond b (i ∷ places qs (suc i) v) (places qs (suc i) v)) ≡ one (eqb (get_or qs j 0) v)
    go true z = rw (ne_eqb x i (λ q. omega arith)) (omega arith)
    go false z = z

-- a list of numbers below n has as many elements as its counts add up to
unfoldable pub sum : ℕ → (ℕ → ℕ) → ℕ
sum zero f = 0
sum (suc n) f = sum n f + f n

sum-add : (n : ℕ) (f g : ℕ → ℕ) → sum n (λ x. f x + g x) ≡ sum n f + sum n g
unfolding sum
sum-add zero f g = refl
sum-add (suc n) f g = omega (arith, sum-add n f g)

sum-zero : (n y : ℕ) → n ≤ y → sum n (λ x. one (eqb x y)) ≡ 0
unfolding sum
sum-zero zero y h = refl
sum-zero (suc n) y h = omega (arith, sum-zero n y (omega arith), ap one (ne_eqb n y (λ e. omega arith)))

sum-hit : (n y : ℕ) → y < n → sum n (λ x. one (eqb x y)) ≡ 1
unfolding sum
sum-hit zero y h = absurd (not-suc-le-zero h)
sum-hit (suc n) y h = go (λ k. sum-hit n y k) (ℕ_discrete n y)
  where
    go : (y < n → sum n (λ x. one (eqb x y)) ≡ 1) → Dec (n ≡ y) → sum n (λ x. one (eqb x y)) + one (eqb n y) ≡ 1
    go ih (yes e) = omega (arith, sum-zero n y (omega arith), ap one (eq-eqb n y e))
    go ih (no e) = omega (arith, ih (omega arith), ap one (ne_eqb n y e))

sum-none : (n : ℕ) → sum n (λ x. 0) ≡ 0
unfolding sum
sum-none zero = refl
sum-none (suc n) = omega (arith, sum-none n)

pub length-sum : (n : ℕ) (l : List ℕ) → ((x : ℕ) → n ≤ x → times x l ≡ 0) → length l ≡ sum n (λ x. times x l)
unfolding times
length-sum n [] h = sym (sum-none n)
length-sum n (y ∷ l) h =
    omega (arith, length-sum n l (λ x k. omega (arith, h x k)), sum-add n (λ x. one (eqb x y)) (λ x. times x l), sum-hit n y (go (dec_lt y n)))
  where
    go : Dec (y < n) → y < n
    go (yes k) = k
    go (no k) = absurd (omega (arith, h y (omega arith), ap one (eq-eqb y y refl)))

pub sum-le : (n : ℕ) (b : ℕ → Bool) → sum n (λ x. one (b x)) ≤ n
unfolding sum
sum-le zero b = omega arith
sum-le (suc n) b = omega (arith, sum-le n b, small (b n))
  where
    small : (t : Bool) → one t ≤ 1
    small true = omega arith
    small false = omega arith

pub one_same : (a b : Bool) → one a ≡ one b → a ≡ b
one_same true true e = refl
one_same true false e = absurd (omega arith)
one_same false true e = absurd (omega arith)
one_same false false e = refl

-- a sum of n ones and zeros is n just where all are ones
pub all_ones : (n : ℕ) (b : ℕ → Bool) → sum n (λ x. one (b x)) ≡ n → (x : ℕ) → x < n → b x ≡ true
unfolding sum
all_ones zero b e x h = absurd (not-suc-le-zero h)
all_ones (suc n) b e x h = go (b n) refl (λ k. all_ones n b k x) (ℕ_discrete x n)
  where
    go : (t : Bool) → b n ≡ t → (sum n (λ y. one (b y)) ≡ n → x < n → b x ≡ true) → Dec (x ≡ n) → b x ≡ true
    go false t ih d = absurd (omega (arith, ap one t, sum-le n b))
    go true t ih (yes d) = rw d t
    go true t ih (no d) = ih (omega (arith, ap one t)) (omega arith)

pub ones-all : (n : ℕ) (b : ℕ → Bool) → ((x : ℕ) → x < n → b x ≡ true) → sum n (λ x. one (b x)) ≡ n
unfolding sum
ones-all zero b h = refl
ones-all (suc n) b h = omega (arith, ones-all n b (λ x k. h x (omega arith)), ap one (h n (omega arith)))
