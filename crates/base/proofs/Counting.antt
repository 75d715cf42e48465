-- How many of a list pass a test: by their places, of a mapped list, of a joined one; none that fails. Assumes nothing.
use mathlib.Core.Path.{◌≡◌, refl, sym, ap, ◌∙◌}
use mathlib.Core.List.{List, [], ◌∷◌, map}
use mathlib.Core.Bool.{Bool, true, false, not, cond}
use Prim.Native.Nat.{ℕ, zero, suc, ◌+◌, ◌≤◌, ◌<◌}
use native.Mathlib.Omega.{arith}
use native.Mathlib.Numerals.{add-one}
use native.Mathlib.Decide.{ℕ_discrete}
use lib.ListN.{length, get_or}
use Rattle.base.specs.Lists.{keep, every}
use Rattle.base.proofs.Counts.{one, sum}
use Rattle.base.proofs.Filters.{every-both}

-- how many of a list pass a test
abbrev pub count {ℓ} : {A : Type ℓ} → (A → Bool) → List A → ℕ
count test l = length (keep test l)

pub count-cons {ℓ} : {A : Type ℓ} (test : A → Bool) (x : A) (l : List A) → count test (x ∷ l) ≡ one (test x) + count test l
unfolding keep
count-cons test x l = go (test x)
  where
    go : (b : Bool) → length (cond b (x ∷ keep test l) (keep test l)) ≡ one b + length (keep test l)
    go true = omega arith
    go false = omega arith

pub count-nil {ℓ} : {A : Type ℓ} (test : A → Bool) → count test [] ≡ 0
unfolding keep
count-nil test = refl

pub count_map {ℓ κ} : {A : Type ℓ} {B : Type κ} (test : B → Bool) (f : A → B) (l : List A) → count test (map f l) ≡ count (λ x. test (f x)) l
count_map test f [] = count-nil test ∙ sym (count-nil (λ x. test (f x)))
count_map test f (x ∷ l) = omega (arith, count_map test f l, count-cons test (f x) (map f l), count-cons (λ y. test (f y)) x l)

-- all are counted by the test that all pass, and every one passes just where none fails
pub count-all {ℓ} : {A : Type ℓ} (l : List A) → count (λ x. true) l ≡ length l
count-all [] = count-nil (λ x. true)
count-all (x ∷ l) = omega (arith, count-cons (λ y. true) x l, count-all l)

module _ {ℓ} {A : Type ℓ} (test : A → Bool) where
  pub none-fails : (l : List A) → every test l ≡ true → count (λ x. not (test x)) l ≡ 0
  none-fails [] e = count-nil (λ x. not (test x))
  none-fails (x ∷ l) e = let (q, rest) = every-both test x l e in omega (arith, count-cons (λ y. not (test y)) x l, ap (λ t. one (not t)) q, none-fails l rest)

  pub fails-none : (l : List A) → count (λ x. not (test x)) l ≡ 0 → every test l ≡ true
  unfolding every
  fails-none [] e = refl
  fails-none (x ∷ l) e = go (test x) refl (fails-none l)
    where
      go : (t : Bool) → test x ≡ t → (count (λ y. not (test y)) l ≡ 0 → every test l ≡ true) → cond t (every test l) false ≡ true
      go true q ih = ih (omega (arith, count-cons (λ y. not (test y)) x l))
      go false q ih = absurd (omega (arith, count-cons (λ y. not (test y)) x l, ap (λ t. one (not t)) q))

-- sums from the front, one more, and with nothing more
sum-front : (n : ℕ) (f : ℕ → ℕ) → sum (suc n) f ≡ f 0 + sum n (λ i. f (suc i))
unfolding sum
sum-front zero f = omega arith
sum-front (suc n) f = omega (arith, sum-front n f)

pub sum_more : (n : ℕ) (f : ℕ → ℕ) → sum (n + 1) f ≡ sum n f + f n
unfolding sum
sum_more n f = rw add-one

pub sum-none : (n : ℕ) (f : ℕ → ℕ) → ((i : ℕ) → i < n → f i ≡ 0) → sum n f ≡ 0
unfolding sum
sum-none zero f h = refl
sum-none (suc n) f h = omega (arith, sum-none n f (λ i k. h i (omega arith)), h n (omega arith))

pub sum-rest : (m j : ℕ) (f : ℕ → ℕ) → j ≤ m → ((k : ℕ) → j ≤ k → k < m → f k ≡ 0) → sum m f ≡ sum j f
unfolding sum
sum-rest zero j f h z = ap (λ n. sum n f) (let e : 0 ≡ j = omega arith in e)
sum-rest (suc m) j f h z = go (ℕ_discrete j (suc m)) (λ b. sum-rest m j f b (λ k a c. z k a (omega arith)))
  where
    go : Dec (j ≡ suc m) → (j ≤ m → sum m f ≡ sum j f) → sum m f + f m ≡ sum j f
    go (yes e) ih = ap (λ n. sum n f) (sym e)
    go (no e) ih = omega (arith, ih (omega arith), z m (omega arith) (omega arith))

-- a sum has at least each of its parts
pub sum-part : (m j : ℕ) (f : ℕ → ℕ) → j ≤ m → sum j f ≤ sum m f
unfolding sum
sum-part zero j f h = let e : j ≡ 0 = omega arith in rw e (omega arith)
sum-part (suc m) j f h = go (ℕ_discrete j (suc m)) (λ b. sum-part m j f b)
  where
    go : Dec (j ≡ suc m) → (j ≤ m → sum j f ≤ sum m f) → sum j f ≤ sum m f + f m
    go (yes e) ih = omega (arith, ap (λ n. sum n f) e)
    go (no e) ih = omega (arith, ih (omega arith))

-- the count is the sum over the places
pub count-sum : (test : ℕ → Bool) (l : List ℕ) → count test l ≡ sum (length l) (λ i. one (test (get_or l i 0)))
unfolding sum
count-sum test [] = count-nil test
count-sum test (x ∷ l) = omega (arith, count-cons test x l, count-sum test l, sum-front (length l) (λ i. one (test (get_or (x ∷ l) i 0))))

-- two sums of the same parts, and a sum in two
pub sum_same : (n : ℕ) (f g : ℕ → ℕ) → ((i : ℕ) → i < n → f i ≡ g i) → sum n f ≡ sum n g
unfolding sum
sum_same zero f g h = refl
sum_same (suc n) f g h = omega (arith, sum_same n f g (λ i k. h i (omega arith)), h n (omega arith))

pub sum-split : (a n : ℕ) (f : ℕ → ℕ) → sum (a + n) f ≡ sum a f + sum n (λ i. f (a + i))
unfolding sum
sum-split a zero f = let z : a + 0 ≡ a = omega arith in rw z (omega arith)
sum-split a (suc n) f = let z : a + suc n ≡ suc (a + n) = omega arith in rw z (omega (arith, sum-split a n f))
