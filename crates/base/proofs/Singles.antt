-- A list of which one alone passes a test. Assumes nothing.
use mathlib.Core.Path.{◌≡◌, refl, sym, ap, ◌∙◌}
use mathlib.Core.List.{List, [], ◌∷◌}
use mathlib.Core.Bool.{Bool, true, false, cond}
use mathlib.Core.Option.{some, none-ne-some, some-injective}
use Prim.Native.Nat.{ℕ, zero, suc, ◌+◌, ◌≤◌, ◌<◌}
use native.Mathlib.Omega.{arith}
use native.Mathlib.Nat.{not-suc-le-zero, le_of_suc-le-suc}
use lib.ListN.{length, get_or}
use Rattle.base.specs.Lists.{first}
use Rattle.base.proofs.Lists.{clash}
use Rattle.base.proofs.Counts.{one, sum}
use Rattle.base.proofs.Counting.{count, count-cons, count-nil, sum-part, sum_more}

module _ {ℓ} {A : Type ℓ} (test : A → Bool) where
  pub first-yes : (x : A) (l : List A) → test x ≡ true → first test (x ∷ l) ≡ some x
  unfolding first
  first-yes x l e = rw e

  pub first-no : (x : A) (l : List A) → test x ≡ false → first test (x ∷ l) ≡ first test l
  unfolding first
  first-no x l e = rw e

  -- one that passes is counted
  pub count_at : (l : List A) (i : ℕ) (d : A) → i < length l → test (get_or l i d) ≡ true → 1 ≤ count test l
  count_at [] i d h e = absurd (not-suc-le-zero h)
  count_at (x ∷ l) zero d h e = omega (arith, count-cons test x l, ap one e)
  count_at (x ∷ l) (suc i) d h e = omega (arith, count-cons test x l, count_at l i d (le_of_suc-le-suc h) e)

  -- where one alone passes, it is the first
  pub first-at : (l : List A) (i : ℕ) (d : A) → count test l ≡ 1 → i < length l → test (get_or l i d) ≡ true → first test l ≡ some (get_or l i d)
  first-at [] i d o h e = absurd (not-suc-le-zero h)
  first-at (x ∷ l) zero d o h e = first-yes x l e
  first-at (x ∷ l) (suc i) d o h e = go (test x) refl (λ k. first-at l i d k (le_of_suc-le-suc h) e)
    where
      go : (b : Bool) → test x ≡ b → (count test l ≡ 1 → first test l ≡ some (get_or l i d)) → first test (x ∷ l) ≡ some (get_or l i d)
      go true t ih = absurd (omega (arith, count-cons test x l, ap one t, count_at l i d (le_of_suc-le-suc h) e))
      go false t ih = first-no x l t ∙ ih (omega (arith, count-cons test x l, ap one t))

  -- where some pass, there is a first, and it passes
  pub first_found : (l : List A) → 1 ≤ count test l → (x : A) × (first test l ≡ some x) × (test x ≡ true)
  first_found [] h = absurd (omega (arith, count-nil test))
  first_found (x ∷ l) h = go (test x) refl (first_found l)
    where
      go : (b : Bool) → test x ≡ b → (1 ≤ count test l → (y : A) × (first test l ≡ some y) × (test y ≡ true)) → (y : A) × (first test (x ∷ l) ≡ some y) × (test y ≡ true)
      go true t ih = (x, first-yes x l t, t)
      go false t ih =
          let (y, e, f) = ih (omega (arith, count-cons test x l, ap one t)) in
          (y, first-no x l t ∙ e, f)

-- what the first passes besides is counted
pub count-found {ℓ} : {A : Type ℓ} (also test : A → Bool) (l : List A) (x : A) → first test l ≡ some x → also x ≡ true → 1 ≤ count also l
unfolding first
count-found also test [] x e f = absurd (none-ne-some x e)
count-found {A = A} also test (y ∷ l) x e f = go (test y) e (λ q. count-found also test l x q f)
  where
    go : (b : Bool) → cond b (some y) (first test l) ≡ some x → (first test l ≡ some x → 1 ≤ count also l) → 1 ≤ count also (y ∷ l)
    go true q ih = omega (arith, count-cons also y l, ap one (ap also (some-injective y x q) ∙ f))
    go false q ih = omega (arith, count-cons also y l, ih q)

-- a test that asks more, where one alone passes the wider test: both find the same
module _ {ℓ} {A : Type ℓ} (wide narrow : A → Bool) (asks : (x : A) → narrow x ≡ true → wide x ≡ true) where
  pub count_less : (l : List A) → count narrow l ≤ count wide l
  count_less [] = omega (arith, count-nil narrow)
  count_less (x ∷ l) = go (narrow x) refl (count_less l)
    where
      go : (b : Bool) → narrow x ≡ b → count narrow l ≤ count wide l → count narrow (x ∷ l) ≤ count wide (x ∷ l)
      go true t ih = omega (arith, count-cons narrow x l, count-cons wide x l, ap one t, ap one (asks x t))
      go false t ih = omega (arith, count-cons narrow x l, count-cons wide x l, ap one t)

  pub first-narrow : (l : List A) → count wide l ≡ 1 → 1 ≤ count narrow l → first wide l ≡ first narrow l
  first-narrow [] o h = absurd (omega (arith, count-nil narrow))
  first-narrow (x ∷ l) o h = go (wide x) refl (narrow x) refl (first-narrow l)
    where
      go : (b : Bool) → wide x ≡ b → (d : Bool) → narrow x ≡ d → (count wide l ≡ 1 → 1 ≤ count narrow l → first wide l ≡ first narrow l) → first wide (x ∷ l) ≡ first narrow (x ∷ l)
      go true t true u ih = first-yes wide x l t ∙ sym (first-yes narrow x l u)
      go true t false u ih = absurd (omega (arith, count-cons narrow x l, count-cons wide x l, ap one t, ap one u, count_less l))
      go false t true u ih = absurd (clash (sym t ∙ asks x u))
      go false t false u ih =
          first-no wide x l t ∙ ih (omega (arith, count-cons wide x l, ap one t)) (omega (arith, count-cons narrow x l, ap one u)) ∙ sym (first-no narrow x l u)

-- two parts of a sum add up
pub sum-two : (m i p : ℕ) (f : ℕ → ℕ) → i < p → p < m → 1 ≤ f i → 1 ≤ f p → 2 ≤ sum m f
sum-two m i p f a b x y =
    omega (arith, sum-part m (p + 1) f (omega arith), sum_more p f, sum-part p (i + 1) f (omega arith), sum_more i f)

-- the first that passes does
pub first_passes {ℓ} : {A : Type ℓ} (test : A → Bool) (l : List A) (x : A) → first test l ≡ some x → test x ≡ true
unfolding first
first_passes test [] x e = absurd (none-ne-some x e)
first_passes test (y ∷ l) x e = go (test y) refl e (first_passes test l x)
  where
    go : (t : Bool) → test y ≡ t → cond t (some y) (first test l) ≡ some x → (first test l ≡ some x → test x ≡ true) → test x ≡ true
    go true t q ih = ap test (sym (some-injective y x q)) ∙ t
    go false t q ih = ih q
