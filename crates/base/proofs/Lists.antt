-- Laws of `specs/Lists.antt`, and of what stands at a place of a list. Assumes nothing.
use mathlib.Core.Path.{◌≡◌, refl, sym, ap, ap₂, subst, ◌∙◌}
use mathlib.Core.Logic.{◌↔◌}
use mathlib.Core.List.{List, [], ◌∷◌, ◌++◌, map}
use mathlib.Core.Bool.{Bool, true, false, cond}
use mathlib.Core.Option.{none, some, none-ne-some}
use Prim.Native.Nat.{ℕ, zero, suc, ◌+◌, ◌-◌, ◌≤◌, ◌<◌}
use native.Mathlib.Nat.{add-zero, zero-add, suc-add, not-suc-le-zero, le_of_suc-le-suc}
use native.Mathlib.Omega.{arith}
use native.Mathlib.Decide.{ℕ_discrete}
use lib.ListN.{length, get_or, get_elem?, drop, replicate}
use borrow.Author.Tests.{eq-eqb, ne_eqb}
use Rattle.base.specs.Lists.{each, below, first, index, places}

-- no truth value is both
pub clash : {A : Type 0} → ◌≡◌ {A = Bool} false true → A
clash e = absurd (let z : ◌≡◌ {A = ℕ} 0 1 = cc in omega arith)

-- two truth values that come to the same
pub same_truth : (a b : Bool) → (a ≡ true) ↔ (b ≡ true) → a ≡ b
same_truth true b h = sym (h.0 refl)
same_truth false true h = h.1 refl
same_truth false false h = refl

-- what stands at a place of a list, or past its end
pub at_in : (l : List ℕ) (i : ℕ) → i < length l → get_elem? l i ≡ some (get_or l i 0)
at_in [] i h = absurd (not-suc-le-zero h)
at_in (x ∷ l) zero h = refl
at_in (x ∷ l) (suc i) h = at_in l i (le_of_suc-le-suc h)

pub at-past {ℓ} : {A : Type ℓ} (l : List A) (i : ℕ) → length l ≤ i → get_elem? l i ≡ none
at-past [] i h = refl
at-past (x ∷ l) zero h = absurd (not-suc-le-zero h)
at-past (x ∷ l) (suc i) h = at-past l i (le_of_suc-le-suc h)

pub at_some : (l : List ℕ) (i x : ℕ) → get_elem? l i ≡ some x → (i < length l) × (get_or l i 0 ≡ x)
at_some [] i x e = absurd (let z : ◌≡◌ {A = ℕ} 0 1 = cc in omega arith)
at_some (y ∷ l) zero x e = (omega arith, cc)
at_some (y ∷ l) (suc i) x e = let r = at_some l i x e in (omega (arith, r.0), r.1)

-- within a list the default does not matter
pub at-any {ℓ} : {A : Type ℓ} (l : List A) (i : ℕ) (a b : A) → i < length l → get_or l i a ≡ get_or l i b
at-any [] i a b h = absurd (not-suc-le-zero h)
at-any (x ∷ l) zero a b h = refl
at-any (x ∷ l) (suc i) a b h = at-any l i a b (le_of_suc-le-suc h)

-- the first number of a row that passes a test: where there is none, all fail
module _ (test : ℕ → Bool) where
  pub first-none : (n i : ℕ) → first test (each n i (λ v. v)) ≡ none → (v : ℕ) → i ≤ v → v < i + n → test v ≡ false
  unfolding first each
  first-none zero i e v a b = absurd (omega arith)
  first-none (suc n) i e v a b = go (test i) refl e (ℕ_discrete v i) (λ q c. first-none n (suc i) q v c (omega arith))
    where
      go : (t : Bool) → test i ≡ t → cond t (some i) (first test (each n (suc i) (λ u. u))) ≡ none → Dec (v ≡ i)
          → (first test (each n (suc i) (λ u. u)) ≡ none → suc i ≤ v → test v ≡ false) → test v ≡ false
      go true t e d ih = absurd (let z : ◌≡◌ {A = ℕ} 0 1 = cc in omega arith)
      go false t e (yes d) ih = rw d t
      go false t e (no d) ih = ih e (omega arith)

  pub none_first : (n i : ℕ) → ((v : ℕ) → i ≤ v → v < i + n → test v ≡ false) → first test (each n i (λ v. v)) ≡ none
  unfolding first each
  none_first zero i h = refl
  none_first (suc n) i h = rw (h i (omega arith) (omega arith)) (none_first n (suc i) (λ v a b. h v (omega arith) (omega arith)))

  -- the first that passes is a number of the row, and those before it fail
  pub first_some : (n i e : ℕ) → first test (each n i (λ v. v)) ≡ some e → (i ≤ e) × (e < i + n) × (test e ≡ true)
  unfolding first each
  first_some zero i e q = absurd (let z : ◌≡◌ {A = ℕ} 0 1 = cc in omega arith)
  first_some (suc n) i e q = go (test i) refl q (first_some n (suc i) e)
    where
      go : (t : Bool) → test i ≡ t → cond t (some i) (first test (each n (suc i) (λ u. u))) ≡ some e
          → (first test (each n (suc i) (λ u. u)) ≡ some e → (suc i ≤ e) × (e < suc i + n) × (test e ≡ true)) → (i ≤ e) × (e < i + suc n) × (test e ≡ true)
      go true t q ih = let z : i ≡ e = cc in (omega arith, omega arith, rw (← z) t)
      go false t q ih = let r = ih q in (omega (arith, r.0), omega (arith, r.1), r.2)

  pub first-is : (n i e : ℕ) → i ≤ e → e < i + n → test e ≡ true → ((v : ℕ) → i ≤ v → v < e → test v ≡ false) → first test (each n i (λ v. v)) ≡ some e
  unfolding first each
  first-is zero i e a b t h = absurd (omega arith)
  first-is (suc n) i e a b t h = go (ℕ_discrete i e) (λ c. first-is n (suc i) e c (omega arith) t (λ v x y. h v (omega arith) y))
    where
      go : Dec (i ≡ e) → (suc i ≤ e → first test (each n (suc i) (λ u. u)) ≡ some e) → cond (test i) (some i) (first test (each n (suc i) (λ u. u))) ≡ some e
      go (yes q) ih = rw (q, t)
      go (no q) ih = rw (h i (omega arith) (omega arith)) (ih (omega arith))

-- the places of a number that stands nowhere in a list, or at one place alone
pub places-none : (l : List ℕ) (i x : ℕ) → ((j : ℕ) → j < length l → get_or l j 0 ≡ x → ⊥) → places l i x ≡ []
unfolding places
places-none [] i x h = refl
places-none (y ∷ l) i x h = rw (ne_eqb y x (h 0 (omega arith))) (places-none l (suc i) x (λ j b. h (suc j) (omega arith)))

pub places-one : (l : List ℕ) (i x j : ℕ) → j < length l → get_or l j 0 ≡ x → ((m : ℕ) → m < length l → (m ≡ j → ⊥) → get_or l m 0 ≡ x → ⊥) → places l i x ≡ (i + j) ∷ []
unfolding places
places-one [] i x j b e h = absurd (not-suc-le-zero b)
places-one (y ∷ l) i x zero b e h =
    let z : i + 0 ≡ i = omega arith in
    rw (eq-eqb y x e, z, places-none l (suc i) x (λ m c. h (suc m) (omega arith) (λ q. omega arith)))
places-one (y ∷ l) i x (suc j) b e h =
    let z : i + suc j ≡ suc i + j = omega arith in
    rw (ne_eqb y x (h 0 (omega arith) (λ q. omega arith)), z)
    (places-one l (suc i) x j (le_of_suc-le-suc b) e (λ m c n. h (suc m) (omega arith) (λ q. n (omega arith))))

-- what stands at place k of `each`
pub each_at {ℓ} : {A : Type ℓ} (n i : ℕ) (f : ℕ → A) (d : A) (k : ℕ) → k < n → get_or (each n i f) k d ≡ f (i + k)
unfolding each
each_at zero i f d k h = absurd (not-suc-le-zero h)
each_at (suc n) i f d zero h = ap f (sym (add-zero i))
each_at (suc n) i f d (suc k) h = each_at n (suc i) f d k (le_of_suc-le-suc h) ∙ ap f (omega arith)

pub each-length {ℓ} : {A : Type ℓ} (n i : ℕ) (f : ℕ → A) → length (each n i f) ≡ n
unfolding each
each-length zero i f = refl
each-length (suc n) i f = ap suc (each-length n (suc i) f)

-- what stands at place k of `below`
pub below_at {ℓ} : {A : Type ℓ} (n : ℕ) (f : ℕ → A) (d : A) (k : ℕ) → k < n → get_or (below n f) k d ≡ f k
below_at n f d k h = each_at n 0 f d k h ∙ ap f (zero-add k)

-- P holds of every one of a list
abbrev pub All {ℓ} : {A : Type ℓ} → (A → Type 0) → List A → Type 0
All P [] = Unit
All P (x ∷ l) = P x × All P l

module _ {ℓ} {A : Type ℓ} (P : A → Type 0) where
  -- it holds of the one at any place
  pub all-at : (l : List A) → All P l → (i : ℕ) (x : A) → get_elem? l i ≡ some x → P x
  all-at [] h i x e = absurd (none-ne-some x e)
  all-at (y ∷ l) h zero x e = subst P (cc) h.0
  all-at (y ∷ l) h (suc i) x e = all-at l h.1 i x e

  -- it holds of every one of two lists joined
  pub all_append : (l m : List A) → All P l → All P m → All P (l ++ m)
  all_append [] m h k = k
  all_append (x ∷ l) m h k = (h.0, all_append l m h.1 k)

  -- it holds of every one, where what Q says gives it
  pub all_from : (Q : A → Type 0) → ((x : A) → Q x → P x) → (l : List A) → All Q l → All P l
  all_from Q g [] h = tt
  all_from Q g (x ∷ l) h = (g x h.0, all_from Q g l h.1)

  -- it holds of every f x, where what Q says of x gives it
  pub all_map {κ} : {B : Type κ} (Q : B → Type 0) (f : B → A) → ((x : B) → Q x → P (f x)) → (l : List B) → All Q l → All P (map f l)
  all_map Q f g [] h = tt
  all_map Q f g (x ∷ l) h = (g x h.0, all_map Q f g l h.1)

  -- it holds of every one, where it holds of all there are
  pub all-always : ((x : A) → P x) → (l : List A) → All P l
  all-always g [] = tt
  all-always g (x ∷ l) = (g x, all-always g l)

-- the place of the first of a list that passes a test
module _ {ℓ} {A : Type ℓ} (test : A → Bool) where
  -- behind a list whose every one fails
  pub index-past : (l m : List A) → All (λ x. test x ≡ false) l → index test (l ++ m) ≡ length l + index test m
  unfolding index
  index-past [] m h = sym (zero-add (index test m))
  index-past (x ∷ l) m h = rw (h.0, index-past l m h.1, suc-add)

  -- within the first of two lists
  pub index-front : (l m : List A) → index test l < length l → index test (l ++ m) ≡ index test l
  unfolding index
  index-front [] m h = absurd (not-suc-le-zero h)
  index-front (x ∷ l) m h = go (test x) h (index-front l m)
    where
      go : (t : Bool) → cond t 0 (suc (index test l)) < suc (length l) → (index test l < length l → index test (l ++ m) ≡ index test l)
          → cond t 0 (suc (index test (l ++ m))) ≡ cond t 0 (suc (index test l))
      go true h ih = refl
      go false h ih = ap suc (ih (le_of_suc-le-suc h))

  -- what stands there passes
  pub index_at : (l : List A) → index test l < length l → (x : A) × (get_elem? l (index test l) ≡ some x) × (test x ≡ true)
  unfolding index
  index_at [] h = absurd (not-suc-le-zero h)
  index_at (x ∷ l) h = go (test x) refl h (index_at l)
    where
      go : (t : Bool) → test x ≡ t → cond t 0 (suc (index test l)) < suc (length l) → (index test l < length l → (y : A) × (get_elem? l (index test l) ≡ some y) × (test y ≡ true))
          → (y : A) × (get_elem? (x ∷ l) (cond t 0 (suc (index test l))) ≡ some y) × (test y ≡ true)
      go true e h ih = (x, refl, e)
      go false e h ih = ih (le_of_suc-le-suc h)

  -- of a list of f x, by the test of f x
  pub index-map {κ} : {B : Type κ} (f : B → A) (l : List B) → index test (map f l) ≡ index (λ x. test (f x)) l
  unfolding index
  index-map f [] = refl
  index-map f (x ∷ l) = rw (index-map f l)

-- two rows of the same values
pub each_same {ℓ} : {A : Type ℓ} (n i : ℕ) (f g : ℕ → A) → ((k : ℕ) → f k ≡ g k) → each n i f ≡ each n i g
unfolding each
each_same zero i f g h = refl
each_same (suc n) i f g h = ap₂ ◌∷◌ (h i) (each_same n (suc i) f g h)

-- a part of a list of values, and of one of zeros
pub drop-map : (f : ℕ → ℕ) (i : ℕ) (l : List ℕ) → drop i (map f l) ≡ map f (drop i l)
drop-map f zero l = refl
drop-map f (suc i) [] = refl
drop-map f (suc i) (x ∷ l) = drop-map f i l

pub drop-zeros : (n m : ℕ) → drop {A = ℕ} n (replicate m 0) ≡ replicate (m - n) 0
drop-zeros zero m = let e : m ≡ m - 0 = omega arith in ap (λ k. replicate {A = ℕ} k 0) e
drop-zeros (suc n) zero = let e : 0 ≡ 0 - suc n = omega arith in ap (λ k. replicate {A = ℕ} k 0) e
drop-zeros (suc n) (suc m) = let e : m - n ≡ suc m - suc n = omega arith in drop-zeros n m ∙ ap (λ k. replicate {A = ℕ} k 0) e
