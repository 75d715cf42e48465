-- Laws of `keep`, `first`, `index`, `every` and `has`: what passes a test, and where the first stands that does. Assumes nothing.
use mathlib.Core.Path.{◌≡◌, refl, sym, ap, ◌∙◌}
use mathlib.Core.List.{List, [], ◌∷◌, ◌++◌, map, append-nil}
use mathlib.Core.Bool.{Bool, true, false, cond}
use mathlib.Core.Option
use mathlib.Core.Option.{none, some}
use Prim.Native.Nat.{ℕ, suc, ◌+◌, ◌≤◌, ◌<◌}
use native.Mathlib.Omega.{arith}
use native.Mathlib.Nat.{add-zero}
use native.Mathlib.Decide.{ℕ_discrete}
use lib.ListN.{length, get_or, take, drop, length-append, length-take}
use lib.Seq.{split_at, take-suc}
use lib.Dec.{eqb}
use borrow.Author.Tests.{eqb-true, ne_eqb}
use Rattle.base.specs.Lists.{keep, first, index, every, some?, has}
use Rattle.base.proofs.Lists.{clash, All, index-past}
use Rattle.base.proofs.Counts.{one, times}
use Rattle.base.proofs.Places.{times-same, times-other}
use native.Mathlib.Numerals.{add-one}

module _ {ℓ} {A : Type ℓ} (test : A → Bool) where
  -- what is kept of two lists joined, and of one that passes with those before and after it
  pub keep_append : (a b : List A) → keep test (a ++ b) ≡ keep test a ++ keep test b
  unfolding keep
  keep_append [] b = refl
  keep_append (x ∷ a) b = go (test x) (keep_append a b)
    where
      go : (t : Bool) → keep test (a ++ b) ≡ keep test a ++ keep test b → cond t (x ∷ keep test (a ++ b)) (keep test (a ++ b)) ≡ cond t (x ∷ keep test a) (keep test a) ++ keep test b
      go true e = ap (◌∷◌ x) e
      go false e = e

  pub keep-yes : (x : A) (l : List A) → test x ≡ true → keep test (x ∷ l) ≡ x ∷ keep test l
  unfolding keep
  keep-yes x l e = rw e

  pub keep-no : (x : A) (l : List A) → test x ≡ false → keep test (x ∷ l) ≡ keep test l
  unfolding keep
  keep-no x l e = rw e

  pub keep-split : (l : List A) (i : ℕ) (d : A) → i < length l → test (get_or l i d) ≡ true → keep test l ≡ keep test (take i l) ++ (get_or l i d ∷ keep test (drop (suc i) l))
  keep-split l i d h e =
      ap (keep test) (split_at l i d h)
      ∙ keep_append (take i l) (get_or l i d ∷ drop (suc i) l)
      ∙ ap (λ r. keep test (take i l) ++ r) (keep-yes (get_or l i d) (drop (suc i) l) e)

  pub keep-most : (l : List A) → length (keep test l) ≤ length l
  unfolding keep
  keep-most [] = omega arith
  keep-most (x ∷ l) = go (test x) (keep-most l)
    where
      go : (t : Bool) → length (keep test l) ≤ length l → length (cond t (x ∷ keep test l) (keep test l)) ≤ suc (length l)
      go true h = omega arith
      go false h = omega arith

  pub every-both : (x : A) (l : List A) → every test (x ∷ l) ≡ true → (test x ≡ true) × (every test l ≡ true)
  unfolding every
  every-both x l e = go (test x) refl e
    where
      go : (t : Bool) → test x ≡ t → cond t (every test l) false ≡ true → (test x ≡ true) × (every test l ≡ true)
      go true q e = (q, e)
      go false q e = clash e

-- of a list whose every one is mapped: whether one passes, and the first that does
module _ {ℓ κ} {A : Type ℓ} {B : Type κ} (f : A → B) (old : A → Bool) (new : B → Bool) (alike : (x : A) → new (f x) ≡ old x) where
  pub some-map : (l : List A) → some? new (map f l) ≡ some? old l
  unfolding some?
  some-map [] = refl
  some-map (x ∷ l) = rw (alike x, some-map l)

  pub first-map : (l : List A) → first new (map f l) ≡ Option.map f (first old l)
  unfolding first
  first-map [] = refl
  first-map (x ∷ l) = rw (alike x) (go (old x) (first-map l))
    where
      go : (t : Bool) → first new (map f l) ≡ Option.map f (first old l) → cond t (some (f x)) (first new (map f l)) ≡ Option.map f (cond t (some x) (first old l))
      go true ih = refl
      go false ih = ih

-- what holds of all that stand in a list holds of every one of it
pub times-all : (P : ℕ → Type 0) (l : List ℕ) → ((x : ℕ) → 1 ≤ times x l → P x) → All P l
unfolding times
times-all P [] h = tt
times-all P (x ∷ l) h = (h x (omega (arith, times-same x x l refl)), times-all P l (λ y k. h y (omega arith)))

module _ (test : ℕ → Bool) where
  -- what passes is kept as often as it stands, and nothing else is
  pub keep-times : (x : ℕ) (l : List ℕ) → test x ≡ true → times x (keep test l) ≡ times x l
  unfolding keep times
  keep-times x [] e = refl
  keep-times x (y ∷ l) e = go (test y) refl (keep-times x l e)
    where
      go : (t : Bool) → test y ≡ t → times x (keep test l) ≡ times x l → times x (cond t (y ∷ keep test l) (keep test l)) ≡ one (eqb x y) + times x l
      go true q ih = omega arith
      go false q ih = omega (arith, ap one (ne_eqb x y (λ s. clash (sym q ∙ ap test (sym s) ∙ e))))

  pub keep-passes : (x : ℕ) (l : List ℕ) → 1 ≤ times x (keep test l) → test x ≡ true
  unfolding keep times
  keep-passes x [] h = absurd (omega arith)
  keep-passes x (y ∷ l) h = go (test y) refl h (eqb x y) refl (keep-passes x l)
    where
      go : (t : Bool) → test y ≡ t → 1 ≤ times x (cond t (y ∷ keep test l) (keep test l)) → (b : Bool) → eqb x y ≡ b → (1 ≤ times x (keep test l) → test x ≡ true) → test x ≡ true
      go true q h true e ih = ap test (eqb-true x y e) ∙ q
      go true q h false e ih = ih (omega (arith, ap one e))
      go false q h b e ih = ih h

  pub keep-in : (x : ℕ) (l : List ℕ) → 1 ≤ times x (keep test l) → (test x ≡ true) × (1 ≤ times x l)
  keep-in x l h = let e = keep-passes x l h in (e, omega (arith, keep-times x l e))

  pub keep-none : (l : List ℕ) → ((x : ℕ) → 1 ≤ times x l → test x ≡ false) → keep test l ≡ []
  unfolding keep times
  keep-none [] h = refl
  keep-none (y ∷ l) h = rw (h y (omega (arith, times-same y y l refl))) (keep-none l (λ x k. h x (omega arith)))

  -- all of a list pass, or one of it fails
  pub every_true : (l : List ℕ) → every test l ≡ true → (x : ℕ) → 1 ≤ times x l → test x ≡ true
  unfolding every times
  every_true [] e x h = absurd (omega arith)
  every_true (y ∷ l) e x h = go (test y) refl e (ℕ_discrete x y) (λ d. every_true l d x)
    where
      go : (t : Bool) → test y ≡ t → cond t (every test l) false ≡ true → Dec (x ≡ y) → (every test l ≡ true → 1 ≤ times x l → test x ≡ true) → test x ≡ true
      go true t e (yes q) ih = ap test q ∙ t
      go true t e (no q) ih = ih e (omega (arith, times-other x y l q))
      go false t e d ih = clash e

  pub every-false : (l : List ℕ) → every test l ≡ false → (x : ℕ) × (1 ≤ times x l) × (test x ≡ false)
  unfolding every times
  every-false [] e = clash (sym e)
  every-false (y ∷ l) e = go (test y) refl e (every-false l)
    where
      go : (t : Bool) → test y ≡ t → cond t (every test l) false ≡ false → (every test l ≡ false → (x : ℕ) × (1 ≤ times x l) × (test x ≡ false))
          → (x : ℕ) × (1 ≤ times x (y ∷ l)) × (test x ≡ false)
      go true t e ih = let (x, h, q) = ih e in (x, omega arith, q)
      go false t e ih = (y, omega (arith, times-same y y l refl), t)

  -- the first that passes, behind those that fail
  pub index_is : (a : List ℕ) (x : ℕ) (b : List ℕ) → ((y : ℕ) → 1 ≤ times y a → test y ≡ false) → test x ≡ true → index test (a ++ (x ∷ b)) ≡ length a
  unfolding index
  index_is a x b h e = index-past test a (x ∷ b) (times-all (λ y. test y ≡ false) a h) ∙ rw e (add-zero (length a))

-- a list has x just where x stands in it
pub has-times : (l : List ℕ) (x : ℕ) → has l x ≡ true → 1 ≤ times x l
unfolding some? times
has-times [] x e = clash e
has-times (y ∷ l) x e = go (eqb x y) e (has-times l x)
  where
    go : (b : Bool) → cond b true (has l x) ≡ true → (has l x ≡ true → 1 ≤ times x l) → 1 ≤ one b + times x l
    go true e ih = omega arith
    go false e ih = omega (arith, ih e)

pub times-has : (l : List ℕ) (x : ℕ) → 1 ≤ times x l → has l x ≡ true
unfolding some? times
times-has [] x h = absurd (omega arith)
times-has (y ∷ l) x h = go (eqb x y) h (times-has l x)
  where
    go : (b : Bool) → 1 ≤ one b + times x l → (1 ≤ times x l → has l x ≡ true) → cond b true (has l x) ≡ true
    go true h ih = refl
    go false h ih = ih (omega arith)

pub has-not : (l : List ℕ) (x : ℕ) → (1 ≤ times x l → ⊥) → has l x ≡ false
has-not l x n = go (has l x) refl
  where
    go : (b : Bool) → has l x ≡ b → b ≡ false
    go true e = absurd (n (has-times l x e))
    go false e = refl

pub has_no : (l : List ℕ) (x : ℕ) → times x l ≡ 0 → has l x ≡ false
has_no l x h = has-not l x (λ k. omega arith)

-- the first that passes, where one alone passes or none does
module _ (test : ℕ → Bool) where
  pub first-only : (l : List ℕ) (x : ℕ) → 1 ≤ times x l → test x ≡ true → ((y : ℕ) → 1 ≤ times y l → test y ≡ true → y ≡ x) → first test l ≡ some x
  unfolding first times
  first-only [] x h t only = absurd (omega arith)
  first-only (y ∷ l) x h t only = go (test y) refl (ℕ_discrete x y) (λ k. first-only l x k t (λ z i. only z (omega arith)))
    where
      go : (b : Bool) → test y ≡ b → Dec (x ≡ y) → (1 ≤ times x l → first test l ≡ some x) → cond b (some y) (first test l) ≡ some x
      go true e d ih = ap some (only y (omega (arith, times-same y y l refl)) e)
      go false e (yes q) ih = clash (sym e ∙ ap test (sym q) ∙ t)
      go false e (no q) ih = ih (omega (arith, times-other x y l q))

  pub first-nothing : (l : List ℕ) → ((y : ℕ) → 1 ≤ times y l → test y ≡ true → ⊥) → first test l ≡ none
  unfolding first times
  first-nothing [] no_one = refl
  first-nothing (y ∷ l) no_one = go (test y) refl (first-nothing l (λ z i. no_one z (omega arith)))
    where
      go : (b : Bool) → test y ≡ b → first test l ≡ none → cond b (some y) (first test l) ≡ none
      go true e ih = absurd (no_one y (omega (arith, times-same y y l refl)) e)
      go false e ih = ih

-- what passes two tests that agree, and a test that all pass
pub keep-alike : (s t : ℕ → Bool) (l : List ℕ) → ((x : ℕ) → 1 ≤ times x l → s x ≡ t x) → keep s l ≡ keep t l
unfolding keep times
keep-alike s t [] h = refl
keep-alike s t (y ∷ l) h = rw (h y (omega (arith, times-same y y l refl)), keep-alike s t l (λ x k. h x (omega arith)))

pub keep_all : (t : ℕ → Bool) (l : List ℕ) → ((x : ℕ) → 1 ≤ times x l → t x ≡ true) → keep t l ≡ l
unfolding keep times
keep_all t [] h = refl
keep_all t (y ∷ l) h = rw (h y (omega (arith, times-same y y l refl))) (ap (◌∷◌ y) (keep_all t l (λ x k. h x (omega arith))))

-- what passes a test among the first of a list, one further
pub keep-few : (test : ℕ → Bool) (l : List ℕ) (i : ℕ) → length (keep test (take i l)) ≤ i
keep-few test l i = omega (arith, keep-most test (take i l), length-take i l)

module _ (test : ℕ → Bool) (l : List ℕ) (i : ℕ) (h : i < length l) where
  next-kept : keep test (take (i + 1) l) ≡ keep test (take i l) ++ keep test (get_or l i 0 ∷ [])
  next-kept = rw (add-one i, take-suc l i 0 h) (keep_append test (take i l) (get_or l i 0 ∷ []))

  pub keep-next : test (get_or l i 0) ≡ true → keep test (take (i + 1) l) ≡ keep test (take i l) ++ (get_or l i 0 ∷ [])
  unfolding keep
  keep-next e = next-kept ∙ ap (λ m. keep test (take i l) ++ m) (keep-yes test (get_or l i 0) [] e)

  pub keep_same : test (get_or l i 0) ≡ false → keep test (take (i + 1) l) ≡ keep test (take i l)
  unfolding keep
  keep_same e = next-kept ∙ ap (λ m. keep test (take i l) ++ m) (keep-no test (get_or l i 0) [] e) ∙ append-nil (keep test (take i l))

  pub keep-count : length (keep test (take (i + 1) l)) ≡ length (keep test (take i l)) + one (test (get_or l i 0))
  unfolding keep
  keep-count = ap length next-kept ∙ length-append (keep test (take i l)) (keep test (get_or l i 0 ∷ [])) ∙ ap (λ m. length (keep test (take i l)) + m) (go (test (get_or l i 0)))
    where
      go : (b : Bool) → length (cond b (get_or l i 0 ∷ []) []) ≡ one b
      go true = refl
      go false = refl
