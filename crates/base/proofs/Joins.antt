-- Lists laid end to end, a list from its end, a list with zeros behind it: what stands where, and how often. Assumes nothing.
use mathlib.Core.Path.{◌≡◌, refl, sym, ap, ◌∙◌}
use mathlib.Core.List.{List, [], ◌∷◌, ◌++◌, map, flatten, reverse, reverse-cons, append_assoc, map-append}
use Prim.Native.Nat.{ℕ, zero, suc, ◌+◌, ◌-◌, ◌≤◌, ◌<◌}
use native.Mathlib.Omega.{arith}
use native.Mathlib.Nat.{not-suc-le-zero, le_of_suc-le-suc}
use native.Mathlib.Decide.{ℕ_discrete, dec_lt, dec_le}
use lib.ListN.{length, get_or, take, replicate, length-append, length-replicate, length-reverse, get_or-append}
use lib.Seq.{get_or_at, get_or-append-add}
use Rattle.base.specs.Lists.{place, padded}
use Rattle.base.proofs.Counts.{times, times-append}
use Rattle.base.proofs.Places.{times-same, times-other, place-stands}

-- a list read from its end
pub reverse-at {ℓ} : {A : Type ℓ} (l : List A) (i : ℕ) (d : A) → i < length l → get_or (reverse l) (length l - suc i) d ≡ get_or l i d
reverse-at [] i d h = absurd (not-suc-le-zero h)
reverse-at (x ∷ l) zero d h = rw (reverse-cons x l) (get_or_at (reverse l) x [] d (suc (length l) - 1) (omega (arith, length-reverse l)))
reverse-at (x ∷ l) (suc i) d h =
    let z : suc (length l) - suc (suc i) ≡ length l - suc i = omega arith in
    rw (reverse-cons x l, z)
    (get_or-append (reverse l) (x ∷ []) d (length l - suc i) (omega (arith, length-reverse l)) ∙ reverse-at l i d (le_of_suc-le-suc h))

-- lists laid end to end, in two parts, and around one of them
pub flatten-append {ℓ} : {A : Type ℓ} (a b : List (List A)) → flatten (a ++ b) ≡ flatten a ++ flatten b
unfolding flatten
flatten-append [] b = refl
flatten-append (l ∷ a) b = rw (flatten-append a b) (sym (append_assoc l (flatten a) (flatten b)))

module _ {ℓ κ} {A : Type ℓ} {B : Type κ} (f : A → List B) where
  pub join-append : (a b : List A) → flatten (map f (a ++ b)) ≡ flatten (map f a) ++ flatten (map f b)
  join-append a b = ap flatten (map-append f a b) ∙ flatten-append (map f a) (map f b)

  pub join-split : (a : List A) (x : A) (b : List A) → flatten (map f (a ++ (x ∷ b))) ≡ flatten (map f a) ++ (f x ++ flatten (map f b))
  unfolding flatten
  join-split a x b = join-append a (x ∷ b)

  -- every place of the whole is a place of one of the lists
  pub join-find : (l : List A) (j : ℕ) (d : A) → j < length (flatten (map f l))
      → (i k : ℕ) × (i < length l) × (k < length (f (get_or l i d))) × (j ≡ length (flatten (map f (take i l))) + k)
  unfolding flatten
  join-find [] j d h = absurd (not-suc-le-zero h)
  join-find (x ∷ l) j d h = go (dec_lt j (length (f x))) (join-find l (j - length (f x)) d)
    where
      Found : List A → ℕ → Type 0
      Found m q = (i k : ℕ) × (i < length m) × (k < length (f (get_or m i d))) × (q ≡ length (flatten (map f (take i m))) + k)

      go : Dec (j < length (f x)) → (j - length (f x) < length (flatten (map f l)) → Found l (j - length (f x))) → Found (x ∷ l) j
      go (yes b) ih = (0, j, omega arith, b, omega arith)
      go (no b) ih =
          let (i, k, p, q, e) = ih (omega (arith, length-append (f x) (flatten (map f l)))) in
          (suc i, k, omega arith, q, omega (arith, length-append (f x) (flatten (map f (take i l)))))

-- x stands in the whole as often as in the one list that holds it
module _ (x : ℕ) (f : ℕ → List ℕ) where
  pub join-none : (l : List ℕ) → ((t : ℕ) → 1 ≤ times t l → times x (f t) ≡ 0) → times x (flatten (map f l)) ≡ 0
  unfolding flatten times
  join-none [] h = refl
  join-none (y ∷ l) h =
      omega (arith, times-append x (f y) (flatten (map f l)), h y (omega (arith, times-same y y l refl)), join-none l (λ t k. h t (omega arith)))

  pub join_one : (t : ℕ) (l : List ℕ) → times t l ≡ 1 → ((s : ℕ) → 1 ≤ times s l → (s ≡ t → ⊥) → times x (f s) ≡ 0) → times x (flatten (map f l)) ≡ times x (f t)
  unfolding flatten times
  join_one t [] o h = absurd (omega arith)
  join_one t (y ∷ l) o h = go (ℕ_discrete y t) (λ q. join_one t l q (λ s k. h s (omega arith)))
    where
      both : times x (f y ++ flatten (map f l)) ≡ times x (f y) + times x (flatten (map f l))
      both = times-append x (f y) (flatten (map f l))

      go : Dec (y ≡ t) → (times t l ≡ 1 → times x (flatten (map f l)) ≡ times x (f t)) → times x (f y ++ flatten (map f l)) ≡ times x (f t)
      go (yes e) ih =
          let z : times t l ≡ 0 = omega (arith, times-same t y l (sym e)) in
          omega (arith, both, ap (λ s. times x (f s)) e, join-none l (λ s k. h s (omega arith) (λ q. omega (arith, ap (λ r. times r l) q))))
      go (no e) ih =
          omega (arith, both, h y (omega (arith, times-same y y l refl)) e, ih (omega (arith, times-other t y l (λ q. e (sym q)))))

-- nothing stands twice where each one's key is its place, counted from a
pub keyed-once : (key : ℕ → ℕ) (a : ℕ) (l : List ℕ) → ((i : ℕ) → i < length l → key (get_or l i 0) ≡ a + i) → (x : ℕ) → times x l ≤ 1
unfolding times
keyed-once key a [] h x = omega arith
keyed-once key a (y ∷ l) h x = go (ℕ_discrete x y) (dec_le 1 (times x l)) (keyed-once key (suc a) l (λ i k. omega (arith, h (suc i) (omega arith))) x)
  where
    go : Dec (x ≡ y) → Dec (1 ≤ times x l) → times x l ≤ 1 → times x (y ∷ l) ≤ 1
    go (no e) d ih = omega (arith, times-other x y l e)
    go (yes e) (no d) ih = omega (arith, times-same x y l e)
    go (yes e) (yes d) ih =
        let (b, q) = place-stands x l d in
        absurd (omega (arith, h (suc (place x l)) (omega arith), h 0 (omega arith), ap key q, ap key e))

-- a list with zeros behind it
zeros : (m i : ℕ) → get_or (replicate {A = ℕ} m 0) i 0 ≡ 0
zeros zero i = refl
zeros (suc m) zero = refl
zeros (suc m) (suc i) = zeros m i

pub padded-length : (n : ℕ) (l : List ℕ) → length l ≤ n → length (padded n l) ≡ n
unfolding padded
padded-length n l h = omega (arith, length-append l (replicate (n - length l) 0), length-replicate {A = ℕ} (n - length l) 0)

pub padded-in : (n : ℕ) (l : List ℕ) (i : ℕ) → i < length l → get_or (padded n l) i 0 ≡ get_or l i 0
unfolding padded
padded-in n l i h = get_or-append l (replicate (n - length l) 0) 0 i h

pub padded-past : (n : ℕ) (l : List ℕ) (i : ℕ) → length l ≤ i → get_or (padded n l) i 0 ≡ 0
unfolding padded
padded-past n l i h =
    let z : length l + (i - length l) ≡ i = omega arith in
    (rw z at (get_or-append-add l (replicate (n - length l) 0) (i - length l) 0)) ∙ zeros (n - length l) (i - length l)
