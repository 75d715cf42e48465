-- Where a number stands in a list, by how often it does. Assumes nothing.
use mathlib.Core.Path.{◌≡◌, refl, sym, ap, ◌∙◌}
use mathlib.Core.List.{List, [], ◌∷◌, ◌++◌}
use mathlib.Core.Bool.{Bool, true, false}
use Prim.Native.Nat.{ℕ, zero, suc, ◌≤◌, ◌<◌}
use native.Mathlib.Omega.{arith}
use native.Mathlib.Nat.{not-suc-le-zero, le_of_suc-le-suc}
use native.Mathlib.Decide.{ℕ_discrete}
use lib.ListN.{length, get_or, take, drop}
use borrow.Author.Tests.{eq-eqb, ne_eqb}
use Rattle.base.specs.Lists.{index, place}
use Rattle.base.proofs.Counts.{one, times}
use lib.Seq.{split_at}

-- a truth value that counts is true, and counts once at most
pub one-true : (b : Bool) → 1 ≤ one b → b ≡ true
one-true true h = refl
one-true false h = absurd (omega arith)

pub one-most : (b : Bool) → one b ≤ 1
one-most true = omega arith
one-most false = omega arith

-- x in a list that begins with x, or with another
pub times-same : (x y : ℕ) (l : List ℕ) → x ≡ y → times x (y ∷ l) ≡ suc (times x l)
unfolding times
times-same x y l e = omega (arith, ap one (eq-eqb x y e))

pub times-other : (x y : ℕ) (l : List ℕ) → (x ≡ y → ⊥) → times x (y ∷ l) ≡ times x l
unfolding times
times-other x y l e = omega (arith, ap one (ne_eqb x y e))

-- what stands at a place is in the list
pub stands : (x : ℕ) (l : List ℕ) (i : ℕ) → i < length l → get_or l i 0 ≡ x → 1 ≤ times x l
unfolding times
stands x [] i h e = absurd (not-suc-le-zero h)
stands x (y ∷ l) zero h e = omega (arith, times-same x y l (sym e))
stands x (y ∷ l) (suc i) h e = omega (arith, stands x l i (le_of_suc-le-suc h) e)

-- what is in the list stands at its place, and at no other where it stands once
pub place-stands : (x : ℕ) (l : List ℕ) → 1 ≤ times x l → (place x l < length l) × (get_or l (place x l) 0 ≡ x)
unfolding times index
place-stands x [] h = absurd (omega arith)
place-stands x (y ∷ l) h = go (ℕ_discrete x y) (place-stands x l)
  where
    go : Dec (x ≡ y) → (1 ≤ times x l → (place x l < length l) × (get_or l (place x l) 0 ≡ x)) → (place x (y ∷ l) < suc (length l)) × (get_or (y ∷ l) (place x (y ∷ l)) 0 ≡ x)
    go (yes e) ih = rw (eq-eqb x y e) (omega arith, sym e)
    go (no e) ih = let r = ih (omega (arith, times-other x y l e)) in rw (ne_eqb x y e) (omega (arith, r.0), r.1)

pub place_is : (x : ℕ) (l : List ℕ) (i : ℕ) → times x l ≤ 1 → i < length l → get_or l i 0 ≡ x → place x l ≡ i
unfolding index
place_is x [] i o h e = absurd (not-suc-le-zero h)
place_is x (y ∷ l) zero o h e = rw (eq-eqb x y (sym e))
place_is x (y ∷ l) (suc i) o h e = go (ℕ_discrete x y) (place_is x l i)
  where
    in_tail : 1 ≤ times x l
    in_tail = stands x l i (le_of_suc-le-suc h) e

    go : Dec (x ≡ y) → (times x l ≤ 1 → i < length l → get_or l i 0 ≡ x → place x l ≡ i) → place x (y ∷ l) ≡ suc i
    go (yes q) ih = absurd (omega (arith, times-same x y l q, in_tail))
    go (no q) ih = rw (ne_eqb x y q) (ap suc (ih (omega (arith, times-other x y l q)) (le_of_suc-le-suc h) e))

-- a list at one that stands in it
pub parted : (x : ℕ) (l : List ℕ) → 1 ≤ times x l → (a : List ℕ) × (b : List ℕ) × (l ≡ a ++ (x ∷ b))
parted x l h =
    let i = place x l in
    let (b, e) = place-stands x l h in
    (take i l, drop (suc i) l, split_at l i 0 b ∙ ap (λ y. take i l ++ (y ∷ drop (suc i) l)) e)
