-- Rows of one length laid end to end: what stands at each place. Assumes nothing.
use mathlib.Core.Path.{◌≡◌, sym, ap, ◌∙◌}
use mathlib.Core.List.{List, [], ◌∷◌, ◌++◌, flat_map, append-nil, append_assoc}
use Prim.Native.Nat.{ℕ, zero, suc, ◌+◌, ◌*◌, ◌<◌}
use native.Mathlib.Omega.{arith}
use native.Mathlib.Nat.{mul-zero, mul-suc, not-suc-le-zero, le_of_suc-le-suc}
use lib.ListN.{length, get_or, length-append, get_or-append}
use lib.Seq.{get_or-append-add}

module _ {ℓ κ} {A : Type ℓ} {B : Type κ} (f : A → List B) (w : ℕ) (wide : (x : A) → length (f x) ≡ w) where
  pub rows-length : (l : List A) → length (flat_map f l) ≡ w * length l
  unfolding flat_map
  rows-length [] = omega (arith, mul-zero w)
  rows-length (x ∷ l) = omega (arith, length-append (f x) (flat_map f l), wide x, rows-length l, mul-suc w (length l))

  -- place j of row i
  pub rows_at : (l : List A) (i j : ℕ) (a : A) (d : B) → i < length l → j < w → get_or (flat_map f l) (w * i + j) d ≡ get_or (f (get_or l i a)) j d
  unfolding flat_map
  rows_at [] i j a d h b = absurd (not-suc-le-zero h)
  rows_at (x ∷ l) zero j a d h b =
      let z : w * 0 + j ≡ j = omega (arith, mul-zero w) in
      rw z (get_or-append (f x) (flat_map f l) d j (omega (arith, wide x)))
  rows_at (x ∷ l) (suc i) j a d h b =
      let z : w * suc i + j ≡ length (f x) + (w * i + j) = omega (arith, wide x, mul-suc w i) in
      rw z (get_or-append-add (f x) (flat_map f l) (w * i + j) d ∙ rows_at l i j a d (le_of_suc-le-suc h) b)

-- one row more, laid behind the others
pub rows_more {ℓ κ} : {A : Type ℓ} {B : Type κ} (f : A → List B) (l : List A) (x : A) → flat_map f (l ++ (x ∷ [])) ≡ flat_map f l ++ f x
unfolding flat_map
rows_more f [] x = append-nil (f x)
rows_more f (y ∷ l) x = ap (λ m. f y ++ m) (rows_more f l x) ∙ sym (append_assoc (f y) (flat_map f l) (f x))
