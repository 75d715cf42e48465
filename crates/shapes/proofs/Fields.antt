-- What a field of a shape's word says of its local number. Assumes nothing.
use mathlib.Core.Path.{◌≡◌, refl, sym, ap, ◌∙◌}
use mathlib.Core.Bool.{Bool, true, false, cond}
use mathlib.Core.List.{List, [], ◌∷◌}
use mathlib.Core.Option.{Option, none, some, Option-elim}
use Prim.Native.Nat.{ℕ, zero, suc, ◌/◌, ◌%◌, ◌≤◌, ◌<◌}
use native.Mathlib.Omega.{arith}
use lib.Dec.{eqb, ltb}
use lib.ListN.{length, get_or, get_or-eq_default}
use borrow.Author.Tests.{le-ltb, eq-eqb, ne_eqb}
use Rattle.base.specs.Limits.{group_limit, local_span}
use Rattle.base.specs.Lists.{below}
use Rattle.base.proofs.Lists.{below_at}
use Rattle.shapes.specs.Climbs.{reached, local_depth, climbs_out, row_of}
use Rattle.shapes.specs.Packed.{byte, field, out_in, upward, filled, path_row, field_row, cell_in, field_rows, field_outs, Packs}
use Rattle.shapes.proofs.Heights.{row_at, none_out}

-- 64 and more are no path
pub no-path : (p : ℕ) → 64 ≤ p → path_row p ≡ filled group_limit []
unfolding path_row
no-path p h = ap (λ b. cond b (filled group_limit (upward 6 p)) (filled group_limit [])) (le-ltb _ _ h)

-- a local number that is in its shape is reached by 0 climbs
pub there : (s l : ℕ) → (reached group_limit s l 0 ≡ none → ⊥) → (j : ℕ) × (reached group_limit s l 0 ≡ some j)
there s l inside = go (reached group_limit s l 0) refl
  where
    go : (o : Option ℕ) → reached group_limit s l 0 ≡ o → (j : ℕ) × (o ≡ some j)
    go none q = absurd (inside q)
    go (some j) q = (j, refl)

-- a field that has the row and the climbs out
pub packs : (s l f : ℕ) → field_row f ≡ row_of group_limit s l → out_in f ≡ climbs_out group_limit s l → Packs s l f
unfolding cell_in
packs s l f row out = record { cells = λ k. ap (λ r. get_or r k 255) row ∙ row_at group_limit (omega arith) s l k; out = out }

-- the field of a local number in its shape's word
pub field-packs : (s l word f : ℕ) → field_rows word ≡ below local_span (row_of group_limit s) → field_outs word ≡ below local_span (climbs_out group_limit s) → l < local_span → f ≡ field word l → Packs s l f
unfolding field_rows field_outs
field-packs s l word f rows outs h q =
    packs s l f
    (ap field_row q ∙ sym (below_at local_span (λ k. field_row (field word k)) [] l h) ∙ ap (λ r. get_or r l []) rows ∙ below_at local_span (row_of group_limit s) [] l h)
    (ap out_in q ∙ sym (below_at local_span (λ k. out_in (field word k)) 0 l h) ∙ ap (λ r. get_or r l 0) outs ∙ below_at local_span (climbs_out group_limit s) 0 l h)

-- a list filled up to n has n cells
filled-length : (n : ℕ) (l : List ℕ) → length (filled n l) ≡ n
filled-length zero l = refl
filled-length (suc n) [] = ap suc (filled-length n [])
filled-length (suc n) (x ∷ l) = ap suc (filled-length n l)

row-length : (f : ℕ) → length (field_row f) ≡ group_limit
unfolding field_row path_row
row-length f = go (eqb (out_in f) 0) (ltb (f / 8 % 64) 64)
  where
    go : (a b : Bool) → length (cond a (filled group_limit []) (cond b (filled group_limit (upward 6 (f / 8 % 64))) (filled group_limit []))) ≡ group_limit
    go true b = filled-length group_limit []
    go false true = filled-length group_limit (upward 6 (f / 8 % 64))
    go false false = filled-length group_limit []

filled_none : (n k : ℕ) → get_or (filled n []) k 255 ≡ 255
filled_none zero k = refl
filled_none (suc n) zero = refl
filled_none (suc n) (suc k) = filled_none n k

-- the cells by a field: past the climbs that a row has, without a local number, and along its path
module _ (f k : ℕ) where
  pub past_row : group_limit ≤ k → cell_in f k ≡ 255
  unfolding cell_in
  past_row h = get_or-eq_default (field_row f) 255 (omega (arith, row-length f))

  pub no_row : out_in f ≡ 0 → cell_in f k ≡ 255
  unfolding cell_in field_row
  no_row z = rw (eq-eqb (out_in f) 0 z) (filled_none group_limit k)

  pub own_row : (word : ℕ) → (out_in f ≡ 0 → ⊥) → k < group_limit → below group_limit (byte word) ≡ path_row (f / 8 % 64) → byte word k ≡ cell_in f k
  unfolding cell_in field_row
  own_row word z h e = rw (ne_eqb (out_in f) 0 z) (sym (below_at group_limit (byte word) 255 k h) ∙ ap (λ r. get_or r k 255) e)

-- what the climbs out of a field tell
module _ (s l f : ℕ) (p : Packs s l f) where
  pub outside : (c : ℕ) → c ≡ out_in f → c ≡ 0 → reached group_limit s l 0 ≡ none
  unfolding climbs_out Option-elim
  outside c e z = go (reached group_limit s l 0) refl (sym p.out ∙ sym e ∙ z)
    where
      go : (o : Option ℕ) → reached group_limit s l 0 ≡ o → Option-elim o 0 (λ j. suc (local_depth group_limit s l)) ≡ 0 → o ≡ none
      go none q e = refl
      go (some j) q e = absurd (omega (arith, e))

  pub inside : (c : ℕ) → c ≡ out_in f → (c ≡ 0 → ⊥) → reached group_limit s l 0 ≡ none → ⊥
  inside c e z q = z (e ∙ p.out ∙ none_out group_limit s l q)

  pub out-depth : (reached group_limit s l 0 ≡ none → ⊥) → out_in f ≡ suc (local_depth group_limit s l)
  unfolding climbs_out Option-elim
  out-depth h = let j = there s l h in p.out ∙ ap (λ o. Option-elim o 0 (λ i. suc (local_depth group_limit s l))) j.1
