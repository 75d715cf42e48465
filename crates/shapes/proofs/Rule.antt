-- The rule of the shape table, once for any group limit up to 255. Assumes nothing.
use mathlib.Core.Path.{◌≡◌, refl, ap}
use mathlib.Core.List.{List, []}
use mathlib.Core.Option.{Option, none, some, bind}
use Prim.Native.Nat.{ℕ, ◌≤◌, ◌<◌}
use native.Mathlib.Decide.{dec_le}
use native.Mathlib.Omega.{arith}
use lib.ListN.{length, get_or}
use Rattle.base.specs.Limits.{group_limit, shape_count}
use Rattle.base.specs.Lists.{below}
use Rattle.base.proofs.Lists.{below_at, at-past, each_same}
use Rattle.tree.specs.Parents.{up}
use Rattle.shapes.specs.Walks.{Walk, shapes}
use Rattle.shapes.specs.Climbs.{parent_list, reached, climbs_out, mark, row_of, rows_of, CellOf, Rule}
use Rattle.shapes.proofs.Sizes.{reached-below}
use Rattle.shapes.proofs.Heights.{none_out}

-- a cell holds the local number that its climb reaches, and 255 where there is none
pub cell-is : (L s l k : ℕ) → l < L → k < L → get_or (get_or (rows_of L s) l []) k 0 ≡ mark (reached L s l k)
unfolding rows_of row_of
cell-is L s l k hl hk = rw (below_at {A = List ℕ} L _ [] l hl, below_at {A = ℕ} L _ 0 k hk)

-- a number below 255 is told from none
says : (o : Option ℕ) → ((j : ℕ) → o ≡ some j → j < 255) → CellOf o (mark o)
says none h = refl
says (some j) h = (refl, h j refl)

-- the rule holds of the rows of every shape, at any limit up to 255
pub rule : (L : ℕ) → L ≤ 255 → (s : ℕ) → Rule L s (rows_of L s)
rule L b s l k hl hk = rw (cell-is L s l k hl hk) (says (reached L s l k) (λ j e. omega (arith, reached-below L s l k j e)))

-- from a number that is no shape nothing is reached, its cells are 255, and its climbs out are 0
pub no-reach : (L s : ℕ) → length (shapes L) ≤ s → (l k : ℕ) → reached L s l k ≡ none
unfolding reached bind
no-reach L s h l k = ap (λ (o : Option Walk). bind o (λ w. up (parent_list w) k l)) (at-past (shapes L) s h)

pub no-shape : (L s : ℕ) → length (shapes L) ≤ s → (l : ℕ) → row_of L s l ≡ below L (λ k. 255)
unfolding row_of
no-shape L s h l = each_same L 0 (λ k. mark (reached L s l k)) (λ k. 255) (λ k. ap mark (no-reach L s h l k))

pub no-out : (L s : ℕ) → length (shapes L) ≤ s → (l : ℕ) → climbs_out L s l ≡ 0
no-out L s h l = none_out L s l (no-reach L s h l 0)

-- the group limit has 197 shapes
pub shape-count : length (shapes group_limit) ≡ shape_count
shape-count = refl

-- what is reached is in a shape
pub known-shape : (s l k : ℕ) → (reached group_limit s l k ≡ none → ⊥) → s < shape_count
known-shape s l k h = go (dec_le shape_count s)
  where
    go : Dec (shape_count ≤ s) → s < shape_count
    go (yes b) = absurd (h (no-reach group_limit s b l k))
    go (no b) = omega arith
