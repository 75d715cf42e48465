-- The depths of a forest's entries, in preorder. Assumes nothing.
use mathlib.Core.Path.{◌≡◌, refl, ap, ◌∙◌}
use mathlib.Core.List.{List, [], ◌∷◌, map, map-append}
use mathlib.Core.Bool.{true}
use mathlib.Core.Option.{some}
use Prim.Native.Nat.{ℕ, zero, suc, ◌≤◌}
use native.Mathlib.Omega.{arith}
use lib.ListN.{length, length-append}
use Rattle.base.proofs.Counts.{times}
use Rattle.base.proofs.Places.{times-same}
use Rattle.base.specs.Limits.{top_mark}
use Rattle.tree.specs.Parents.{depth, children}
use Rattle.tree.specs.Forest.{Forest, empty, node, plant, grow, preorder, levels, forest_size, under, whole, order}
use Rattle.tree.specs.Faults.{meets_top}
use Rattle.tree.proofs.Climbs.{parent_in, parent-none}
use Rattle.tree.proofs.Depths.{meets-depth, end-depth}
use Rattle.tree.proofs.Forests.{child-of, top-meets, child-meets, meets-entry}

-- an entry, a depth
pub levels-length : (d : ℕ) (f : Forest) → length (levels d f) ≡ forest_size f
unfolding levels forest_size
levels-length d empty = refl
levels-length d (node v b later) = omega (arith, length-append (levels (suc d) b) (levels d later), levels-length (suc d) b, levels-length d later)

-- every one of vs has depth d and meets the top
abbrev Level : List ℕ → ℕ → List ℕ → Type 0
Level ps d vs = (c : ℕ) → 1 ≤ times c vs → (depth ps c ≡ d) × (meets_top ps c ≡ true)

module _ (ps : List ℕ) (small : length ps ≤ top_mark) where
  -- the tops are a level of depth 0, and the children of an entry one of a depth more
  tops-level : Level ps 0 (children ps top_mark)
  tops-level c k = let (h, w) = child-of ps small top_mark c k in (end-depth ps small c h (parent-none ps c h (omega arith)), top-meets ps small c k)

  next_level : (v d : ℕ) → meets_top ps v ≡ true → depth ps v ≡ d → Level ps (suc d) (children ps v)
  next_level v d m e c k =
      let (h, w) = child-of ps small v c k in
      let hv = meets-entry ps small v m in
      let t = child-meets ps small v c m hv k in
      (meets-depth ps small c v t (parent_in ps c h (omega arith) ∙ ap some w) ∙ ap suc e, t)

  -- the depths of the forest with such a first level, from those of what is below each of it
  plant-levels : (f : ℕ → Forest) (d : ℕ) (vs : List ℕ) → Level ps d vs → ((c : ℕ) → 1 ≤ times c vs → map (depth ps) (preorder (f c)) ≡ levels (suc d) (f c))
      → map (depth ps) (preorder (plant f vs)) ≡ levels d (plant f vs)
  unfolding preorder plant levels times
  plant-levels f d [] l h = refl
  plant-levels f d (v ∷ vs) l h =
      let here : 1 ≤ times v (v ∷ vs) = omega (arith, times-same v v vs refl) in
      let rest = plant-levels f d vs (λ c k. l c (omega arith)) (λ c k. h c (omega arith)) in
      rw (map-append (depth ps) (preorder (f v)) (preorder (plant f vs)), (l v here).0, h v here, rest)

  grown-levels : (k d : ℕ) (vs : List ℕ) → Level ps d vs → map (depth ps) (preorder (grow ps k vs)) ≡ levels d (grow ps k vs)
  unfolding grow preorder levels
  grown-levels zero d vs l = refl
  grown-levels (suc k) d vs l = plant-levels (λ c. grow ps k (children ps c)) d vs l (λ c h. grown-levels k (suc d) (children ps c) (next_level c d (l c h).1 (l c h).0))

  -- the depths of the whole, and below an entry that meets the top
  pub order-levels : map (depth ps) (order ps) ≡ levels 0 (whole ps)
  order-levels = grown-levels (length ps) 0 (children ps top_mark) tops-level

  pub under-levels : (v : ℕ) → meets_top ps v ≡ true → map (depth ps) (preorder (under ps v)) ≡ levels (suc (depth ps v)) (under ps v)
  under-levels v m = grown-levels (length ps) (suc (depth ps v)) (children ps v) (next_level v (depth ps v) m refl)
