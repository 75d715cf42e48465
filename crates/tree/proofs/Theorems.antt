-- What the definitions of the parent list come to. Each holds of every list of words that the top mark is no entry of. Assumes nothing.
use mathlib.Core.Path.{◌≡◌, sym, ◌∙◌}
use mathlib.Core.Logic.{◌↔◌}
use mathlib.Core.List.{List}
use mathlib.Core.Bool.{false}
use mathlib.Core.Option.{none, some, some-injective}
use Prim.Native.Nat.{ℕ, suc, ◌≤◌, ◌<◌}
use lib.ListN.{length}
use Rattle.base.specs.Limits.{top_mark}
use Rattle.tree.specs.Parents.{word, parent, up, depth}
use Rattle.tree.specs.Level.{LevelAncestor, level_ancestor}
use Rattle.tree.specs.Faults.{Tree, meets_top, list_fault}
use Rattle.tree.proofs.OneTree.{passed-tree, tree-passes, lost-never, never-lost}
use Rattle.tree.proofs.Depths as depths

module _ (ps : List ℕ) (small : length ps ≤ top_mark) where
  -- a list passes checks 4, 5 and 6 just where it forms one tree
  pub passes-iff-tree : (list_fault ps ≡ none) ↔ Tree ps
  passes-iff-tree = (passed-tree ps, tree-passes ps small)

  -- 6 means that no number of climbs meets the top
  pub loop-iff-never : (v : ℕ) → v < length ps → (meets_top ps v ≡ false) ↔ ((k u : ℕ) → up ps k v ≡ some u → word ps u ≡ top_mark → ⊥)
  loop-iff-never v h = (lost-never ps small v, never-lost ps v h)

  module _ (tree : Tree ps) where
    -- depth: the top's is 0, any other entry's is its parent's plus 1
    pub depth-top : (v : ℕ) → v < length ps → parent ps v ≡ none → depth ps v ≡ 0
    depth-top = depths.depth-top ps small tree

    pub depth-parent : (v p : ℕ) → parent ps v ≡ some p → depth ps v ≡ suc (depth ps p)
    depth-parent = depths.depth-parent ps small tree

    -- `level_ancestor` gives 003's level ancestor, of which there is one at most
    pub level-iff : (v d u : ℕ) → (level_ancestor ps v d ≡ some u) ↔ LevelAncestor ps v d u
    level-iff v d u = (depths.level-sound ps small tree v d u, depths.level-complete ps small tree v d u)

    pub level-unique : (v d u w : ℕ) → LevelAncestor ps v d u → LevelAncestor ps v d w → u ≡ w
    level-unique v d u w a b = some-injective u w (sym ((level-iff v d u).1 a) ∙ (level-iff v d w).1 b)

    -- it is undefined exactly where d exceeds the depth
    pub undefined-iff-deep : (v d : ℕ) → v < length ps → (level_ancestor ps v d ≡ none) ↔ (depth ps v < d)
    undefined-iff-deep v d h = (depths.level-undefined ps small tree v d h, depths.level-deep ps small tree v d)
