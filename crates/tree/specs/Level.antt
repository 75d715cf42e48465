-- The level ancestor of 003, section 2, and the class by which an entry is rated. Assumes nothing.
use Rattle.std.specs.Prelude.{◌≡◌, List, cond, ℕ, ◌-◌, ◌<◌, length, leb}
use Rattle.std.proofs.Math.Option.{Option, none, some}
use Rattle.tree.specs.Parents.{up, depth}

-- u is an ancestor of v: some climbs from v reach u. An entry is its own ancestor, by no climb
pub record Ancestor (ps : List ℕ) (u v : ℕ) : Type 0 where
  pub climbs : ℕ
  pub reached : up ps climbs v ≡ some u

-- u is LA(v, d): an ancestor of v whose depth is d
pub record LevelAncestor (ps : List ℕ) (v d u : ℕ) : Type 0 where
  pub ancestor : Ancestor ps u v
  pub depth_is : depth ps u ≡ d

-- LA(v, d) as a function, undefined where there is no such ancestor
unfoldable pub level_ancestor : List ℕ → ℕ → ℕ → Option ℕ
level_ancestor ps v d = cond (leb d (depth ps v)) (up ps (depth ps v - d) v) none

-- u is the class by which entry v is rated at rating level d: "the class at depth d, or the entry where its depth is less than d" (2026-04)
pub data RatingClass (ps : List ℕ) (v d : ℕ) : ℕ → Type 0 where
  at_level : (u : ℕ) → LevelAncestor ps v d u → RatingClass ps v d u
  itself : v < length ps → depth ps v < d → RatingClass ps v d v
