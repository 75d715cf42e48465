-- What two entries share, on the parent list alone (2026-07): the nearest common ancestor of source document 000, and the climbs between two entries through it.
-- Assumes nothing.
use Rattle.std.specs.Prelude.{cond, List, ℕ, ◌+◌, length, leb}
use Rattle.std.proofs.Math.Option.{Option, Option-elim, map}
use Rattle.base.specs.Lists.{first, has, place}
use Rattle.base.specs.Numbers.{Outcome, accepted, unknown, broken}
use Rattle.tree.specs.Parents.{climb}
use Rattle.tree.specs.Level.{Ancestor}

-- "the first entry on both climbs to the top": the first of u's climb that is on v's. It is the paper's class that two barns share
unfoldable pub nearest_common_ancestor : List ℕ → ℕ → ℕ → Option ℕ
nearest_common_ancestor ps u v = first (has (climb ps v)) (climb ps u)

-- how many climbs lead from v to w, an entry of v's climb
abbrev pub climbs_to : List ℕ → ℕ → ℕ → ℕ
climbs_to ps v w = place w (climb ps v)

-- "the number of climbs between two entries through that class": from u to it, and from v to it
unfoldable pub distance : List ℕ → ℕ → ℕ → Option ℕ
distance ps u v = map (λ w. climbs_to ps u w + climbs_to ps v w) (nearest_common_ancestor ps u v)

-- the field's definition: w is on both climbs, and every entry on both climbs is w or above it
pub record Nearest (ps : List ℕ) (u v w : ℕ) : Type 0 where
  pub above-first : Ancestor ps w u
  pub above-second : Ancestor ps w v
  pub lowest : (x : ℕ) → Ancestor ps x u → Ancestor ps x v → Ancestor ps x w

-- of n entries: 7 with the first argument that is none, else o
unfoldable pub both_known : ℕ → ℕ → ℕ → Outcome → Outcome
both_known n u v o = cond (leb n u) (unknown u) (cond (leb n v) (unknown v) o)

-- what a question about two entries means: what is found. Two entries of one tree share one, so that there 9 does not come
unfoldable pub of_both : List ℕ → ℕ → ℕ → Option ℕ → Outcome
of_both ps u v found = both_known (length ps) u v (Option-elim found broken accepted)

abbrev pub nearest_of : List ℕ → ℕ → ℕ → Outcome
nearest_of ps u v = of_both ps u v (nearest_common_ancestor ps u v)

abbrev pub distance_of : List ℕ → ℕ → ℕ → Outcome
distance_of ps u v = of_both ps u v (distance ps u v)
