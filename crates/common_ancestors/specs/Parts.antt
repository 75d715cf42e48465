-- What the parts of the questions hand on. Assumes nothing.
use Rattle.std.specs.Prelude.{◌≡◌, ◌⊎◌, List, Bool, true, false, ℕ, ◌+◌, ◌-◌, ◌*◌, ◌<◌, ◌≤◌, length, Option, Some, None, IfSome}
use Rattle.std.proofs.Math.Option.{some}
use Rattle.base.specs.Numbers.{Outcome}
use Rattle.base.specs.declared.Node.{Node}
use Rattle.tree.specs.Parents.{up, depth}
use Rattle.tree.specs.Level.{Ancestor}
use Rattle.table.specs.Preparing.{Prepared}
use Rattle.common_ancestors.specs.Common.{Nearest, nearest_of, distance_of}
use Rattle.common_ancestors.specs.Promises.{class_bound, climb_bound, Shares, Counts}
use Rattle.common_ancestors.specs.declared.Sought.{Sought}
use Rattle.common_ancestors.specs.declared.Sought.TheVariants.{Class, Climbs}
use Rattle.common_ancestors.specs.declared.search.Ends.{Ends}
use Rattle.common_ancestors.specs.declared.search.Shared.{Shared}
use Rattle.common_ancestors.specs.declared.trial.Trial.{Trial}

-- how many entries of a climb are tried with strides that grow, and how many at the most: each further try halves what is left of less than 2^20
abbrev pub first_tries : ℕ
first_tries = 3

abbrev pub most_tries : ℕ
most_tries = first_tries + 20

-- of either question: what its result is less than, of n entries; which it is of class and climbs; what it means; what is found
abbrev pub bound : Sought → ℕ → ℕ
bound Class = class_bound
bound Climbs = climb_bound

abbrev pub chosen : Sought → ℕ → ℕ → ℕ
chosen Class class climbs = class
chosen Climbs class climbs = climbs

abbrev pub meaning : Sought → List ℕ → ℕ → ℕ → Outcome
meaning Class = nearest_of
meaning Climbs = distance_of

abbrev pub Answered : Sought → List ℕ → ℕ → ℕ → Outcome → Type 0
Answered Class = Shares
Answered Climbs = Counts

-- a table of n entries was prepared from ps
pub record Of (ps t : List ℕ) (n : ℕ) : Type 0 where
  pub prepared : Prepared ps t
  pub count : n ≡ length ps

-- a search is from entry a of depth da, towards entry b
pub record Given (ps t : List ℕ) (n a b da : ℕ) : Type 0 where
  pub of : Of ps t n
  pub deep : da ≡ depth ps a
  pub first : a < n
  pub second : b < n

-- whether w is at or above b was told
pub record Tells (ps : List ℕ) (w b : ℕ) (above : Bool) : Type 0 where
  pub yes : above ≡ true → Ancestor ps w b
  pub no : above ≡ false → Ancestor ps w b → ⊥

-- the entry x was tried
abbrev pub Tried : List ℕ → ℕ → ℕ → Option Trial → Type 0
Tried ps x b None = ⊥
Tried ps x b (Some r) = (r.entry.0 ≡ x) × Tells ps x b r.above

-- u and v of those depths, the less deep first
abbrev pub Ordered : Node → Node → ℕ → ℕ → Ends → Type 0
Ordered u v du dv r =
    ((du ≤ dv) × (r ≡ record { first = u; second = v; depth = du; below = dv - du })) ⊎ ((dv < du) × (r ≡ record { first = v; second = u; depth = dv; below = du - dv }))

-- what was found, if it was: an entry of n, and no more climbs than da
abbrev pub Settled : ℕ → ℕ → Option Shared → Type 0
Settled n da o = IfSome o (λ r. (r.class.0 < n) × (r.climbs ≤ da))

-- a search reached the nearest common ancestor of a and b by its climbs from a
pub record Reached (ps : List ℕ) (a b : ℕ) (r : Shared) : Type 0 where
  pub reached : up ps r.climbs a ≡ some r.class.0
  pub nearest : Nearest ps a b r.class.0

abbrev pub Reaches : List ℕ → ℕ → ℕ → Option Shared → Type 0
Reaches ps a b None = ⊥
Reaches ps a b (Some r) = Reached ps a b r

-- what u and v share, and the climbs between them
pub record Between (ps : List ℕ) (u v : ℕ) (r : Shared) : Type 0 where
  pub nearest : Nearest ps u v r.class.0
  pub climbs : r.climbs ≡ depth ps u + depth ps v - 2 * depth ps r.class.0

abbrev pub ClassAndClimbs : List ℕ → ℕ → ℕ → Option Shared → Type 0
ClassAndClimbs ps u v None = ⊥
ClassAndClimbs ps u v (Some r) = Between ps u v r
