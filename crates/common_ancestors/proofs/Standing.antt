-- Where the search stands before each try. Assumes nothing.
use mathlib.Core.List.{List}
use Prim.Native.Nat.{ℕ, ◌+◌, ◌-◌, ◌*◌, ◌≤◌, ◌<◌}
use Rattle.tree.specs.Level.{Ancestor}
use Rattle.common_ancestors.specs.Parts.{first_tries, Given}
use Rattle.common_ancestors.proofs.Halving.{Few}
use Rattle.common_ancestors.proofs.Narrowing.{Narrowed}

-- where the numbers of climbs stand
pub record Stands (n da low high word k tries : ℕ) : Type 0 where
  pub over : low ≤ k
  pub half : 2 * k ≤ low + high
  pub most : high ≤ da
  pub middle : first_tries ≤ tries → low + high ≤ 2 * k + 1
  pub few : Few tries (high - low)
  pub entry : word < n

abbrev pub Narrows : List ℕ → ℕ → ℕ → ℕ → ℕ → ℕ → ℕ → ℕ → Type 0
Narrows t n a b da low high word = (ps : List ℕ) → Given ps t n a b da → (Ancestor ps a b → ⊥) → Narrowed ps a b low high word
