-- The walk round a group by the depths of its entries: ups to the next entry's parent, and a down. Assumes nothing.
use mathlib.Core.Path.{◌≡◌, sym, subst⁻¹}
use mathlib.Core.List.{List, [], ◌∷◌, ◌++◌, append-nil, append_assoc}
use Prim.Native.Nat.{ℕ, suc, ◌+◌, ◌-◌, ◌≤◌, ◌<◌}
use native.Mathlib.Omega.{arith}
use lib.ListN.{replicate, replicate-append-replicate}
use Rattle.tree.specs.Forest.{Forest, empty, node}
use Rattle.shapes.specs.Walks.{down, up, Walk, walk_round}
use Rattle.tree.specs.Forest.{levels}

-- the walk from an entry at depth d on, by the depths of the entries to come in preorder
abbrev pub walk_from : ℕ → List ℕ → Walk
walk_from d [] = replicate d up
walk_from d (e ∷ ds) = replicate (suc d - e) up ++ (down ∷ walk_from e ds)

-- each depth to come is below the root's, and at most one more than the depth before it
abbrev pub Goes : ℕ → List ℕ → Type 0
Goes d [] = Unit
Goes d (e ∷ ds) = (0 < e) × (e ≤ suc d) × Goes e ds

-- from a deeper entry more can come
goes-deeper : (c d : ℕ) (ds : List ℕ) → d ≤ c → Goes d ds → Goes c ds
goes-deeper c d [] h g = tt
goes-deeper c d (e ∷ ds) h g = (g.0, omega (arith, g.1), g.2)

-- the depths of a forest, where the last entry before it has depth c and the first level depth d + 1
goes-join : (f : Forest) (c d : ℕ) (rest : List ℕ) → d ≤ c → Goes d rest → Goes c (levels (suc d) f ++ rest)
unfolding levels
goes-join empty c d rest h g = goes-deeper c d rest h g
goes-join (node v b later) c d rest h g =
    let low : Goes (suc d) (levels (suc d) later ++ rest) = goes-join later (suc d) d rest (omega arith) g in
    (omega arith, omega arith, subst⁻¹ (Goes (suc d)) (append_assoc (levels (suc (suc d)) b) (levels (suc d) later) rest) (goes-join b (suc d) (suc d) (levels (suc d) later ++ rest) (omega arith) low))

pub goes-levels : (f : Forest) → Goes 0 (levels 1 f)
goes-levels f = rw append-nil at (goes-join f 0 0 [] (omega arith) tt)

-- the ups from depth c to what comes after an entry of depth d
ups-join : (c d : ℕ) (rest : List ℕ) → d ≤ c → Goes d rest → walk_from c rest ≡ replicate (c - d) up ++ walk_from d rest
ups-join c d [] h g =
    let z : c - d + d ≡ c = omega arith in
    rw (replicate-append-replicate, z)
ups-join c d (e ∷ ds) h g =
    let z : c - d + (suc d - e) ≡ suc c - e = omega (arith, g.1) in
    rw (← append_assoc, replicate-append-replicate, z)

-- the walk that passes a forest and goes on
walk-join : (f : Forest) (c d : ℕ) (rest : List ℕ) → d ≤ c → Goes d rest → walk_from c (levels (suc d) f ++ rest) ≡ replicate (c - d) up ++ (walk_round f ++ walk_from d rest)
unfolding levels walk_round
walk-join empty c d rest h g = ups-join c d rest h g
walk-join (node v b later) c d rest h g =
    let low : Goes (suc d) (levels (suc d) later ++ rest) = goes-join later (suc d) d rest (omega arith) g in
    let k : suc c - suc d ≡ c - d = omega arith in
    let none : suc d - suc d ≡ 0 = omega arith in
    let one : suc d - d ≡ 1 = omega arith in
    let first : walk_from (suc d) (levels (suc (suc d)) b ++ (levels (suc d) later ++ rest)) ≡ walk_round b ++ walk_from (suc d) (levels (suc d) later ++ rest) =
    rw none at (walk-join b (suc d) (suc d) (levels (suc d) later ++ rest) (omega arith) low) in
    let next : walk_from (suc d) (levels (suc d) later ++ rest) ≡ up ∷ (walk_round later ++ walk_from d rest) = rw one at (walk-join later (suc d) d rest (omega arith) g) in
    rw (k, append_assoc (levels (suc (suc d)) b) (levels (suc d) later) rest, first, next, append_assoc (walk_round b) (up ∷ walk_round later) (walk_from d rest))

pub walk-levels : (f : Forest) → walk_round f ≡ walk_from 0 (levels 1 f)
walk-levels f = rw (← append-nil (walk_round f), ← append-nil (levels 1 f)) (sym (walk-join f 0 0 [] (omega arith) tt))
