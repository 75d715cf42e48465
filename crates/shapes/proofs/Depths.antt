-- Depths that go as a group's do, each below the root's and at most one more than the one before, are those of a forest. Assumes nothing.
use mathlib.Core.Path.{◌≡◌, refl, ap, subst, ◌∙◌}
use mathlib.Core.List.{List, [], ◌∷◌, ◌++◌, map, append_assoc}
use Prim.Native.Nat.{ℕ, zero, suc, ◌+◌, ◌-◌}
use native.Mathlib.Omega.{arith}
use native.Mathlib.Nat.{add-zero, add-suc}
use Rattle.tree.specs.Forest.{Forest, empty, node, levels}
use Rattle.shapes.proofs.Turns.{Goes}

-- below a root of depth d: these depths are those of a forest from level c on, and then of one at each level above it
abbrev Spread : ℕ → ℕ → List ℕ → Type 0
Spread d zero ds = (f : Forest) × (ds ≡ levels (suc d) f)
Spread d (suc c) ds = (f : Forest) × (rest : List ℕ) × (ds ≡ levels (suc (suc (d + c))) f ++ rest) × Spread d c rest

module _ (d : ℕ) where
  none : (c : ℕ) → Spread d c []
  unfolding levels
  none zero = (empty, refl)
  none (suc c) = (empty, [], refl, none c)

  -- from a deeper level on
  deeper : (ds : List ℕ) (k m : ℕ) → Spread d k ds → Spread d (k + m) ds
  unfolding levels
  deeper ds k zero s = rw add-zero s
  deeper ds k (suc m) s = rw add-suc (empty, ds, refl, deeper ds k m s)

  -- an entry of the level above takes the first of the forests
  planted : (ds : List ℕ) (k : ℕ) → Spread d (suc k) ds → Spread d k (suc (d + k) ∷ ds)
  unfolding levels
  planted ds zero (f, rest, e, (later, q)) = rw add-zero (node 0 f later, ap (◌∷◌ (suc d)) (rw add-zero at e ∙ rw q))
  planted ds (suc k) (f, rest, e, (later, rest', q, s)) =
      rw add-suc (node 0 f later, rest', ap (◌∷◌ (suc (suc (d + k)))) (rw add-suc at e ∙ rw (q, append_assoc)), s)

  spread : (c : ℕ) (ds : List ℕ) → Goes c (map (λ e. e - d) ds) → Spread d c ds
  spread c [] g = none c
  spread c (e ∷ ds) g =
      let k : e - d ≡ suc (e - d - 1) = omega (arith, g.0) in
      let here : suc (d + (e - d - 1)) ≡ e = omega arith in
      let up : e - d - 1 + (c - (e - d - 1)) ≡ c = omega (arith, g.1) in
      let s : Spread d (e - d - 1) (suc (d + (e - d - 1)) ∷ ds) = planted ds (e - d - 1) (spread (suc (e - d - 1)) ds (subst (λ (n : ℕ). Goes n (map (λ e. e - d) ds)) k g.2)) in
      subst (λ (n : ℕ). Spread d n (e ∷ ds)) up (deeper (e ∷ ds) (e - d - 1) (c - (e - d - 1)) (subst (λ (n : ℕ). Spread d (e - d - 1) (n ∷ ds)) here s))

  pub goes-forest : (ds : List ℕ) → Goes 0 (map (λ e. e - d) ds) → (f : Forest) × (ds ≡ levels (suc d) f)
  goes-forest ds g = spread 0 ds g
