-- What two entries share, in a list that forms one tree. Assumes nothing.
use mathlib.Core.Path.{◌≡◌, sym, ap, ◌∙◌}
use mathlib.Core.Logic.{◌↔◌}
use mathlib.Core.List.{List}
use mathlib.Core.Option.{some, some-injective}
use Prim.Native.Nat.{ℕ, ◌+◌, ◌-◌, ◌*◌, ◌≤◌, ◌<◌}
use native.Mathlib.Omega.{arith}
use native.Mathlib.Decide.{ℕ_discrete}
use lib.ListN.{length}
use Rattle.base.specs.Limits.{top_mark}
use Rattle.tree.specs.Parents.{depth}
use Rattle.tree.specs.Level.{Ancestor}
use Rattle.tree.specs.Faults.{Tree}
use Rattle.tree.proofs.Depths.{up_depth}
use Rattle.tree.proofs.Intervals.{ancestor-in, ancestor-self}
use Rattle.tree.proofs.Ancestry.{strictly-deeper}
use Rattle.common_ancestors.specs.Common.{nearest_common_ancestor, distance, Nearest}
use Rattle.common_ancestors.proofs.Climbs.{place_up, nearest-defined}

pub nearest-turned : (ps : List ℕ) (u v w : ℕ) → Nearest ps u v w → Nearest ps v u w
nearest-turned ps u v w n = record { above-first = n.above-second; above-second = n.above-first; lowest = λ x a b. n.lowest x b a }

module _ (ps : List ℕ) (small : length ps ≤ top_mark) (tree : Tree ps) where
  -- an ancestor that is as deep is the entry itself
  as-deep : (x y : ℕ) → Ancestor ps x y → depth ps y ≤ depth ps x → x ≡ y
  as-deep x y a h = go (ℕ_discrete x y)
    where
      go : Dec (x ≡ y) → x ≡ y
      go (yes e) = e
      go (no n) = absurd (omega (arith, strictly-deeper ps small tree x y a n))

  -- definition 1.2 of 000: of the entries on both climbs the nearest common ancestor is the deepest, and no other is as deep
  pub nearest-deepest : (u v w x : ℕ) → Nearest ps u v w → Ancestor ps x u → Ancestor ps x v → (depth ps x ≤ depth ps w) × (depth ps x ≡ depth ps w → x ≡ w)
  nearest-deepest u v w x n a b =
      let c = n.lowest x a b in
      (omega (arith, up_depth ps small tree c.climbs w x c.reached), λ e. as-deep x w c (omega (arith, e)))

  nearest-one : (u v w x : ℕ) → Nearest ps u v w → Nearest ps u v x → w ≡ x
  nearest-one u v w x a b =
      let up = nearest-deepest u v w x a b.above-first b.above-second in
      let down = nearest-deepest u v x w b a.above-first a.above-second in
      down.1 (omega (arith, up.0, down.0))

  -- the first entry on both climbs is on both, and every entry on both is at or above it; no other is so
  pub nearest-iff : (u v w : ℕ) → u < length ps → v < length ps → (nearest_common_ancestor ps u v ≡ some w) ↔ Nearest ps u v w
  nearest-iff u v w hu hv =
      let (x, (e, n)) = nearest-defined ps small tree u v hu hv in
      (λ q. let z : x ≡ w = some-injective x w (sym e ∙ q) in rw z at n, λ m. e ∙ ap some (nearest-one u v x w n m))

  pub nearest-symmetric : (u v : ℕ) → u < length ps → v < length ps → nearest_common_ancestor ps u v ≡ nearest_common_ancestor ps v u
  nearest-symmetric u v hu hv = let (w, (e, n)) = nearest-defined ps small tree u v hu hv in e ∙ sym ((nearest-iff v u w hv hu).1 (nearest-turned ps u v w n))

  -- "an entry above the other is the answer", in either order
  pub nearest-above : (u v : ℕ) → Ancestor ps u v → Nearest ps u v u
  nearest-above u v a = record { above-first = ancestor-self ps small tree u (ancestor-in ps small tree u v a).0; above-second = a; lowest = λ x b c. b }

  pub above-answers : (u v : ℕ) → Ancestor ps u v → (nearest_common_ancestor ps u v ≡ some u) × (nearest_common_ancestor ps v u ≡ some u)
  above-answers u v a =
      let (hu, hv) = ancestor-in ps small tree u v a in
      let e = (nearest-iff u v u hu hv).1 (nearest-above u v a) in
      (e, sym (nearest-symmetric u v hu hv) ∙ e)

  -- "two equal entries share themselves"
  pub equal-share : (v : ℕ) → v < length ps → nearest_common_ancestor ps v v ≡ some v
  equal-share v h = (above-answers v v (ancestor-self ps small tree v h)).0

  -- the climbs between two entries, by depths
  pub distance-depths : (u v w : ℕ) → u < length ps → v < length ps → Nearest ps u v w
      → (depth ps w ≤ depth ps u) × (depth ps w ≤ depth ps v) × (distance ps u v ≡ some (depth ps u + depth ps v - 2 * depth ps w))
  unfolding distance
  distance-depths u v w hu hv n =
      let a = n.above-first in
      let b = n.above-second in
      let p = up_depth ps small tree a.climbs u w a.reached in
      let q = up_depth ps small tree b.climbs v w b.reached in
      let z : a.climbs + b.climbs ≡ depth ps u + depth ps v - 2 * depth ps w = omega arith in
      (omega arith, omega arith, rw ((nearest-iff u v w hu hv).1 n, place_up ps small tree a.climbs u w a.reached, place_up ps small tree b.climbs v w b.reached) (ap some z))

  pub distance-symmetric : (u v : ℕ) → u < length ps → v < length ps → distance ps u v ≡ distance ps v u
  distance-symmetric u v hu hv =
      let (w, (e, n)) = nearest-defined ps small tree u v hu hv in
      let z : depth ps u + depth ps v - 2 * depth ps w ≡ depth ps v + depth ps u - 2 * depth ps w = omega arith in
      (distance-depths u v w hu hv n).2 ∙ ap some z ∙ sym (distance-depths v u w hv hu (nearest-turned ps u v w n)).2

  -- it is 0 just where the entries are equal
  pub distance-zero-iff : (u v : ℕ) → u < length ps → v < length ps → (distance ps u v ≡ some 0) ↔ (u ≡ v)
  distance-zero-iff u v hu hv = (apart, λ z. rw z (itself v hv))
    where
      itself : (v : ℕ) → v < length ps → distance ps v v ≡ some 0
      itself v h =
          let z : depth ps v + depth ps v - 2 * depth ps v ≡ 0 = omega arith in
          (distance-depths v v v h h (nearest-above v v (ancestor-self ps small tree v h))).2 ∙ ap some z

      apart : distance ps u v ≡ some 0 → u ≡ v
      apart q =
          let (w, (e, n)) = nearest-defined ps small tree u v hu hv in
          let (a, b, r) = distance-depths u v w hu hv n in
          let z : depth ps u + depth ps v - 2 * depth ps w ≡ 0 = some-injective _ _ (sym r ∙ q) in
          sym (as-deep w u n.above-first (omega arith)) ∙ as-deep w v n.above-second (omega arith)
