-- Theorem 1 of 003: one jump and one ladder reach a level ancestor. And Observation 7: the jumps of a node below serve. Assumes nothing.
use mathlib.Core.Path.{◌≡◌, sym, ap, ◌∙◌}
use mathlib.Core.List.{List, flatten}
use mathlib.Core.Option.{some}
use Prim.Native.Nat.{ℕ, suc, ◌+◌, ◌-◌, ◌^◌, ◌≤◌, ◌<◌}
use native.Mathlib.Omega.{arith}
use lib.ListN.{length, get_or}
use Rattle.base.specs.Limits.{top_mark}
use Rattle.tree.specs.Parents.{up, depth}
use Rattle.tree.specs.Faults.{Tree}
use Rattle.tree.specs.Level.{Ancestor}
use Rattle.tree.proofs.Climbs.{up_from, up-add}
use Rattle.tree.proofs.Depths.{up_depth, up-some}
use Rattle.tree.proofs.Intervals.{height-up}
use Rattle.table.specs.Ladders.{ladders, lad_pos}
use Rattle.climbs.proofs.Ladders.{lemma-5}

module _ (ps : List ℕ) (small : length ps ≤ top_mark) (tree : Tree ps) where
  -- x climbs from j reach u. The jump goes up 2^e, the largest power not above x, to w; then u is on w's ladder
  pub theorem-1 : (j x e u : ℕ) → up ps x j ≡ some u → 2 ^ e ≤ x → x < 2 ^ suc e
      → (w : ℕ) × (up ps (2 ^ e) j ≡ some w) × (x - 2 ^ e ≤ lad_pos ps w) × (get_or (flatten (ladders ps)) (lad_pos ps w - (x - 2 ^ e)) 0 ≡ u)
  theorem-1 j x e u q lo hi =
      let h = up_from ps x j u q in
      let (w, a) = up-some ps small tree (2 ^ e) j h (omega (arith, up_depth ps small tree x j u q)) in
      let z : 2 ^ e + (x - 2 ^ e) ≡ x = omega arith in
      let rest : up ps (x - 2 ^ e) w ≡ some u = sym (up-add ps (2 ^ e) (x - 2 ^ e) j w a) ∙ ap (λ k. up ps k j) z ∙ q in
      let high = height-up ps small tree (2 ^ e) j w a in
      let (b, c) = lemma-5 ps small tree w (x - 2 ^ e) u (omega arith) rest in
      (w, a, b, c)

  -- an ancestor of v at depth d, by the climbs of a node j below v: as many more as j is deeper
  pub observation-7 : (j v d u : ℕ) → Ancestor ps v j → d ≤ depth ps v → up ps (depth ps v - d) v ≡ some u
      → (depth ps v ≤ depth ps j) × (up ps (depth ps j - d) j ≡ some u)
  observation-7 j v d u a b q =
      let s = up_depth ps small tree a.climbs j v a.reached in
      let z : depth ps j - d ≡ a.climbs + (depth ps v - d) = omega arith in
      (omega arith, ap (λ k. up ps k j) z ∙ up-add ps a.climbs (depth ps v - d) j v a.reached ∙ q)
