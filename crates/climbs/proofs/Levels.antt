-- On a prepared table the way down from step 2 ends at the level ancestor. Assumes nothing.
use mathlib.Core.Path.{◌≡◌, refl, sym, ap, ◌∙◌}
use mathlib.Core.List.{List}
use mathlib.Core.Bool.{Bool, true, false}
use mathlib.Core.Option.{some, get_or}
use Prim.Native.Nat.{ℕ, suc, ◌+◌, ◌-◌, ◌/◌, ◌%◌, ◌^◌, ◌≤◌, ◌<◌}
use native.Mathlib.Omega.{arith}
use native.Mathlib.Decide.{ℕ_discrete, dec_le}
use lib.ListN.{length}
use Rattle.base.specs.Numbers.{accepted}
use Rattle.base.specs.Limits.{group_limit, shape_count, micro_mark, kind_cell, shape_cell, top_mark}
use Rattle.base.proofs.Exponents.{exponent-iff, exponent-low, exponent-some}
use Rattle.tree.specs.Parents.{parent, up, depth}
use Rattle.tree.specs.Forest.{under, position}
use Rattle.shapes.specs.Walks.{walk_round, shape_number}
use Rattle.shapes.specs.Climbs.{reached, local_depth, mark}
use Rattle.tree.proofs.Climbs.{entry-some, up_in, up_from, up_first, up-add}
use Rattle.tree.proofs.Depths.{up_depth, depth-parent}
use Rattle.tree.proofs.Intervals.{depth-less, family-room}
use Rattle.shapes.proofs.Rule.{shape-count}
use Rattle.table.specs.Ladders.{lad_pos}
use Rattle.table.specs.Groups.{micro, micro_kind, macro_kind, kind}
use Rattle.table.specs.Preparing.{Prepared}
use Rattle.answers.specs.Reading.{done, read, if_eq, run, word_at}
use Rattle.answers.specs.Steps.{from_jump, from_group, after_kind, ancestor_at}
use Rattle.answers.proofs.Runs.{run-done, run-read, run-le, run-not-le, run-eq, run-not-eq}
use Rattle.answers.proofs.KnownWords.{jump_known, group-known, parent-known, above-known}
use Rattle.climbs.proofs.Ladders.{ladpos-in}
use Rattle.climbs.proofs.Room.{ladders-fit}
use Rattle.climbs.proofs.Jumps.{macro-jump, jumps-room}
use Rattle.climbs.proofs.Groups.{Grouped, grouped, groups-few, root-parent}
use Rattle.climbs.proofs.Microtrees.{root-depth, shape-small, local-self, local-climb, local-depth}
use Rattle.climbs.proofs.OneJump.{theorem-1, observation-7}
use Rattle.climbs.proofs.TableWords.{few, tree, small, kind-word, ladpos-word, order-word, ladder-word, position-word, shape-word, parent-word, jump-depth-word, ancestor-word}

-- KIND of a micro node, and of another
module _ (ps : List ℕ) (v : ℕ) where
  micro-is : micro group_limit ps v ≡ true → kind group_limit ps v ≡ micro_kind group_limit ps v
  unfolding kind
  micro-is e = rw e

  macro-is : micro group_limit ps v ≡ false → kind group_limit ps v ≡ macro_kind group_limit ps v
  unfolding kind
  macro-is e = rw e

module _ (ps t : List ℕ) (p : Prepared ps t) where
  -- step 4, from the jump node below a macro node v: the ancestor of v at depth d
  pub jump-run : (v d u : ℕ) → v < length ps → micro group_limit ps v ≡ false → d < depth ps v → up ps (depth ps v - d) v ≡ some u
      → run t (from_jump (length ps) d (macro_kind group_limit ps v)) ≡ accepted u
  jump-run v d u h m b q =
      let i = macro_kind group_limit ps v in
      let (f, (j, at, hj, jn, a)) = macro-jump ps (small ps t p) (tree ps t p) group_limit v h m in
      let (s, far) = observation-7 ps (small ps t p) (tree ps t p) j v d u a (omega arith) q in
      let x = depth ps j - d in
      let deep = depth-less ps (small ps t p) (tree ps t p) j hj in
      let most = few ps t p in
      let (e, g) = exponent-some x (omega arith) (omega arith) in
      let (lo, hi) = (exponent-iff x e (omega arith)).0 g in
      let (e20, _) = exponent-low 20 x e (omega arith) (omega arith) g in
      let (w, jump, back, is) = theorem-1 ps (small ps t p) (tree ps t p) j x e u far lo hi in
      let hw = up_in ps (2 ^ e) j w jump in
      let rung = ladpos-in ps (small ps t p) (tree ps t p) w hw in
      let fit = ladders-fit ps (small ps t p) (tree ps t p) in
      let room = jumps-room ps (small ps t p) (tree ps t p) group_limit in
      jump_known t (length ps) d u i (depth ps j) e w (lad_pos ps w) (omega arith)
      (jump-depth-word ps t p i j f at) deep (omega arith) g
      (ancestor-word ps t p i j f at e e20 ∙ ap (λ o. get_or o 0) jump) hw
      (ladpos-word ps t p w hw) back (omega arith)
      (ladder-word ps t p (lad_pos ps w - (x - 2 ^ e)) (omega arith) ∙ is) (up_in ps x j u far)

  -- step 3: v has local number l in the group g of root r
  module _ (v r g l d u : ℕ) (m : Grouped group_limit ps v r g l) (b : d < depth ps v) (q : up ps (depth ps v - d) v ≡ some u) where
    shape : ℕ
    shape = shape_number group_limit (walk_round (under ps r))

    local-is : local_depth group_limit shape l ≡ depth ps v - depth ps r
    unfolding shape
    local-is = local-depth ps (small ps t p) (tree ps t p) group_limit v r g l m

    shape_is : word_at t (shape_cell (length ps) g) ≡ shape
    unfolding shape
    shape_is = shape-word ps t p g r m.number m.listed

    group-in : g < length ps
    group-in = omega (arith, m.number, groups-few ps (small ps t p) (tree ps t p) group_limit)

    shape-low : shape < shape_count
    unfolding shape
    shape-low = omega (arith, shape-small ps (small ps t p) (tree ps t p) group_limit v r g l m, shape-count)

    self : reached group_limit shape l 0 ≡ some l
    unfolding shape
    self = local-self ps (small ps t p) (tree ps t p) group_limit v r g l m

    -- the answer is in the group
    within-run : depth ps r ≤ d → run t (from_group (length ps) d (depth ps v) g l) ≡ accepted u
    unfolding shape
    within-run near =
        let k = depth ps v - d in
        let (j, s, at, c) = local-climb ps (small ps t p) (tree ps t p) group_limit v r g l m k u (omega arith) q in
        let room = family-room ps (small ps t p) (tree ps t p) r m.entry in
        let z : mark (reached group_limit shape l k) ≡ j = ap (λ o. get_or o 255) s in
        group-known t (length ps) d u (depth ps v) g l shape l group-in shape_is shape-low self
        (position ps r) (omega (arith, local-is)) (position-word ps t p g r m.number m.listed) (omega arith)
        (rw z (order-word ps t p (position ps r + j) (omega arith) ∙ at)) (up_in ps k v u q)

    -- the answer is above the group: its root has a parent, whose climbs lead to the answer
    over : d < depth ps r → (a : ℕ) × (parent ps r ≡ some a) × (depth ps r ≡ suc (depth ps a)) × (up ps (depth ps a - d) a ≡ some u)
    over far =
        let c = m.above.climbs in
        let s = up_depth ps (small ps t p) (tree ps t p) c v r m.above.reached in
        let z : depth ps v - d ≡ c + suc (depth ps r - suc d) = omega arith in
        let up-r = sym (up-add ps c (suc (depth ps r - suc d)) v r m.above.reached) ∙ ap (λ k. up ps k v) (sym z) ∙ q in
        let (a, e, f) = up_first ps (depth ps r - suc d) r u up-r in
        let deeper = depth-parent ps (small ps t p) (tree ps t p) r a e in
        let y : depth ps r - suc d ≡ depth ps a - d = omega arith in
        (a, e, deeper, ap (λ k. up ps k a) (sym y) ∙ f)

    past-run : (a : ℕ) → parent ps r ≡ some a → depth ps r ≡ suc (depth ps a) → up ps (depth ps a - d) a ≡ some u → d < depth ps r → Dec (depth ps a ≡ d)
        → run t (from_group (length ps) d (depth ps v) g l) ≡ accepted u
    unfolding up
    past-run a e s f far (yes z) =
        let near = root-depth ps (small ps t p) (tree ps t p) group_limit v r g l m in
        let y : depth ps a - d ≡ 0 = omega arith in
        let (same, hu) = entry-some ps a u (rw y at f) in
        parent-known t (length ps) d u (depth ps v) g l shape l group-in shape_is shape-low self
        (omega (arith, local-is)) (parent-word ps t p g r m.number m.listed ∙ ap (λ o. get_or o top_mark) e ∙ same) hu (omega (arith, local-is))
    past-run a e s f far (no z) =
        let near = root-depth ps (small ps t p) (tree ps t p) group_limit v r g l m in
        let ha = up_from ps (depth ps a - d) a u f in
        let big = root-parent group_limit ps r a m.root e in
        let (low, _) = macro-jump ps (small ps t p) (tree ps t p) group_limit a ha big in
        let room = jumps-room ps (small ps t p) (tree ps t p) group_limit in
        above-known t (length ps) d u (depth ps v) g l shape l group-in shape_is shape-low self
        a (macro_kind group_limit ps a)
        (omega (arith, local-is)) (parent-word ps t p g r m.number m.listed ∙ ap (λ o. get_or o top_mark) e) ha (λ w. z (omega (arith, local-is)))
        (kind-word ps t p a ha ∙ macro-is ps a big) (omega (arith, few ps t p)) (jump-run a d u ha big (omega arith) f)

    pub group-run : run t (from_group (length ps) d (depth ps v) g l) ≡ accepted u
    group-run = go (dec_le (depth ps r) d)
      where
        go : Dec (depth ps r ≤ d) → run t (from_group (length ps) d (depth ps v) g l) ≡ accepted u
        go (yes near) = within-run near
        go (no far) =
            let (a, e, s, f) = over (omega arith) in
            past-run a e s f (omega arith) (ℕ_discrete (depth ps a) d)

  -- step 3, by KIND
  kinded-run : (v d u : ℕ) → v < length ps → d < depth ps v → up ps (depth ps v - d) v ≡ some u → (b : Bool) → micro group_limit ps v ≡ b
      → run t (after_kind (length ps) d (depth ps v) (kind group_limit ps v)) ≡ accepted u
  unfolding after_kind
  kinded-run v d u h b q true m =
      let (r, g, l, i) = grouped ps (small ps t p) (tree ps t p) group_limit v h m in
      let k = kind group_limit ps v in
      let e = micro-is ps v m ∙ i.kinded in
      let low : l < 8 = omega (arith, i.local, i.limit) in
      let zg : (k - micro_mark) / 8 ≡ g = omega arith in
      let zl : (k - micro_mark) % 8 ≡ l = omega arith in
      run-le t (accepted u) micro_mark k _ _ (omega arith) (rw (zg, zl) (group-run v r g l d u i b q))
  kinded-run v d u h b q false m =
      let k = kind group_limit ps v in
      let e = macro-is ps v m in
      let (low, _) = macro-jump ps (small ps t p) (tree ps t p) group_limit v h m in
      let room = jumps-room ps (small ps t p) (tree ps t p) group_limit in
      run-not-le t (accepted u) micro_mark k _ _ (omega (arith, few ps t p)) (rw e (jump-run v d u h m b q))

  -- steps 2 to 4: the ancestor of v at depth d
  pub ancestor-at-run : (v d u : ℕ) → v < length ps → d ≤ depth ps v → up ps (depth ps v - d) v ≡ some u → run t (ancestor_at (length ps) v d (depth ps v)) ≡ accepted u
  unfolding ancestor_at up
  ancestor-at-run v d u h b q = go (ℕ_discrete (depth ps v) d)
    where
      go : Dec (depth ps v ≡ d) → run t (if_eq (depth ps v) d (done (accepted v)) (read (kind_cell (length ps) v) (after_kind (length ps) d (depth ps v)))) ≡ accepted u
      go (yes z) =
          let y : depth ps v - d ≡ 0 = omega arith in
          run-eq t (accepted u) (depth ps v) d _ _ z (ap (λ w. run t (done (accepted w))) (entry-some ps v u (rw y at q)).0 ∙ run-done t (accepted u))
      go (no z) = run-not-eq t (accepted u) (depth ps v) d _ _ z (run-read t (accepted u) (kind_cell (length ps) v) (kind group_limit ps v) _ (kind-word ps t p v h) (kinded-run v d u h (omega arith) q (micro group_limit ps v) refl))
