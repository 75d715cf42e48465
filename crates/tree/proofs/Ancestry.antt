-- Of a list that forms one tree: an entry's climb holds its ancestors, and the child of u towards v is the one on v's climb. Assumes nothing.
use mathlib.Core.Path.{◌≡◌, refl, sym, ap, ◌∙◌}
use mathlib.Core.Logic.{◌↔◌}
use mathlib.Core.List.{List, []}
use mathlib.Core.Bool.{Bool, true, false, cond}
use mathlib.Core.Option.{Option, none, some, Option-elim, some-injective}
use Prim.Native.Nat.{ℕ, zero, suc, ◌+◌, ◌≤◌, ◌<◌}
use native.Mathlib.Omega.{arith}
use lib.ListN.{length}
use lib.Dec.{eqb}
use borrow.Author.Tests.{eqb-true, eq-eqb}
use Rattle.base.specs.Lists.{first, some?, has}
use Rattle.base.proofs.Lists.{clash}
use Rattle.base.proofs.Counts.{times}
use Rattle.base.proofs.Filters.{first-only, first-nothing}
use Rattle.base.specs.Limits.{top_mark}
use Rattle.tree.specs.Parents.{parent, up, climb_within, climb, depth, children}
use Rattle.tree.specs.Level.{Ancestor, LevelAncestor, level_ancestor}
use Rattle.tree.specs.Faults.{Tree}
use Rattle.tree.proofs.Climbs.{entry_in, entry-some, parent-some, parent_in, up_step, up_first, up-add}
use Rattle.tree.proofs.Depths.{depth-parent, up_depth, level-sound, level-complete}
use Rattle.tree.proofs.Forests.{child-of, of-child}
use Rattle.tree.proofs.Intervals.{ancestor-in, ancestor-trans, ancestor-parent, depth-less}

module _ (ps : List ℕ) where
  -- who is on a climb is reached by climbing, and who is reached is on the climb
  on-reached : (m v u : ℕ) → v < length ps → has (climb_within ps m v) u ≡ true → Ancestor ps u v
  unfolding climb_within some? up Option-elim
  on-reached zero v u h e = clash e
  on-reached (suc m) v u h e = go (eqb u v) refl (parent ps v) refl e (λ p. on-reached m p u)
    where
      go : (b : Bool) → eqb u v ≡ b → (o : Option ℕ) → parent ps v ≡ o → cond b true (has (Option-elim o [] (climb_within ps m)) u) ≡ true
          → ((p : ℕ) → p < length ps → has (climb_within ps m p) u ≡ true → Ancestor ps u p) → Ancestor ps u v
      go true q o s e ih = record { climbs = 0; reached = entry_in ps v h ∙ ap some (sym (eqb-true u v q)) }
      go false q none s e ih = clash e
      go false q (some p) s e ih =
          let a = ih p (parent-some ps v p s).1 e in
          record { climbs = suc a.climbs; reached = up_step ps a.climbs v p s ∙ a.reached }

  reached-on : (k m v u : ℕ) → k < m → up ps k v ≡ some u → has (climb_within ps m v) u ≡ true
  unfolding climb_within some? up Option-elim
  reached-on k zero v u b e = absurd (omega arith)
  reached-on zero (suc m) v u b e = rw (eq-eqb u v (sym (entry-some ps v u e).0))
  reached-on (suc k) (suc m) v u b e =
      let (p, q, r) = up_first ps k v u e in
      rw q (later (climb_within ps m p) (eqb u v) (reached-on k m p u (omega arith) r))
    where
      later : (l : List ℕ) (t : Bool) → has l u ≡ true → cond t true (has l u) ≡ true
      later l true h = refl
      later l false h = h

  module _ (small : length ps ≤ top_mark) (tree : Tree ps) where
    -- a climb holds v's ancestors and no one else
    pub on-climb : (u v : ℕ) → v < length ps → (has (climb ps v) u ≡ true) ↔ Ancestor ps u v
    on-climb u v h = (
      on-reached (length ps) v u h,
      λ a. reached-on a.climbs (length ps) v u (omega (arith, up_depth ps small tree a.climbs v u a.reached, depth-less ps small tree v h)) a.reached,
    )

    -- a child of u on v's climb is v's ancestor one deeper than u
    child-above : (u v c : ℕ) → u < length ps → v < length ps → 1 ≤ times c (children ps u) → has (climb ps v) c ≡ true → Ancestor ps u v × LevelAncestor ps v (suc (depth ps u)) c
    child-above u v c hu hv i e =
        let (hc, w) = child-of ps small u c i in
        let q : parent ps c ≡ some u = parent_in ps c hc (omega arith) ∙ ap some w in
        let a = (on-climb c v hv).0 e in
        (ancestor-trans ps small tree u c v (ancestor-parent ps small tree c u q) a, record { ancestor = a; depth_is = depth-parent ps small tree c u q })

    -- the child of u on the way to v, where u is strictly above v
    pub towards : (u v c : ℕ) → Ancestor ps u v → level_ancestor ps v (suc (depth ps u)) ≡ some c → first (has (climb ps v)) (children ps u) ≡ some c
    unfolding up
    towards u v c a e =
        let l = level-sound ps small tree v (suc (depth ps u)) c e in
        let k = l.ancestor.climbs in
        let (hu, hv) = ancestor-in ps small tree u v a in
        let z : a.climbs ≡ k + 1 = omega (arith, up_depth ps small tree a.climbs v u a.reached, up_depth ps small tree k v c l.ancestor.reached, l.depth_is) in
        let (p, q, r) = up_first ps 0 c u (sym (up-add ps k 1 v c l.ancestor.reached) ∙ ap (λ j. up ps j v) (sym z) ∙ a.reached) in
        let (hc, hp, w) = parent-some ps c p q in
        let x : p ≡ u = (entry-some ps p u r).0 in
        first-only (has (climb ps v)) (children ps u) c
        (omega (arith, ap (λ y. times c (children ps y)) (w ∙ x), of-child ps small c hc))
        ((on-climb c v hv).1 l.ancestor)
        (λ y i t. some-injective y c (sym (level-complete ps small tree v (suc (depth ps u)) y (child-above u v y hu hv i t).1) ∙ e))

    pub towards_none : (u v : ℕ) → u < length ps → v < length ps → (Ancestor ps u v → u ≡ v) → first (has (climb ps v)) (children ps u) ≡ none
    towards_none u v hu hv only = first-nothing (has (climb ps v)) (children ps u) (λ c i e.
        let (a, l) = child-above u v c hu hv i e in
        let z = ap (depth ps) (only a) in
        omega (arith, up_depth ps small tree l.ancestor.climbs v c l.ancestor.reached, l.depth_is))

    -- a strict ancestor is less deep
    pub strictly-deeper : (u v : ℕ) → Ancestor ps u v → (u ≡ v → ⊥) → depth ps u < depth ps v
    unfolding up
    strictly-deeper u v a other = go a.climbs a.reached
      where
        go : (k : ℕ) → up ps k v ≡ some u → depth ps u < depth ps v
        go zero e = absurd (other (sym (entry-some ps v u e).0))
        go (suc k) e = omega (arith, up_depth ps small tree (suc k) v u e)
