-- Depth along a climb, and the level ancestor. Assumes nothing.
use mathlib.Core.Path.{◌≡◌, refl, sym, ap, ◌∙◌}
use mathlib.Core.List.{List, [], ◌∷◌}
use mathlib.Core.Bool.{true}
use mathlib.Core.Option.{Option, none, some, Option-elim, some-ne-none}
use Prim.Native.Nat.{ℕ, zero, suc, ◌+◌, ◌-◌, ◌≤◌, ◌<◌}
use native.Mathlib.Omega.{arith}
use native.Mathlib.Nat.{not-suc-le-zero}
use native.Mathlib.Decide.{dec_le}
use lib.ListN.{length, get_or}
use borrow.Author.Tests.{le-leb, lt-leb}
use Rattle.base.specs.Lists.{some?}
use Rattle.base.proofs.Lists.{clash}
use Rattle.base.specs.Limits.{top_mark}
use Rattle.tree.specs.Parents.{word, parent, up, climb_within, climb, depth}
use Rattle.tree.specs.Level.{LevelAncestor, level_ancestor}
use Rattle.tree.specs.Faults.{Tree, meets_top}
use Rattle.tree.proofs.Climbs.{meets, meets-up, parent-some, parent-none, entry_in, entry-some, up_step, up_first}
use Rattle.tree.proofs.OneTree.{tree-meets, root_in}

module _ (ps : List ℕ) (small : length ps ≤ top_mark) where
  -- an entry with a parent does not hold the top mark
  no-mark : (v p : ℕ) → parent ps v ≡ some p → word ps v ≡ top_mark → ⊥
  no-mark v p e w = let r = parent-some ps v p e in omega (arith, r.1, r.2)

  -- a climb that meets the top within m entries has no more
  climb-more : (m v : ℕ) → meets ps m v ≡ true → climb_within ps (suc m) v ≡ climb_within ps m v
  unfolding meets climb_within some? Option-elim
  climb-more zero v e = clash e
  climb-more (suc m) v e = ap (◌∷◌ v) (go (parent ps v) refl (climb-more m))
    where
      go : (o : Option ℕ) → parent ps v ≡ o → ((p : ℕ) → meets ps m p ≡ true → climb_within ps (suc m) p ≡ climb_within ps m p)
          → Option-elim o [] (climb_within ps (suc m)) ≡ Option-elim o [] (climb_within ps m)
      go none q ih = refl
      go (some p) q ih = ih p (sym (meets-up ps m v p (no-mark v p q) q) ∙ e)

  climb-step : (m v p : ℕ) → 1 ≤ m → meets ps m v ≡ true → parent ps v ≡ some p → climb_within ps m v ≡ v ∷ climb_within ps m p
  unfolding climb_within Option-elim
  climb-step zero v p h e q = absurd (not-suc-le-zero h)
  climb-step (suc m) v p h e q = rw q (ap (◌∷◌ v) (sym (climb-more m p (sym (meets-up ps m v p (no-mark v p q) q) ∙ e))))

  climb-end : (m v : ℕ) → 1 ≤ m → parent ps v ≡ none → climb_within ps m v ≡ v ∷ []
  unfolding climb_within Option-elim
  climb-end zero v h q = absurd (not-suc-le-zero h)
  climb-end (suc m) v h q = rw q

  climb-one : (m v : ℕ) → 1 ≤ m → 1 ≤ length (climb_within ps m v)
  unfolding climb_within
  climb-one zero v h = absurd (not-suc-le-zero h)
  climb-one (suc m) v h = omega arith

  climb-self : (m v : ℕ) → 1 ≤ m → get_or (climb_within ps m v) 0 0 ≡ v
  unfolding climb_within
  climb-self zero v h = absurd (not-suc-le-zero h)
  climb-self (suc m) v h = refl

  pub climb-most : (m v : ℕ) → length (climb_within ps m v) ≤ m
  unfolding climb_within Option-elim
  climb-most zero v = omega arith
  climb-most (suc m) v = go (parent ps v) (climb-most m)
    where
      go : (o : Option ℕ) → ((p : ℕ) → length (climb_within ps m p) ≤ m) → suc (length (Option-elim o [] (climb_within ps m))) ≤ suc m
      go none ih = omega arith
      go (some p) ih = omega (arith, ih p)

  -- on any list, of an entry that meets the top: its climb is itself and its parent's climb, and its depth is its parent's plus 1
  pub meets-climb : (v p : ℕ) → meets_top ps v ≡ true → parent ps v ≡ some p → climb ps v ≡ v ∷ climb ps p
  unfolding meets_top meets
  meets-climb v p m e = let (h, q, w) = parent-some ps v p e in climb-step (length ps) v p (omega arith) m e

  pub meets-depth : (v p : ℕ) → meets_top ps v ≡ true → parent ps v ≡ some p → depth ps v ≡ suc (depth ps p)
  unfolding depth
  meets-depth v p m e =
      let (h, q, w) = parent-some ps v p e in
      rw (meets-climb v p m e) (omega (arith, climb-one (length ps) p (omega arith)))

  pub end-depth : (v : ℕ) → v < length ps → parent ps v ≡ none → depth ps v ≡ 0
  unfolding depth
  end-depth v h e = rw (climb-end (length ps) v (omega arith) e)

  module _ (tree : Tree ps) where
    -- the climb of an entry: itself, and its parent's climb
    pub climb-parent : (v p : ℕ) → parent ps v ≡ some p → climb ps v ≡ v ∷ climb ps p
    climb-parent v p e = meets-climb v p (tree-meets ps small tree v (parent-some ps v p e).0) e

    -- the top's depth is 0, any other entry's is its parent's plus 1
    pub depth-top : (v : ℕ) → v < length ps → parent ps v ≡ none → depth ps v ≡ 0
    depth-top = end-depth

    pub root-depth : (tree.root < length ps) × (depth ps tree.root ≡ 0)
    root-depth = let (h, w) = root_in ps small tree in (h, depth-top tree.root h (parent-none ps tree.root h (omega (arith, w))))

    pub depth-parent : (v p : ℕ) → parent ps v ≡ some p → depth ps v ≡ suc (depth ps p)
    depth-parent v p e = meets-depth v p (tree-meets ps small tree v (parent-some ps v p e).0) e

    -- k climbs reach an entry k less deep, and there is one while k is at most the depth
    pub up_depth : (k v u : ℕ) → up ps k v ≡ some u → depth ps v ≡ k + depth ps u
    unfolding up
    up_depth zero v u e = omega (arith, ap (depth ps) (entry-some ps v u e).0)
    up_depth (suc k) v u e =
        let (p, q, r) = up_first ps k v u e in
        omega (arith, depth-parent v p q, up_depth k p u r)

    pub up-some : (k v : ℕ) → v < length ps → k ≤ depth ps v → (u : ℕ) × (up ps k v ≡ some u)
    unfolding up
    up-some zero v h d = (v, entry_in ps v h)
    up-some (suc k) v h d = go (parent ps v) refl (up-some k)
      where
        go : (o : Option ℕ) → parent ps v ≡ o → ((p : ℕ) → p < length ps → k ≤ depth ps p → (u : ℕ) × (up ps k p ≡ some u)) → (u : ℕ) × (up ps (suc k) v ≡ some u)
        go none q ih = absurd (omega (arith, depth-top v h q))
        go (some p) q ih =
            let r = ih p (parent-some ps v p q).1 (omega (arith, depth-parent v p q)) in
            (r.0, up_step ps k v p q ∙ r.1)

    pub up_none : (k v : ℕ) → depth ps v < k → up ps k v ≡ none
    up_none k v d = go (up ps k v) refl
      where
        go : (o : Option ℕ) → up ps k v ≡ o → o ≡ none
        go none e = refl
        go (some u) e = absurd (omega (arith, up_depth k v u e))

    -- the entry that k climbs reach stands at place k of the climb
    pub climb-at : (k v u : ℕ) → up ps k v ≡ some u → get_or (climb ps v) k 0 ≡ u
    unfolding up
    climb-at zero v u e = let (q, h) = entry-some ps v u e in climb-self (length ps) v (omega arith) ∙ q
    climb-at (suc k) v u e =
        let (p, q, r) = up_first ps k v u e in
        rw (climb-parent v p q) (climb-at k p u r)

    -- the function is 003's level ancestor, and defined up to the depth
    pub level_in : (v d : ℕ) → d ≤ depth ps v → level_ancestor ps v d ≡ up ps (depth ps v - d) v
    unfolding level_ancestor
    level_in v d h = rw (le-leb d (depth ps v) h)

    level-past : (v d : ℕ) → depth ps v < d → level_ancestor ps v d ≡ none
    unfolding level_ancestor
    level-past v d h = rw (lt-leb d (depth ps v) h)

    pub level-sound : (v d u : ℕ) → level_ancestor ps v d ≡ some u → LevelAncestor ps v d u
    level-sound v d u e = go (dec_le d (depth ps v))
      where
        go : Dec (d ≤ depth ps v) → LevelAncestor ps v d u
        go (yes h) =
            let r : up ps (depth ps v - d) v ≡ some u = sym (level_in v d h) ∙ e in
            record { ancestor = record { climbs = depth ps v - d; reached = r }; depth_is = omega (arith, up_depth (depth ps v - d) v u r) }
        go (no h) = absurd (some-ne-none u (sym e ∙ level-past v d (omega arith)))

    pub level-complete : (v d u : ℕ) → LevelAncestor ps v d u → level_ancestor ps v d ≡ some u
    level-complete v d u l =
        let k = l.ancestor.climbs in
        let e : depth ps v ≡ k + d = omega (arith, up_depth k v u l.ancestor.reached, l.depth_is) in
        let z : depth ps v - d ≡ k = omega arith in
        level_in v d (omega arith) ∙ ap (λ j. up ps j v) z ∙ l.ancestor.reached

    pub level-defined : (v d : ℕ) → v < length ps → d ≤ depth ps v → (u : ℕ) × (level_ancestor ps v d ≡ some u)
    level-defined v d h b = let r = up-some (depth ps v - d) v h (omega arith) in (r.0, level_in v d b ∙ r.1)

    pub level-undefined : (v d : ℕ) → v < length ps → level_ancestor ps v d ≡ none → depth ps v < d
    level-undefined v d h e = go (dec_le d (depth ps v))
      where
        go : Dec (d ≤ depth ps v) → depth ps v < d
        go (yes b) = let r = level-defined v d h b in absurd (some-ne-none r.0 (sym r.1 ∙ e))
        go (no b) = omega arith

    pub level-deep : (v d : ℕ) → depth ps v < d → level_ancestor ps v d ≡ none
    level-deep v d h = level-past v d h
