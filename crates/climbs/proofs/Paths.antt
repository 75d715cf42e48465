-- The long paths of 003, section 3.3: a path goes from its top to the child of greatest height, and on down to a leaf. Assumes nothing.
use mathlib.Core.Path.{◌≡◌, refl, sym, ap, ◌∙◌}
use mathlib.Core.List.{List, [], ◌∷◌}
use mathlib.Core.Bool.{true, false, cond, not}
use mathlib.Core.Option.{Option, none, some, Option-elim, some-injective}
use Prim.Native.Nat.{ℕ, zero, suc, ◌+◌, ◌-◌, ◌≤◌, ◌<◌, max}
use native.Mathlib.Omega.{arith}
use native.Mathlib.Decide.{dec_le}
use lib.ListN.{length, get_or}
use lib.Dec.{eqb, leb}
use borrow.Author.Tests.{eqb-true, eq-eqb, le-leb, lt-leb, not-false}
use Rattle.base.proofs.Lists.{clash}
use Rattle.base.proofs.Counts.{times}
use Rattle.base.proofs.Places.{times-same}
use Rattle.base.specs.Limits.{top_mark}
use Rattle.tree.specs.Parents.{parent, up, depth, children}
use Rattle.tree.specs.Forest.{Forest, empty, node, plant, forest_height, tallest, spine, under, height, long_child, path_top, path_from}
use Rattle.tree.specs.Faults.{Tree}
use Rattle.tree.proofs.Climbs.{entry_in, parent_in, parent-some, up_step}
use Rattle.tree.proofs.OneTree.{tree-meets}
use Rattle.tree.proofs.Depths.{up_depth}
use Rattle.tree.proofs.Forests.{child-of, under-eq}

-- the path down a forest has an entry of each level
pub spine-length : (f : Forest) → length (spine f) ≡ forest_height f
unfolding spine forest_height
spine-length empty = refl
spine-length (node v b later) = go (dec_le (forest_height later) (suc (forest_height b))) (spine-length b) (spine-length later)
  where
    go : Dec (forest_height later ≤ suc (forest_height b)) → length (spine b) ≡ forest_height b → length (spine later) ≡ forest_height later
        → length (cond (leb (forest_height later) (suc (forest_height b))) (v ∷ spine b) (spine later)) ≡ max (suc (forest_height b)) (forest_height later)
    go (yes h) x y = rw (le-leb (forest_height later) (suc (forest_height b)) h) (omega arith)
    go (no h) x y = rw (lt-leb (forest_height later) (suc (forest_height b)) (omega arith)) (omega arith)

-- the first level's entry of greatest height: the forest is one higher than what is below it, and the path goes through it
plant-tallest : (f : ℕ → Forest) (vs : List ℕ) (c : ℕ) → tallest (plant f vs) ≡ some c
    → (1 ≤ times c vs) × (forest_height (plant f vs) ≡ suc (forest_height (f c))) × (spine (plant f vs) ≡ c ∷ spine (f c))
unfolding tallest spine forest_height plant times
plant-tallest f [] c e = absurd (let z : ◌≡◌ {A = ℕ} 0 1 = cc in omega arith)
plant-tallest f (v ∷ vs) c e = go (dec_le (forest_height (plant f vs)) (suc (forest_height (f v)))) e (plant-tallest f vs c)
  where
    Goes : Forest → List ℕ → Type 0
    Goes g us = (1 ≤ times c us) × (forest_height g ≡ suc (forest_height (f c))) × (spine g ≡ c ∷ spine (f c))

    go : Dec (forest_height (plant f vs) ≤ suc (forest_height (f v))) → cond (leb (forest_height (plant f vs)) (suc (forest_height (f v)))) (some v) (tallest (plant f vs)) ≡ some c
        → (tallest (plant f vs) ≡ some c → Goes (plant f vs) vs) → Goes (node v (f v) (plant f vs)) (v ∷ vs)
    go (yes h) e ih =
        let b = le-leb (forest_height (plant f vs)) (suc (forest_height (f v))) h in
        let q : v ≡ c = some-injective v c (rw b at e) in (
          omega (arith, times-same c v vs (sym q)),
          omega (arith, ap (λ x. forest_height (f x)) q),
          rw b (ap (λ x. x ∷ spine (f x)) q),
        )
    go (no h) e ih =
        let b = lt-leb (forest_height (plant f vs)) (suc (forest_height (f v))) (omega arith) in
        let r = ih (rw b at e) in
        (omega (arith, r.0), omega (arith, r.1), rw b r.2)

plant-none : (f : ℕ → Forest) (vs : List ℕ) → tallest (plant f vs) ≡ none → plant f vs ≡ empty
unfolding tallest forest_height plant
plant-none f [] e = refl
plant-none f (v ∷ vs) e = go (dec_le (forest_height (plant f vs)) (suc (forest_height (f v)))) e (plant-none f vs)
  where
    go : Dec (forest_height (plant f vs) ≤ suc (forest_height (f v))) → cond (leb (forest_height (plant f vs)) (suc (forest_height (f v)))) (some v) (tallest (plant f vs)) ≡ none
        → (tallest (plant f vs) ≡ none → plant f vs ≡ empty) → node v (f v) (plant f vs) ≡ empty
    go (yes h) e ih = absurd (let z : ◌≡◌ {A = ℕ} 0 1 = cc (le-leb (forest_height (plant f vs)) (suc (forest_height (f v))) h) in omega arith)
    go (no h) e ih = absurd (omega (arith, ap forest_height (ih (rw (lt-leb (forest_height (plant f vs)) (suc (forest_height (f v))) (omega arith)) at e))))

module _ (ps : List ℕ) (small : length ps ≤ top_mark) (tree : Tree ps) where
  -- the child to which a path goes on, and the path below it; a leaf ends the path
  goes_on : (v c : ℕ) → long_child ps v ≡ some c → v < length ps → (parent ps c ≡ some v) × (height ps v ≡ suc (height ps c)) × (spine (under ps v) ≡ path_from ps c)
  goes_on v c e h =
      let q = under-eq ps small v h (tree-meets ps small tree v h) in
      let (k, t, s) = plant-tallest (under ps) (children ps v) c (ap tallest (sym q) ∙ e) in
      let (hc, w) = child-of ps small v c k in
      (parent_in ps c hc (omega arith) ∙ ap some w, omega (arith, ap forest_height q), ap spine q ∙ s)

  pub long-child : (v c : ℕ) → long_child ps v ≡ some c → v < length ps → (parent ps c ≡ some v) × (height ps v ≡ suc (height ps c))
  long-child v c e h = let r = goes_on v c e h in (r.0, r.1)

  pub path-step : (v c : ℕ) → long_child ps v ≡ some c → v < length ps → path_from ps v ≡ v ∷ path_from ps c
  path-step v c e h = ap (◌∷◌ v) (goes_on v c e h).2

  pub path-leaf : (v : ℕ) → long_child ps v ≡ none → v < length ps → (height ps v ≡ 1) × (path_from ps v ≡ v ∷ [])
  unfolding forest_height spine
  path-leaf v e h =
      let q = under-eq ps small v h (tree-meets ps small tree v h) in
      let z : under ps v ≡ empty = q ∙ plant-none (under ps) (children ps v) (ap tallest (sym q) ∙ e) in
      (ap (λ f. suc (forest_height f)) z, ap (λ f. v ∷ spine f) z)

  -- who is the top of a path: the root, and whoever is not its parent's long child
  pub path-top-root : (v : ℕ) → v < length ps → parent ps v ≡ none → path_top ps v ≡ true
  unfolding path_top Option-elim
  path-top-root v h e = rw e

  pub path-top-no : (v : ℕ) → path_top ps v ≡ false → v < length ps → (p : ℕ) × (parent ps v ≡ some p) × (long_child ps p ≡ some v)
  unfolding path_top Option-elim
  path-top-no v e h = go (parent ps v) refl e
    where
      long : (o : Option ℕ) → Option-elim o false (eqb v) ≡ true → o ≡ some v
      long none q = clash q
      long (some c) q = ap some (sym (eqb-true v c q))

      go : (o : Option ℕ) → parent ps v ≡ o → Option-elim o true (λ p. not (Option-elim (long_child ps p) false (eqb v))) ≡ false → (p : ℕ) × (parent ps v ≡ some p) × (long_child ps p ≡ some v)
      go none q t = clash (sym t)
      go (some p) q t = (p, q, long (long_child ps p) (not-false _ t))

  pub long-no-top : (v c : ℕ) → long_child ps v ≡ some c → v < length ps → path_top ps c ≡ false
  unfolding path_top Option-elim
  long-no-top v c e h = rw ((long-child v c e h).0, e, eq-eqb c c refl)

  -- a path has as many entries as its top's height
  pub path-length : (t : ℕ) → length (path_from ps t) ≡ height ps t
  path-length t = ap suc (spine-length (under ps t))

  -- its entries: the top, and then each the long child of the one before, which is its parent
  pub path-first : (t : ℕ) → get_or (path_from ps t) 0 0 ≡ t
  path-first t = refl

  has-long : (v : ℕ) → v < length ps → 1 < height ps v → (c : ℕ) × (long_child ps v ≡ some c)
  has-long v h b = go (long_child ps v) refl
    where
      go : (o : Option ℕ) → long_child ps v ≡ o → (c : ℕ) × (long_child ps v ≡ some c)
      go none e = absurd (omega (arith, (path-leaf v e h).0))
      go (some c) e = (c, e)

  pub path-next : (t i : ℕ) → t < length ps → suc i < height ps t → long_child ps (get_or (path_from ps t) i 0) ≡ some (get_or (path_from ps t) (suc i) 0)
  path-next t zero h b =
      let (c, e) = has-long t h b in
      let (p, l, s) = goes_on t c e h in
      rw s e
  path-next t (suc i) h b =
      let (c, e) = has-long t h (omega arith) in
      let (p, l, s) = goes_on t c e h in
      let (hc, ht, w) = parent-some ps c t p in
      rw s (path-next c i hc (omega arith))

  -- each is an entry, as far less high than the top as it stands below it
  pub path-in : (t i : ℕ) → t < length ps → i < height ps t → (get_or (path_from ps t) i 0 < length ps) × (height ps (get_or (path_from ps t) i 0) + i ≡ height ps t)
  path-in t zero h b = (h, omega arith)
  path-in t (suc i) h b =
      let (c, e) = has-long t h (omega arith) in
      let (p, l, s) = goes_on t c e h in
      let (hc, ht, w) = parent-some ps c t p in
      let (x, y) = path-in c i hc (omega arith) in
      rw s (x, omega arith)

  pub path_parent : (t i : ℕ) → t < length ps → suc i < height ps t → parent ps (get_or (path_from ps t) (suc i) 0) ≡ some (get_or (path_from ps t) i 0)
  path_parent t i h b = (long-child (get_or (path_from ps t) i 0) (get_or (path_from ps t) (suc i) 0) (path-next t i h b) (path-in t i h (omega arith)).0).0

  pub path-no-top : (t i : ℕ) → t < length ps → suc i < height ps t → path_top ps (get_or (path_from ps t) (suc i) 0) ≡ false
  path-no-top t i h b = long-no-top (get_or (path_from ps t) i 0) (get_or (path_from ps t) (suc i) 0) (path-next t i h b) (path-in t i h (omega arith)).0

  -- so climbs along the path pass its entries, up to the top
  pub path-up : (t k i : ℕ) → t < length ps → k ≤ i → i < height ps t → up ps k (get_or (path_from ps t) i 0) ≡ some (get_or (path_from ps t) (i - k) 0)
  unfolding up
  path-up t zero i h k b = let z : i - 0 ≡ i = omega arith in rw z (entry_in ps (get_or (path_from ps t) i 0) (path-in t i h b).0)
  path-up t (suc k) zero h a b = absurd (omega arith)
  path-up t (suc k) (suc i) h a b =
      let z : suc i - suc k ≡ i - k = omega arith in
      rw z (up_step ps k (get_or (path_from ps t) (suc i) 0) (get_or (path_from ps t) i 0) (path_parent t i h b) ∙ path-up t k i h (omega arith) (omega arith))

  pub path-reach : (t i : ℕ) → t < length ps → i < height ps t → up ps i (get_or (path_from ps t) i 0) ≡ some t
  path-reach t i h b = let z : i - i ≡ 0 = omega arith in rw z at (path-up t i i h (omega arith) b)

  pub path-depth : (t i : ℕ) → t < length ps → i < height ps t → depth ps (get_or (path_from ps t) i 0) ≡ depth ps t + i
  path-depth t i h b = omega (arith, up_depth ps small tree i (get_or (path_from ps t) i 0) t (path-reach t i h b))
