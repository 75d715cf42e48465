-- The number of a group's shape, counted from the depths of its entries: the shapes of fewer entries, and the walks that come before its own.
-- Assumes nothing.
use mathlib.Core.Path.{◌≡◌, refl, sym, ap, ◌∙◌}
use mathlib.Core.Bool.{Bool, true, false}
use mathlib.Core.List.{List, [], ◌∷◌, ◌++◌, map, append-nil}
use mathlib.Core.Option.{some}
use Prim.Native.Nat.{ℕ, zero, suc, ◌+◌, ◌-◌, ◌≤◌, ◌<◌}
use native.Mathlib.Omega.{arith}
use native.Mathlib.Nat.{zero-add, suc-add, not-suc-le-zero}
use lib.ListN.{length, get_elem?, replicate, length-append, length-map}
use Rattle.base.specs.Lists.{index}
use Rattle.base.proofs.Lists.{clash, All, all-at, all_from, all_map, all-always, index-past, index-front, index_at, index-map}
use Rattle.tree.specs.Forest.{Forest, forest_size}
use Rattle.shapes.specs.Walks.{down, up, Walk, walk_round, after, walks, shapes, same_walk, shape_number}
use Rattle.shapes.specs.Climbs.{parent_list}
use Rattle.shapes.proofs.Sizes.{Downs, walks-downs, Fits, shapes-fit}
use Rattle.tree.specs.Forest.{levels}
use Rattle.tree.proofs.Levels.{levels-length}
use Rattle.shapes.proofs.Turns.{walk_from, Goes, goes-levels, walk-levels}

-- a walk is the same as itself and as no other
same_refl : (w : Walk) → same_walk w w ≡ true
same_refl [] = refl
same_refl (down ∷ w) = same_refl w
same_refl (up ∷ w) = same_refl w

same-eq : (v w : Walk) → same_walk v w ≡ true → v ≡ w
same-eq [] [] e = refl
same-eq [] (y ∷ w) e = clash e
same-eq (x ∷ v) [] e = clash e
same-eq (down ∷ v) (down ∷ w) e = ap (◌∷◌ down) (same-eq v w e)
same-eq (down ∷ v) (up ∷ w) e = clash e
same-eq (up ∷ v) (down ∷ w) e = clash e
same-eq (up ∷ v) (up ∷ w) e = ap (◌∷◌ up) (same-eq v w e)

differs : (v w : Walk) → (v ≡ w → ⊥) → same_walk v w ≡ false
differs v w n = go (same_walk v w) refl
  where
    go : (t : Bool) → same_walk v w ≡ t → t ≡ false
    go true e = absurd (n (same-eq v w e))
    go false e = refl

-- where a walk stands in a list: as many as the list has, where it is not there
abbrev place : Walk → List Walk → ℕ
place w l = index (same_walk w) l

place_at : (w : Walk) (l : List Walk) → place w l < length l → get_elem? l (place w l) ≡ some w
place_at w l h =
    let t = index_at (same_walk w) l h in
    t.1 ∙ ap some (sym (same-eq w t.0 t.2))

-- where a walk stands among those that begin with a down and, behind them, those that begin with an up
place_down : (w : Walk) (a x : List Walk) → place w a < length a → place (down ∷ w) (map (◌∷◌ down) a ++ x) ≡ place w a
place_down w a x h =
    let e : place (down ∷ w) (map (◌∷◌ down) a) ≡ place w a = index-map (same_walk (down ∷ w)) (◌∷◌ down) a in
    index-front (same_walk (down ∷ w)) (map (◌∷◌ down) a) x (omega (arith, length-map a (◌∷◌ down))) ∙ e

place_up : (w : Walk) (a b : List Walk) → place (up ∷ w) (map (◌∷◌ down) a ++ map (◌∷◌ up) b) ≡ length a + place w b
place_up w a b =
    let fail : All (λ x. same_walk (up ∷ w) x ≡ false) (map (◌∷◌ down) a) =
    all_map (λ x. same_walk (up ∷ w) x ≡ false) (λ x. Unit {0}) (◌∷◌ down) (λ x t. refl) a (all-always (λ x. Unit {0}) (λ x. tt) a) in
    let e : place (up ∷ w) (map (◌∷◌ up) b) ≡ place w b = index-map (same_walk (up ∷ w)) (◌∷◌ up) b in
    omega (arith, index-past (same_walk (up ∷ w)) (map (◌∷◌ down) a) (map (◌∷◌ up) b) fail, length-map a (◌∷◌ down))

-- the walks that go on from an entry at depth c, over those with one down less
module _ (fewer : ℕ → List Walk) where
  -- the walks that go down next come first
  place-next : (c : ℕ) (w : Walk) → place w (fewer (suc c)) < length (fewer (suc c)) → place (down ∷ w) (after fewer c) ≡ place w (fewer (suc c))
  place-next zero w h = rw (← append-nil (map (◌∷◌ down) (fewer 1))) (place_down w (fewer 1) [] h)
  place-next (suc c) w h = place_down w (fewer (suc (suc c))) (map (◌∷◌ up) (after fewer c)) h

  after-suc : (c : ℕ) → length (after fewer (suc c)) ≡ length (fewer (suc (suc c))) + length (after fewer c)
  after-suc c = simp (length-append, length-map)

  pub after_more : (c : ℕ) → length (fewer (suc c)) ≤ length (after fewer c)
  after_more zero = simp length-map (omega arith)
  after_more (suc c) = omega (arith, after-suc c)

  pub after-deeper : (c u : ℕ) → length (after fewer c) ≤ length (after fewer (u + c))
  after-deeper c zero = rw zero-add (omega arith)
  after-deeper c (suc u) = rw suc-add (omega (arith, after-suc (u + c), after-deeper c u))

  -- u ups in front: all the walks that go down at one of them come before
  place-ups : (c u : ℕ) (w : Walk) → place (replicate u up ++ w) (after fewer (u + c)) + length (after fewer c) ≡ length (after fewer (u + c)) + place w (after fewer c)
  place-ups c zero w = rw zero-add (omega arith)
  place-ups c (suc u) w =
      rw suc-add
      (omega (arith, place_up (replicate u up ++ w) (fewer (suc (suc (u + c)))) (after fewer (u + c)), after-suc (u + c), place-ups c u w))

  -- u ups, a down, and a walk w that stands at place r of those from there
  entry : (c u : ℕ) (w : Walk) (r : ℕ) → place w (fewer (suc c)) ≡ r → r < length (fewer (suc c))
      → (place (replicate u up ++ (down ∷ w)) (after fewer (u + c)) ≡ length (after fewer (u + c)) - length (after fewer c) + r)
      × (length (after fewer (u + c)) - length (after fewer c) + r < length (after fewer (u + c)))
  entry c u w r p h =
      let a : place (down ∷ w) (after fewer c) ≡ r = place-next c w (omega arith) ∙ p in
      let b : place (replicate u up ++ (down ∷ w)) (after fewer (u + c)) + length (after fewer c) ≡ length (after fewer (u + c)) + place (down ∷ w) (after fewer c) =
      place-ups c u (down ∷ w) in
      let m : length (after fewer c) ≤ length (after fewer (u + c)) = after-deeper c u in
      let n : length (fewer (suc c)) ≤ length (after fewer c) = after_more c in
      (omega arith, omega arith)

-- how many walks go on from depth c with o downs to come
abbrev pub ways : ℕ → ℕ → ℕ
ways o c = length (walks o c)

-- how many come before the walk from depth d on, by the depths to come: at each entry those that go down from deeper
abbrev pub rank_from : ℕ → List ℕ → ℕ
rank_from d [] = 0
rank_from d (e ∷ ds) = ways (suc (length ds)) d - ways (suc (length ds)) (e - 1) + rank_from e ds

-- the walk from depth d on stands at its rank among those that go on from there
rank-from : (d : ℕ) (ds : List ℕ) → Goes d ds → (place (walk_from d ds) (walks (length ds) d) ≡ rank_from d ds) × (rank_from d ds < ways (length ds) d)
unfolding index
rank-from d [] g = (simp same_refl, omega arith)
rank-from d (zero ∷ ds) g = absurd (not-suc-le-zero g.0)
rank-from d (suc c ∷ ds) g =
    let ih = rank-from (suc c) ds g.2 in
    let k : suc d - suc c ≡ d - c = omega arith in
    let l : suc c - 1 ≡ c = omega arith in
    let m : d - c + c ≡ d = omega arith in
    rw (k, l) (rw m at (entry (walks (length ds)) c (d - c) (walk_from (suc c) ds) (rank_from (suc c) ds) ih.0 ih.1))

-- a walk of m downs stands behind the shapes of up to m entries, also among the shapes of more
past-smaller : (w : Walk) (m : ℕ) → place w (walks m 0) < ways m 0 → place w (shapes m ++ walks m 0) ≡ length (shapes m) + place w (walks m 0)
unfolding parent_list
past-smaller w m h =
    let size : length (parent_list w) ≡ suc m = ap suc (all-at (Downs m) (walks m 0) (walks-downs m 0) (place w (walks m 0)) w (place_at w (walks m 0) h) (0 ∷ []) 1) in
    index-past (same_walk w) (shapes m) (walks m 0)
    (all_from (λ x. same_walk w x ≡ false) (Fits m) (λ x b. differs w x (λ e. omega (arith, ap (λ (y : Walk). length (parent_list y)) e))) (shapes m) (shapes-fit m m (omega arith)))

place-shapes : (w : Walk) (m : ℕ) → place w (walks m 0) < ways m 0 → (j : ℕ)
    → (place w (shapes (j + suc m)) ≡ length (shapes m) + place w (walks m 0)) × (length (shapes m) + place w (walks m 0) < length (shapes (j + suc m)))
place-shapes w m h zero = rw zero-add (past-smaller w m h, omega (arith, length-append (shapes m) (walks m 0)))
place-shapes w m h (suc j) =
    let ih = place-shapes w m h j in
    let p : place w (shapes (j + suc m) ++ walks (j + suc m) 0) ≡ place w (shapes (j + suc m)) =
    index-front (same_walk w) (shapes (j + suc m)) (walks (j + suc m) 0) (omega (arith, ih.0, ih.1)) in
    rw suc-add (p ∙ ih.0, omega (arith, ih.1, length-append (shapes (j + suc m)) (walks (j + suc m) 0)))

-- the number of a group's shape among those of up to L entries is its rank behind the shapes of fewer entries, and the shape of that number is its walk
module _ (L : ℕ) (f : Forest) (h : forest_size f < L) where
  numbered : (shape_number L (walk_round f) ≡ length (shapes (forest_size f)) + rank_from 0 (levels 1 f)) × (shape_number L (walk_round f) < length (shapes L))
  unfolding shape_number
  numbered =
      let r = rank-from 0 (levels 1 f) (goes-levels f) in
      let k : L - suc (forest_size f) + suc (forest_size f) ≡ L = omega arith in
      let s = rw (← walk-levels f, levels-length 1 f) at r in
      let p = rw k at (place-shapes (walk_round f) (forest_size f) (omega (arith, s.0, s.1)) (L - suc (forest_size f))) in
      (omega (arith, p.0, s.0), omega (arith, p.0, p.1))

  pub number-rank : shape_number L (walk_round f) ≡ length (shapes (forest_size f)) + rank_from 0 (levels 1 f)
  number-rank = numbered.0

  pub number_small : shape_number L (walk_round f) < length (shapes L)
  number_small = numbered.1

  pub number-shape : get_elem? (shapes L) (shape_number L (walk_round f)) ≡ some (walk_round f)
  unfolding shape_number
  number-shape = place_at (walk_round f) (shapes L) number_small
