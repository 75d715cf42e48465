-- LADPOS and what stands in LADDERS: 003's Lemma 5, that a ladder answers any climb of at most the entry's height. Assumes nothing.
use mathlib.Core.Path.{◌≡◌, sym, ap, ◌∙◌}
use mathlib.Core.List.{List, [], ◌∷◌, ◌++◌, map, reverse, flatten, map-append}
use mathlib.Core.Bool.{true, false}
use mathlib.Core.Option.{some, some-injective}
use Prim.Native.Nat.{ℕ, zero, suc, ◌+◌, ◌-◌, ◌≤◌, ◌<◌, min}
use native.Mathlib.Omega.{arith}
use native.Mathlib.Decide.{dec_le, dec_lt}
use lib.ListN.{length, get_or, take, drop, length-append, length-take, length-drop, length-reverse, length-map, get_or-append}
use lib.Seq.{get_or-append-add, get_or_at, get_or-take, get_or-drop, take_at}
use Rattle.base.specs.Lists.{keep, place}
use Rattle.base.proofs.Counts.{times}
use Rattle.base.proofs.Places.{place_is}
use Rattle.base.proofs.Joins.{reverse-at, join-split, keyed-once}
use Rattle.base.specs.Limits.{top_mark}
use Rattle.tree.specs.Parents.{parent, up, depth, climb}
use Rattle.tree.specs.Forest.{height, order, position, long_child, path_top, path_from}
use Rattle.tree.specs.Faults.{Tree}
use Rattle.tree.proofs.Climbs.{entry_in, entry-some, parent-some, up_from, up-add}
use Rattle.tree.proofs.Depths.{climb-at, up_depth, up-some}
use Rattle.table.specs.Ladders.{nearest, ladder, ladders, lad_pos}
use Rattle.climbs.proofs.Paths.{path-top-no, path-length, path-up, path-depth}
use Rattle.climbs.proofs.OwnPaths.{OnPath, tops_within, on-own, on-down, on-path, on-ancestor, on-height, tops-split, own-number}

-- how many ancestors stand in a ladder before its path
abbrev pub rise : List ℕ → ℕ → ℕ
rise ps t = min (height ps t) (depth ps t)

-- the words of the ladders whose tops are among the first i entries of the preorder
abbrev pub rungs_within : List ℕ → ℕ → ℕ
rungs_within ps i = length (flatten (map (ladder ps) (tops_within ps i)))

-- how long a ladder is
pub nearest-length : (ps : List ℕ) (h v : ℕ) → length (nearest ps h v) ≡ min h (depth ps v)
unfolding nearest depth
nearest-length ps h v = omega (arith, length-reverse (take h (drop 1 (climb ps v))), length-take h (drop 1 (climb ps v)), length-drop 1 (climb ps v))

module _ (ps : List ℕ) (small : length ps ≤ top_mark) (tree : Tree ps) where
  pub ladder-length : (t : ℕ) → length (ladder ps t) ≡ rise ps t + height ps t
  ladder-length t = omega (arith, length-append (nearest ps (height ps t) t) (path_from ps t), nearest-length ps (height ps t) t, path-length ps small tree t)

  -- the ancestors of v, the nearest last
  pub nearest-at : (h v k u : ℕ) → up ps (suc k) v ≡ some u → k < h → get_or (nearest ps h v) (min h (depth ps v) - suc k) 0 ≡ u
  unfolding nearest depth
  nearest-at h v k u e b =
      let l = take h (drop 1 (climb ps v)) in
      let n : length l ≡ min h (depth ps v) = omega (arith, length-take h (drop 1 (climb ps v)), length-drop 1 (climb ps v)) in
      let d = up_depth ps small tree (suc k) v u e in
      let z : 1 + k ≡ suc k = omega arith in
      ap (λ m. get_or (reverse l) (m - suc k) 0) (sym n)
      ∙ reverse-at l k 0 (omega arith)
      ∙ get_or-take h (drop 1 (climb ps v)) k 0 b
      ∙ get_or-drop 1 (climb ps v) k 0
      ∙ ap (λ j. get_or (climb ps v) j 0) z
      ∙ climb-at ps small tree (suc k) v u e

  -- a ladder's path follows those ancestors
  pub rung-path : (t i : ℕ) → get_or (ladder ps t) (rise ps t + i) 0 ≡ get_or (path_from ps t) i 0
  rung-path t i = rw (← nearest-length ps (height ps t) t) (get_or-append-add (nearest ps (height ps t) t) (path_from ps t) i 0)

  pub rung-up : (t k u : ℕ) → up ps k t ≡ some u → k ≤ rise ps t → get_or (ladder ps t) (rise ps t - k) 0 ≡ u
  unfolding up
  rung-up t zero u e b =
      let z : rise ps t - 0 ≡ rise ps t + 0 = omega arith in
      ap (λ j. get_or (ladder ps t) j 0) z ∙ rung-path t 0 ∙ (entry-some ps t u e).0
  rung-up t (suc k) u e b =
      get_or-append (nearest ps (height ps t) t) (path_from ps t) 0 (rise ps t - suc k) (omega (arith, nearest-length ps (height ps t) t))
      ∙ nearest-at (height ps t) t k u e (omega arith)

  -- so each of a ladder is one deeper than the one before, and stands there once
  pub ladder-depth : (t i : ℕ) → t < length ps → i < length (ladder ps t) → depth ps (get_or (ladder ps t) i 0) ≡ (depth ps t - rise ps t) + i
  ladder-depth t i h b = go (dec_lt i (rise ps t))
    where
      above : (j u : ℕ) → up ps j t ≡ some u → j ≤ rise ps t → rise ps t - j ≡ i → depth ps (get_or (ladder ps t) i 0) ≡ (depth ps t - rise ps t) + i
      above j u e l z = omega (arith, ap (depth ps) (rw z at (rung-up t j u e l)), up_depth ps small tree j t u e)

      below : (j : ℕ) → j < height ps t → rise ps t + j ≡ i → depth ps (get_or (ladder ps t) i 0) ≡ (depth ps t - rise ps t) + i
      below j l z = omega (arith, ap (depth ps) (rw z at (rung-path t j)), path-depth ps small tree t j h l)

      go : Dec (i < rise ps t) → depth ps (get_or (ladder ps t) i 0) ≡ (depth ps t - rise ps t) + i
      go (yes k) = let (u, e) = up-some ps small tree (rise ps t - i) t h (omega arith) in above (rise ps t - i) u e (omega arith) (omega arith)
      go (no k) = below (i - rise ps t) (omega (arith, ladder-length t)) (omega arith)

  pub ladder-once : (t x : ℕ) → t < length ps → times x (ladder ps t) ≤ 1
  ladder-once t x h = keyed-once (depth ps) (depth ps t - rise ps t) (ladder ps t) (λ i b. ladder-depth t i h b) x

  -- the place of v in its own path's ladder, and there Lemma 5: what stands k before v is k climbs above it
  module _ (v : ℕ) (o : OnPath ps v) where
    inside : rise ps o.top + o.steps < length (ladder ps o.top)
    inside = omega (arith, ladder-length o.top, o.short)

    own-rung : get_or (ladder ps o.top) (rise ps o.top + o.steps) 0 ≡ v
    own-rung = rung-path o.top o.steps ∙ o.is

    own-place : place v (ladder ps o.top) ≡ rise ps o.top + o.steps
    own-place = place_is v (ladder ps o.top) (rise ps o.top + o.steps) (ladder-once o.top v o.entry) inside own-rung

    own-climb : (k u : ℕ) → k ≤ height ps v → up ps k v ≡ some u → (k ≤ rise ps o.top + o.steps) × (get_or (ladder ps o.top) (rise ps o.top + o.steps - k) 0 ≡ u)
    own-climb k u b e = (low, go (dec_le k o.steps))
      where
        low : k ≤ rise ps o.top + o.steps
        low = omega (arith, up_depth ps small tree k v u e, up_depth ps small tree o.steps v o.top (on-ancestor ps small tree v o), on-height ps small tree v o)

        go : Dec (k ≤ o.steps) → get_or (ladder ps o.top) (rise ps o.top + o.steps - k) 0 ≡ u
        go (yes l) =
            let z : rise ps o.top + o.steps - k ≡ rise ps o.top + (o.steps - k) = omega arith in
            let r = rw o.is at (path-up ps small tree o.top k o.steps o.entry l o.short) in
            rw z (rung-path o.top (o.steps - k) ∙ some-injective _ _ (sym r ∙ e))
        go (no l) =
            let j = k - o.steps in
            let z : rise ps o.top + o.steps - k ≡ rise ps o.top - j = omega (arith, low) in
            let y : o.steps + j ≡ k = omega arith in
            rw z (rung-up o.top j u (sym (up-add ps o.steps j v o.top (on-ancestor ps small tree v o)) ∙ ap (λ i. up ps i v) y ∙ e) (omega (arith, low)))

  -- the ladders before that of a path, that ladder, and those after it
  pub ladders-split : (t : ℕ) → t < length ps → path_top ps t ≡ true
      → ladders ps ≡ map (ladder ps) (tops_within ps (position ps t)) ++ (ladder ps t ∷ map (ladder ps) (keep (path_top ps) (drop (suc (position ps t)) (order ps))))
  unfolding ladders
  ladders-split t h e = ap (map (ladder ps)) (tops-split ps small tree t h e) ∙ map-append (ladder ps) (tops_within ps (position ps t)) (t ∷ keep (path_top ps) (drop (suc (position ps t)) (order ps)))

  pub ladders-cut : (t : ℕ) → t < length ps → path_top ps t ≡ true
      → flatten (ladders ps) ≡ flatten (map (ladder ps) (tops_within ps (position ps t))) ++ (ladder ps t ++ flatten (map (ladder ps) (keep (path_top ps) (drop (suc (position ps t)) (order ps)))))
  unfolding ladders
  ladders-cut t h e =
      ap (λ l. flatten (map (ladder ps) l)) (tops-split ps small tree t h e)
      ∙ join-split (ladder ps) (tops_within ps (position ps t)) t (keep (path_top ps) (drop (suc (position ps t)) (order ps)))

  -- the ladder of a path begins where those before it end
  pub laid : (t i : ℕ) → t < length ps → path_top ps t ≡ true → i < length (ladder ps t)
      → (rungs_within ps (position ps t) + i < length (flatten (ladders ps))) × (get_or (flatten (ladders ps)) (rungs_within ps (position ps t) + i) 0 ≡ get_or (ladder ps t) i 0)
  laid t i h e b =
      let f = flatten (map (ladder ps) (tops_within ps (position ps t))) in
      let g = flatten (map (ladder ps) (keep (path_top ps) (drop (suc (position ps t)) (order ps)))) in
      let q = ladders-cut t h e in (
        omega (arith, ap length q, length-append f (ladder ps t ++ g), length-append (ladder ps t) g),
        rw q (get_or-append-add f (ladder ps t ++ g) i 0 ∙ get_or-append (ladder ps t) g 0 i b),
      )

  -- LADPOS: where the ladder begins, and as far on as v stands in it
  pub ladpos-on : (v : ℕ) (o : OnPath ps v) → lad_pos ps v ≡ rungs_within ps (position ps o.top) + (rise ps o.top + o.steps)
  unfolding lad_pos
  ladpos-on v o =
      let a = map (ladder ps) (tops_within ps (position ps o.top)) in
      let b = map (ladder ps) (keep (path_top ps) (drop (suc (position ps o.top)) (order ps))) in
      let n : length a ≡ length (tops_within ps (position ps o.top)) = length-map (tops_within ps (position ps o.top)) (ladder ps) in
      rw (own-number ps small tree v o, ladders-split o.top o.entry o.begins, take_at a (ladder ps o.top ∷ b) _ n, get_or_at a (ladder ps o.top) b [] _ n, own-place v o)

  pub ladpos-top : (v : ℕ) → v < length ps → path_top ps v ≡ true → lad_pos ps v ≡ rungs_within ps (position ps v) + rise ps v
  ladpos-top v h e = omega (arith, ladpos-on v (on-own ps small tree v h e))

  pub ladpos-down : (v c : ℕ) → v < length ps → long_child ps v ≡ some c → lad_pos ps c ≡ suc (lad_pos ps v)
  ladpos-down v c h e =
      let o = on-path ps small tree v h in
      omega (arith, ladpos-on v o, ladpos-on c (on-down ps small tree v c e o))

  pub ladpos-next : (v p : ℕ) → parent ps v ≡ some p → path_top ps v ≡ false → lad_pos ps v ≡ suc (lad_pos ps p)
  ladpos-next v p e n =
      let (hv, hp, w) = parent-some ps v p e in
      let (q, f, l) = path-top-no ps small tree v n hv in
      let s : q ≡ p = some-injective q p (sym f ∙ e) in
      ladpos-down p v hp (rw s at l)

  -- v's own word, and 003's Lemma 5: a node of height h has at least h ancestors in its ladder, or all. The word k before v's own is k climbs above v
  pub ladpos-in : (v : ℕ) → v < length ps → lad_pos ps v < length (flatten (ladders ps))
  ladpos-in v h =
      let o = on-path ps small tree v h in
      rw (ladpos-on v o) (laid o.top (rise ps o.top + o.steps) o.entry o.begins (inside v o)).0

  pub lemma-5 : (v k u : ℕ) → k ≤ height ps v → up ps k v ≡ some u → (k ≤ lad_pos ps v) × (get_or (flatten (ladders ps)) (lad_pos ps v - k) 0 ≡ u)
  lemma-5 v k u b e =
      let o = on-path ps small tree v (up_from ps k v u e) in
      let s = rungs_within ps (position ps o.top) in
      let i = rise ps o.top + o.steps in
      let p : lad_pos ps v ≡ s + i = ladpos-on v o in
      let (l, w) = own-climb v o k u b e in
      let z : lad_pos ps v - k ≡ s + (i - k) = omega arith in
      (omega arith, rw z ((laid o.top (i - k) o.entry o.begins (omega (arith, inside v o))).1 ∙ w))

  pub ladder-own : (v : ℕ) → v < length ps → get_or (flatten (ladders ps)) (lad_pos ps v) 0 ≡ v
  unfolding up
  ladder-own v h = let z : lad_pos ps v - 0 ≡ lad_pos ps v = omega arith in rw z at (lemma-5 v 0 v (omega arith) (entry_in ps v h)).1
