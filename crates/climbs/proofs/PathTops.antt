-- How path tops and the words of their ladders run on along the preorder, for a pass that fills LADPOS. Assumes nothing.
use mathlib.Core.Path.{◌≡◌, refl, sym, ap, ◌∙◌}
use mathlib.Core.List.{List, [], ◌∷◌, ◌++◌, map, flatten, append-nil}
use mathlib.Core.Bool.{true, false}
use Prim.Native.Nat.{ℕ, suc, ◌+◌, ◌-◌, ◌*◌, ◌≤◌, ◌<◌}
use native.Mathlib.Omega.{arith}
use lib.ListN.{length, get_or, take, drop, length-append}
use lib.Seq.{take-suc, take_all, take-add}
use Rattle.base.specs.Lists.{keep}
use Rattle.base.proofs.Filters.{keep_append, keep-yes, keep-no}
use Rattle.base.proofs.Joins.{join-append}
use Rattle.base.specs.Limits.{top_mark}
use Rattle.tree.specs.Forest.{height, order, position, path_top}
use Rattle.tree.specs.Faults.{Tree}
use Rattle.tree.proofs.Positions.{order-length, position_in, at_position, position-is, order-in}
use Rattle.table.specs.Ladders.{ladder, path_tops, ladders, lad_pos}
use Rattle.climbs.proofs.OwnPaths.{tops_within}
use Rattle.climbs.proofs.Ladders.{rise, rungs_within, ladder-length, ladpos-top}
use Rattle.climbs.proofs.Room.{ladders-fit}

module _ (ps : List ℕ) (small : length ps ≤ top_mark) (tree : Tree ps) where
  -- the path tops, one entry of the preorder further
  module _ (i v : ℕ) (h : i < length ps) (at : get_or (order ps) i 0 ≡ v) where
    next : take (suc i) (order ps) ≡ take i (order ps) ++ (v ∷ [])
    next = rw at at (take-suc (order ps) i 0 (omega (arith, order-length ps small tree)))

    pub tops-more : path_top ps v ≡ true → tops_within ps (suc i) ≡ tops_within ps i ++ (v ∷ [])
    unfolding keep
    tops-more e = ap (keep (path_top ps)) next ∙ keep_append (path_top ps) (take i (order ps)) (v ∷ []) ∙ ap (λ l. tops_within ps i ++ l) (keep-yes (path_top ps) v [] e)

    pub tops-same : path_top ps v ≡ false → tops_within ps (suc i) ≡ tops_within ps i
    unfolding keep
    tops-same e = ap (keep (path_top ps)) next ∙ keep_append (path_top ps) (take i (order ps)) (v ∷ []) ∙ ap (λ l. tops_within ps i ++ l) (keep-no (path_top ps) v [] e) ∙ append-nil (tops_within ps i)

    -- and the words of their ladders
    pub rungs-more : path_top ps v ≡ true → rungs_within ps (suc i) ≡ rungs_within ps i + (rise ps v + height ps v)
    unfolding flatten
    rungs-more e =
        let a = flatten (map (ladder ps) (tops_within ps i)) in
        let q = ap (λ l. length (flatten (map (ladder ps) l))) (tops-more e) in
        omega (arith, ap length (join-append (ladder ps) (tops_within ps i) (v ∷ [])), length-append a (ladder ps v ++ []), length-append (ladder ps v) [], ladder-length ps small tree v)

    pub rungs-same : path_top ps v ≡ false → rungs_within ps (suc i) ≡ rungs_within ps i
    rungs-same e = ap (λ l. length (flatten (map (ladder ps) l))) (tops-same e)

  -- from none to all of them, and never more than 2n words
  pub tops-none : tops_within ps 0 ≡ []
  unfolding keep
  tops-none = refl

  pub tops-all : tops_within ps (length ps) ≡ path_tops ps
  tops-all = ap (keep (path_top ps)) (take_all (length ps) (order ps) (omega (arith, order-length ps small tree)))

  pub rungs-none : rungs_within ps 0 ≡ 0
  unfolding keep flatten
  rungs-none = refl

  pub rungs-all : rungs_within ps (length ps) ≡ length (flatten (ladders ps))
  unfolding ladders
  rungs-all = ap (λ l. length (flatten (map (ladder ps) l))) tops-all

  pub rungs-grow : (i j : ℕ) → i ≤ j → rungs_within ps i ≤ rungs_within ps j
  rungs-grow i j h =
      let m = j - i in
      let z : i + m ≡ j = omega arith in
      let b = keep (path_top ps) (take m (drop i (order ps))) in
      let q : tops_within ps j ≡ tops_within ps i ++ b = ap (tops_within ps) (sym z) ∙ ap (keep (path_top ps)) (take-add i m (order ps)) ∙ keep_append (path_top ps) (take i (order ps)) (take m (drop i (order ps))) in
      omega (arith, ap (λ l. length (flatten (map (ladder ps) l))) q, ap length (join-append (ladder ps) (tops_within ps i) b), length-append (flatten (map (ladder ps) (tops_within ps i))) (flatten (map (ladder ps) b)))

  pub rungs-fit : (i : ℕ) → i ≤ length ps → rungs_within ps i ≤ 2 * length ps
  rungs-fit i h = omega (arith, rungs-grow i (length ps) h, rungs-all, ladders-fit ps small tree)

  -- where a path top's ladder begins, as the pass over the preorder meets the top, and where the next one begins
  pub ladpos-met : (i v : ℕ) → i < length ps → get_or (order ps) i 0 ≡ v → path_top ps v ≡ true → lad_pos ps v ≡ rungs_within ps i + rise ps v
  ladpos-met i v h at e =
      let b : v < length ps = rw at at (order-in ps small tree i h) in
      ladpos-top ps small tree v b e ∙ ap (λ j. rungs_within ps j + rise ps v) (position-is ps small tree v i b h at)

  pub ladder-end : (t : ℕ) → t < length ps → path_top ps t ≡ true → rungs_within ps (suc (position ps t)) ≡ rungs_within ps (position ps t) + (rise ps t + height ps t)
  ladder-end t h e = rungs-more (position ps t) t (position_in ps small tree t h) (at_position ps small tree t h) e
