-- The ladders fit 2n words: each has at most twice the entries of its path, and the paths share the entries out. Assumes nothing.
use mathlib.Core.Path.{◌≡◌, ap, ◌∙◌}
use mathlib.Core.List.{List, [], ◌∷◌, map, flatten}
use Prim.Native.Nat.{ℕ, ◌*◌, ◌≤◌, ◌<◌}
use native.Mathlib.Omega.{arith}
use native.Mathlib.Decide.{dec_le, dec_lt}
use lib.ListN.{length, length-append}
use lib.Dec.{ltb}
use borrow.Author.Tests.{lt-ltb, le-ltb}
use Rattle.base.specs.Lists.{place}
use Rattle.base.proofs.Counts.{one, times, length-sum, ones-all}
use Rattle.base.proofs.Places.{place-stands}
use Rattle.base.proofs.Filters.{keep-most}
use Rattle.base.proofs.Joins.{join-none, join_one}
use Rattle.base.specs.Limits.{top_mark}
use Rattle.tree.specs.Forest.{order, path_top, path_from}
use Rattle.tree.specs.Faults.{Tree}
use Rattle.tree.proofs.Positions.{order-length}
use Rattle.table.specs.Ladders.{ladder, path_tops, ladders}
use Rattle.climbs.proofs.Paths.{path-length, path-in}
use Rattle.climbs.proofs.OwnPaths.{on-path, own-once, off-path, tops-once, tops-in}
use Rattle.climbs.proofs.Ladders.{ladder-length}

module _ (ps : List ℕ) (small : length ps ≤ top_mark) (tree : Tree ps) where
  pub paths-few : length (path_tops ps) ≤ length ps
  paths-few = omega (arith, keep-most (path_top ps) (order ps), order-length ps small tree)

  -- the long paths together have each entry once
  path-past : (t x : ℕ) → t < length ps → length ps ≤ x → times x (path_from ps t) ≡ 0
  path-past t x h b = go (dec_le 1 (times x (path_from ps t)))
    where
      go : Dec (1 ≤ times x (path_from ps t)) → times x (path_from ps t) ≡ 0
      go (no k) = omega arith
      go (yes k) =
          let (l, q) = place-stands x (path_from ps t) k in
          absurd (omega (arith, (path-in ps small tree t (place x (path_from ps t)) h (omega (arith, path-length ps small tree t))).0))

  pub paths-once : (x : ℕ) → times x (flatten (map (path_from ps) (path_tops ps))) ≡ one (ltb x (length ps))
  paths-once x = go (dec_lt x (length ps))
    where
      go : Dec (x < length ps) → times x (flatten (map (path_from ps) (path_tops ps))) ≡ one (ltb x (length ps))
      go (yes h) =
          let o = on-path ps small tree x h in
          rw (lt-ltb x (length ps) h)
          (join_one x (path_from ps) o.top (path_tops ps) (tops-once ps small tree o.top o.entry o.begins) (λ s k n. let (hs, es) = tops-in ps small tree s k in off-path ps small tree x s o hs es n)
          ∙ own-once ps small tree x o)
      go (no h) = rw (le-ltb x (length ps) (omega arith)) (join-none x (path_from ps) (path_tops ps) (λ t k. path-past t x (tops-in ps small tree t k).0 (omega arith)))

  pub paths-share : length (flatten (map (path_from ps) (path_tops ps))) ≡ length ps
  paths-share =
      length-sum (length ps) (flatten (map (path_from ps) (path_tops ps))) (λ x h. paths-once x ∙ ap one (le-ltb x (length ps) h))
      ∙ simp paths-once (ones-all (length ps) (λ x. ltb x (length ps)) (λ x h. lt-ltb x (length ps) h))

  -- so the ladders have room
  ladders-short : (l : List ℕ) → length (flatten (map (ladder ps) l)) ≤ 2 * length (flatten (map (path_from ps) l))
  unfolding flatten
  ladders-short [] = omega arith
  ladders-short (t ∷ l) =
      omega (arith, ladders-short l, length-append (ladder ps t) (flatten (map (ladder ps) l)), length-append (path_from ps t) (flatten (map (path_from ps) l)), ladder-length ps small tree t, path-length ps small tree t)

  pub ladders-fit : length (flatten (ladders ps)) ≤ 2 * length ps
  unfolding ladders
  ladders-fit = omega (arith, ladders-short (path_tops ps), paths-share)
