-- Which words fill LADDERS: each is an entry's own or above a path top. Assumes nothing.
use mathlib.Core.Path.{◌≡◌, refl, sym, ap, ◌∙◌}
use mathlib.Core.Logic.{◌⊎◌, inl, inr}
use mathlib.Core.List.{List, ◌∷◌, ◌++◌, map, flatten}
use mathlib.Core.Bool.{true}
use mathlib.Core.Option.{some}
use Prim.Native.Nat.{ℕ, suc, ◌+◌, ◌-◌, ◌*◌, ◌≤◌, ◌<◌}
use native.Mathlib.Omega.{arith}
use native.Mathlib.Decide.{dec_lt}
use lib.ListN.{length, get_or, take, drop, length-append}
use lib.Seq.{take_at, get_or_at, ext_get_or}
use Rattle.base.specs.Lists.{keep, padded}
use Rattle.base.proofs.Counts.{times}
use Rattle.base.proofs.Places.{stands, place_is}
use Rattle.base.proofs.Joins.{join-find, padded-in, padded-past}
use Rattle.base.specs.Limits.{top_mark}
use Rattle.tree.specs.Parents.{up}
use Rattle.tree.specs.Forest.{height, order, position, path_top, path_from}
use Rattle.tree.specs.Faults.{Tree}
use Rattle.tree.proofs.Depths.{up-some}
use Rattle.tree.proofs.Positions.{at_position}
use Rattle.table.specs.Ladders.{ladder, path_tops, ladders, lad_pos}
use Rattle.climbs.proofs.Paths.{path-in}
use Rattle.climbs.proofs.OwnPaths.{OnPath, tops_within, on-path, tops-once, tops-in, tops-split}
use Rattle.climbs.proofs.Ladders.{rise, rungs_within, ladder-length, ladpos-on, ladpos-top, lemma-5, ladder-own}
use Rattle.climbs.proofs.SectionLengths.{ladder-cells-length}
use Rattle.climbs.proofs.PathTops.{rungs-grow, ladder-end}

-- word j of LADDERS stands 1 or more before a path top's own word, in that top's ladder
pub record Above (ps : List ℕ) (j : ℕ) : Type 0 where
  pub top : ℕ
  pub climbs : ℕ
  pub entry : top < length ps
  pub begins : path_top ps top ≡ true
  pub strict : 1 ≤ climbs
  pub near : climbs ≤ rise ps top
  pub at : lad_pos ps top ≡ j + climbs

module _ (ps : List ℕ) (small : length ps ≤ top_mark) (tree : Tree ps) where
  -- the tops before a path's own top, by the path's number
  ladder-start : (t i : ℕ) → t < length ps → path_top ps t ≡ true → i < length (path_tops ps) → get_or (path_tops ps) i 0 ≡ t → take i (path_tops ps) ≡ tops_within ps (position ps t)
  ladder-start t i h e b q =
      let a = tops_within ps (position ps t) in
      let r = keep (path_top ps) (drop (suc (position ps t)) (order ps)) in
      let s : path_tops ps ≡ a ++ (t ∷ r) = tops-split ps small tree t h e in
      let o : times t (path_tops ps) ≤ 1 = omega (arith, tops-once ps small tree t h e) in
      let m = place_is t (path_tops ps) i o b q in
      let n = place_is t (path_tops ps) (length a) o (omega (arith, ap length s, length-append a (t ∷ r))) (rw s (get_or_at a t r 0 (length a) refl)) in
      rw s (take_at a (t ∷ r) i (sym n ∙ m))

  -- a word of LADDERS is an entry's own, of one entry, or above a path top, and not both
  pub own-or-above : (j : ℕ) → j < length (flatten (ladders ps)) → ((v : ℕ) × (v < length ps) × (lad_pos ps v ≡ j)) ⊎ Above ps j
  unfolding ladders
  own-or-above j h = let (i, k, b, l, e) = join-find (ladder ps) (path_tops ps) j 0 h in found i k (get_or (path_tops ps) i 0) b refl l e
    where
      Cell : Type 0
      Cell = ((v : ℕ) × (v < length ps) × (lad_pos ps v ≡ j)) ⊎ Above ps j

      below : (t m : ℕ) → t < length ps → path_top ps t ≡ true → m < height ps t → j ≡ rungs_within ps (position ps t) + (rise ps t + m) → Cell
      below t m h b l e =
          let o : OnPath ps (get_or (path_from ps t) m 0) = record { top = t; steps = m; entry = h; begins = b; short = l; is = refl } in
          inl (get_or (path_from ps t) m 0, (path-in ps small tree t m h l).0, ladpos-on ps small tree (get_or (path_from ps t) m 0) o ∙ sym e)

      side : (k t : ℕ) → t < length ps → path_top ps t ≡ true → k < length (ladder ps t) → j ≡ rungs_within ps (position ps t) + k → Dec (k < rise ps t) → Cell
      side k t h b l e (yes d) = inr (record {
        top = t;
        climbs = rise ps t - k;
        entry = h;
        begins = b;
        strict = omega arith;
        near = omega arith;
        at = omega (arith, ladpos-top ps small tree t h b);
      })
      side k t h b l e (no d) = below t (k - rise ps t) h b (omega (arith, ladder-length ps small tree t)) (omega arith)

      found : (i k t : ℕ) → i < length (path_tops ps) → get_or (path_tops ps) i 0 ≡ t → k < length (ladder ps t) → j ≡ length (flatten (map (ladder ps) (take i (path_tops ps)))) + k → Cell
      found i k t b q l e =
          let (h, c) = tops-in ps small tree t (stands t (path_tops ps) i b q) in
          side k t h c l (e ∙ ap (λ a. length (flatten (map (ladder ps) a)) + k) (ladder-start t i h c b q)) (dec_lt k (rise ps t))

  pub ladpos-one : (v w : ℕ) → v < length ps → w < length ps → lad_pos ps v ≡ lad_pos ps w → v ≡ w
  ladpos-one v w h k e = sym (ladder-own ps small tree v h) ∙ ap (λ i. get_or (flatten (ladders ps)) i 0) e ∙ ladder-own ps small tree w k

  pub own-not-above : (v : ℕ) → v < length ps → Above ps (lad_pos ps v) → ⊥
  own-not-above v h a = go (on-path ps small tree v h)
    where
      own-t : lad_pos ps a.top ≡ rungs_within ps (position ps a.top) + rise ps a.top
      own-t = ladpos-top ps small tree a.top a.entry a.begins

      apart : (o : OnPath ps v) → Dec (position ps o.top < position ps a.top) → Dec (position ps a.top < position ps o.top) → ⊥
      apart o (yes l) r = omega (arith, own-t, a.at, a.near, o.short, ladpos-on ps small tree v o, ladder-end ps small tree o.top o.entry o.begins, rungs-grow ps small tree (suc (position ps o.top)) (position ps a.top) l)
      apart o (no l) (yes r) = omega (arith, own-t, a.at, ladpos-on ps small tree v o, ladder-end ps small tree a.top a.entry a.begins, rungs-grow ps small tree (suc (position ps a.top)) (position ps o.top) r)
      apart o (no l) (no r) =
          let p : position ps o.top ≡ position ps a.top = omega arith in
          let q : o.top ≡ a.top = sym (at_position ps small tree o.top o.entry) ∙ ap (λ i. get_or (order ps) i 0) p ∙ at_position ps small tree a.top a.entry in
          omega (arith, own-t, a.at, a.strict, ladpos-on ps small tree v o, ap (rungs_within ps) p, ap (rise ps) q)

      go : OnPath ps v → ⊥
      go o = apart o (dec_lt (position ps o.top) (position ps a.top)) (dec_lt (position ps a.top) (position ps o.top))

  -- what stands above a path top is its ancestor, as many climbs up
  pub above-is : (j : ℕ) (a : Above ps j) (u : ℕ) → up ps a.climbs a.top ≡ some u → get_or (flatten (ladders ps)) j 0 ≡ u
  above-is j a u e =
      let z : lad_pos ps a.top - a.climbs ≡ j = omega (arith, a.at) in
      rw z at (lemma-5 ps small tree a.top a.climbs u (omega (arith, a.near)) e).1

  -- so a section that has each entry at its LADPOS, the ancestors of each path top before that top, and zeros behind, is LADDERS
  pub filled : (l : List ℕ) → length l ≡ 2 * length ps
      → ((v : ℕ) → v < length ps → get_or l (lad_pos ps v) 0 ≡ v)
      → ((t k u : ℕ) → t < length ps → path_top ps t ≡ true → 1 ≤ k → k ≤ rise ps t → up ps k t ≡ some u → get_or l (lad_pos ps t - k) 0 ≡ u)
      → ((j : ℕ) → length (flatten (ladders ps)) ≤ j → j < length l → get_or l j 0 ≡ 0)
      → l ≡ padded (2 * length ps) (flatten (ladders ps))
  filled l n own above past =
      ext_get_or 0 l (padded (2 * length ps) (flatten (ladders ps))) (n ∙ sym (ladder-cells-length ps small tree))
      (λ j h. go j h (dec_lt j (length (flatten (ladders ps)))))
    where
      high : (j : ℕ) (a : Above ps j) (u : ℕ) → up ps a.climbs a.top ≡ some u → get_or l j 0 ≡ get_or (flatten (ladders ps)) j 0
      high j a u e =
          let z : lad_pos ps a.top - a.climbs ≡ j = omega (arith, a.at) in
          (rw z at (above a.top a.climbs u a.entry a.begins a.strict a.near e)) ∙ sym (above-is j a u e)

      cell : (j : ℕ) → ((v : ℕ) × (v < length ps) × (lad_pos ps v ≡ j)) ⊎ Above ps j → get_or l j 0 ≡ get_or (flatten (ladders ps)) j 0
      cell j (inl (v, h, e)) = ap (λ i. get_or l i 0) (sym e) ∙ own v h ∙ sym (ladder-own ps small tree v h) ∙ ap (λ i. get_or (flatten (ladders ps)) i 0) e
      cell j (inr a) = let (u, e) = up-some ps small tree a.climbs a.top a.entry (omega (arith, a.near)) in high j a u e

      go : (j : ℕ) → j < length l → Dec (j < length (flatten (ladders ps))) → get_or l j 0 ≡ get_or (padded (2 * length ps) (flatten (ladders ps))) j 0
      go j h (yes b) = cell j (own-or-above j b) ∙ sym (padded-in (2 * length ps) (flatten (ladders ps)) j b)
      go j h (no b) = past j (omega arith) h ∙ sym (padded-past (2 * length ps) (flatten (ladders ps)) j (omega arith))
