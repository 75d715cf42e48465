-- Of a list that forms one tree: every entry has one position in the preorder. Assumes nothing.
use mathlib.Core.Path.{◌≡◌, refl, sym, ap, ◌∙◌}
use mathlib.Core.List.{List, ◌∷◌, ◌++◌}
use mathlib.Core.Bool.{Bool, true}
use Prim.Native.Nat.{ℕ, suc, ◌≤◌, ◌<◌}
use native.Mathlib.Omega.{arith}
use lib.ListN.{length, get_or, take, drop, length-take}
use lib.Seq.{get_or-take}
use Rattle.base.specs.Lists.{keep, place}
use Rattle.base.proofs.Counts.{one, times}
use Rattle.base.proofs.Places.{place-stands, place_is}
use Rattle.base.proofs.Filters.{keep-split}
use Rattle.base.specs.Limits.{top_mark}
use Rattle.tree.specs.Forest.{order, position}
use Rattle.tree.specs.Faults.{Tree}
use Rattle.tree.proofs.OneTree.{tree-meets}
use Rattle.tree.proofs.Forests.{order-once, order-meets, meets-full}

module _ (ps : List ℕ) (small : length ps ≤ top_mark) (tree : Tree ps) where
  -- all n entries are in the preorder, each once
  pub order-length : length (order ps) ≡ length ps
  order-length = meets-full ps small (tree-meets ps small tree)

  pub entry-once : (v : ℕ) → v < length ps → times v (order ps) ≡ 1
  entry-once v h = order-once ps small v ∙ ap one (tree-meets ps small tree v h)

  -- so an entry stands at its position
  pub position_in : (v : ℕ) → v < length ps → position ps v < length ps
  position_in v h = omega (arith, order-length, (place-stands v (order ps) (omega (arith, entry-once v h))).0)

  pub at_position : (v : ℕ) → v < length ps → get_or (order ps) (position ps v) 0 ≡ v
  at_position v h = (place-stands v (order ps) (omega (arith, entry-once v h))).1

  pub position-is : (v i : ℕ) → v < length ps → i < length ps → get_or (order ps) i 0 ≡ v → position ps v ≡ i
  position-is v i h b e = place_is v (order ps) i (omega (arith, entry-once v h)) (omega (arith, order-length)) e

  -- and at each position stands an entry, which has that position
  pub order-in : (i : ℕ) → i < length ps → get_or (order ps) i 0 < length ps
  order-in i b = (order-meets ps small i (omega (arith, order-length))).0

  pub position-of : (i : ℕ) → i < length ps → position ps (get_or (order ps) i 0) ≡ i
  position-of i b = position-is (get_or (order ps) i 0) i (order-in i b) b refl

  -- what is among the first i has a position below i
  pub position-before : (x i : ℕ) → 1 ≤ times x (take i (order ps)) → (x < length ps) × (position ps x < i)
  position-before x i h =
      let k = place x (take i (order ps)) in
      let (b, e) = place-stands x (take i (order ps)) h in
      let c : k < i = omega (arith, length-take i (order ps)) in
      let n : k < length ps = omega (arith, length-take i (order ps), order-length) in
      let q : get_or (order ps) k 0 ≡ x = sym (get_or-take i (order ps) k 0 c) ∙ e in
      (omega (arith, order-in k n, q), omega (arith, position-of k n, ap (position ps) q))

  -- of what passes a test, an entry comes behind those that stand before it
  pub order-keep : (test : ℕ → Bool) (v : ℕ) → v < length ps → test v ≡ true
      → keep test (order ps) ≡ keep test (take (position ps v) (order ps)) ++ (v ∷ keep test (drop (suc (position ps v)) (order ps)))
  order-keep test v h e =
      let q = at_position v h in
      rw q at (keep-split test (order ps) (position ps v) 0 (omega (arith, position_in v h, order-length)) (ap test q ∙ e))
