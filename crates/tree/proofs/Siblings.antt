-- The children of an entry of a list that forms one tree: the one that is listed first stands earlier. Assumes nothing.
use mathlib.Core.Path.{◌≡◌, sym, ap, ◌∙◌}
use mathlib.Core.List.{List, [], ◌∷◌, ◌++◌, append_assoc}
use mathlib.Core.Option.{some}
use Prim.Native.Nat.{ℕ, ◌+◌, ◌≤◌, ◌<◌}
use native.Mathlib.Omega.{arith}
use lib.ListN.{length}
use Rattle.base.proofs.Counts.{times}
use Rattle.base.proofs.Places.{parted}
use Rattle.base.specs.Limits.{top_mark}
use Rattle.tree.specs.Parents.{parent, children}
use Rattle.tree.specs.Forest.{Forest, empty, node, plant, forest_size, forest_height, under, position}
use Rattle.tree.specs.Faults.{Tree}
use Rattle.tree.proofs.Climbs.{parent-some}
use Rattle.tree.proofs.Forests.{of-child}
use Rattle.tree.proofs.Intervals.{child-at}

-- the entries of two first levels joined
pub size-join : (f : ℕ → Forest) (vs ws : List ℕ) → forest_size (plant f (vs ++ ws)) ≡ forest_size (plant f vs) + forest_size (plant f ws)
unfolding forest_size plant
size-join f [] ws = omega arith
size-join f (v ∷ vs) ws = omega (arith, size-join f vs ws)

-- a forest has no more levels than entries
pub height-most : (f : Forest) → forest_height f ≤ forest_size f
unfolding forest_height forest_size
height-most empty = omega arith
height-most (node v b later) = omega (arith, height-most b, height-most later)

-- a child among the children of p: those before it stand earlier, and those behind it later
pub record Child (ps : List ℕ) (c p : ℕ) : Type 0 where
  pub before : List ℕ
  pub after : List ℕ
  pub children-are : children ps p ≡ before ++ (c ∷ after)
  pub earlier : (x : ℕ) → 1 ≤ times x before → position ps x < position ps c
  pub later : (x : ℕ) → 1 ≤ times x after → position ps c < position ps x

module _ (ps : List ℕ) (small : length ps ≤ top_mark) (tree : Tree ps) where
  -- of two children the one that is listed first stands earlier
  elder : (v : ℕ) (a b e : List ℕ) (x y : ℕ) → v < length ps → children ps v ≡ a ++ (x ∷ (b ++ (y ∷ e))) → position ps x < position ps y
  unfolding forest_size plant
  elder v a b e x y h q =
      omega (arith, child-at ps small tree v a x (b ++ (y ∷ e)) h q, child-at ps small tree v (a ++ (x ∷ b)) y e h (q ∙ sym (append_assoc a (x ∷ b) (y ∷ e))), size-join (under ps) a (x ∷ b))

  pub child : (c p : ℕ) → parent ps c ≡ some p → Child ps c p
  child c p e =
      let (hc, hp, w) = parent-some ps c p e in
      let (a, b, q) = parted c (children ps p) (omega (arith, rw w at (of-child ps small c hc))) in
      record {
        before = a;
        after = b;
        children-are = q;
        earlier = λ x k. let (m, r, z) = parted x a k in elder p m r b x c hp (q ∙ ap (λ l. l ++ (c ∷ b)) z ∙ append_assoc m (x ∷ r) (c ∷ b));
        later = λ x k. let (m, r, z) = parted x b k in elder p a m r c x hp (q ∙ ap (λ l. a ++ (c ∷ l)) z);
      }
