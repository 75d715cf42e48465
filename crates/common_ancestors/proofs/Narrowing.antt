-- The search narrows down to the first entry of a's climb that is on b's. Assumes nothing.
use mathlib.Core.Path.{◌≡◌, sym, ap, ◌∙◌}
use mathlib.Core.List.{List}
use mathlib.Core.Bool.{true, false}
use mathlib.Core.Option.{some}
use Rattle.std.specs.Prelude.{Some, None}
use Prim.Native.Nat.{ℕ, zero, suc, ◌+◌, ◌-◌, ◌≤◌, ◌<◌}
use native.Mathlib.Omega.{arith}
use lib.ListN.{length, get_or}
use Rattle.base.specs.Limits.{depth_cell, order_start, order_cell}
use Rattle.tree.specs.Parents.{up, depth}
use Rattle.tree.specs.Level.{Ancestor}
use Rattle.tree.specs.Forest.{order}
use Rattle.tree.proofs.Climbs.{entry_in, entry-some, up-add}
use Rattle.tree.proofs.Depths.{up-some, up_depth, root-depth}
use Rattle.tree.proofs.Intervals.{ancestor-trans, depth-less, root-first}
use Rattle.tree.proofs.Positions.{at_position}
use Rattle.answers.specs.Reading.{word_at}
use Rattle.climbs.proofs.TableWords.{small, tree, depth-word, order-word}
use Rattle.common_ancestors.specs.Common.{Nearest}
use Rattle.common_ancestors.specs.Parts.{Of, Given, Tried, Reached, Between}
use Rattle.common_ancestors.specs.declared.search.Shared.{Shared}
use Rattle.common_ancestors.specs.declared.trial.Trial.{Trial}
use Rattle.common_ancestors.proofs.Climbs.{meets-nearest}
use Rattle.common_ancestors.proofs.Theorems.{nearest-above, nearest-turned}

-- what two entries share, and the climbs between them, are the same in either order
pub nears-turned : (ps : List ℕ) (a b : ℕ) (r : Shared) → Between ps a b r → Between ps b a r
nears-turned ps a b r m = record { nearest = nearest-turned ps a b r.class.0 m.nearest; climbs = omega (arith, m.climbs) }

-- fewer than `low` climbs from a lead to no entry on b's climb, and `high` climbs to `word`, which is one
pub record Narrowed (ps : List ℕ) (a b low high word : ℕ) : Type 0 where
  pub below : (j x : ℕ) → j < low → up ps j a ≡ some x → Ancestor ps x b → ⊥
  pub hit : (up ps high a ≡ some word) × Ancestor ps word b

-- DEPTH has the depth
pub given : (ps t : List ℕ) (n a b da : ℕ) → Of ps t n → a < n → b < n → da ≡ word_at t (depth_cell n a) → Given ps t n a b da
given ps t n a b da of ha hb e = record { of = of; deep = e ∙ depth-word ps t of.prepared a (omega (arith, of.count)); first = ha; second = hb }

module _ (ps t : List ℕ) (n a b da : ℕ) (g : Given ps t n a b da) where
  pub given-shallow : da < n
  given-shallow = omega (arith, g.deep, g.of.count, depth-less ps (small ps t g.of.prepared) (tree ps t g.of.prepared) a (omega (arith, g.first, g.of.count)))

  -- a, where it is at or above b
  pub own-reached : Ancestor ps a b → Reached ps a b (record { class = record { 0 = a }; climbs = 0 })
  unfolding up
  own-reached h = record { reached = entry_in ps a (omega (arith, g.first, g.of.count)); nearest = nearest-above ps (small ps t g.of.prepared) (tree ps t g.of.prepared) a b h }

  -- the climbs from b too, which is so much deeper
  pub reached-both : (db : ℕ) (r : Shared) → db ≡ depth ps b → da ≤ db → Reached ps a b r → Between ps a b (record { class = r.class; climbs = r.climbs + r.climbs + (db - da) })
  reached-both db r e h m =
      let k = small ps t g.of.prepared in
      let c = tree ps t g.of.prepared in
      let o = m.nearest.above-second in
      record { nearest = m.nearest; climbs = omega (arith, e, g.deep, up_depth ps k c r.climbs a r.class.0 m.reached, up_depth ps k c o.climbs b r.class.0 o.reached) }

  -- the top is on both climbs, da climbs from a
  top_reached : (up ps da a ≡ some (tree ps t g.of.prepared).root) × Ancestor ps (tree ps t g.of.prepared).root b
  top_reached =
      let k = small ps t g.of.prepared in
      let c = tree ps t g.of.prepared in
      let (i, r) = c.climbs a (omega (arith, g.first, g.of.count)) in
      let (j, q) = c.climbs b (omega (arith, g.second, g.of.count)) in
      let z : i ≡ da = omega (arith, g.deep, up_depth ps k c i a c.root r, (root-depth ps k c).1) in
      (ap (λ x. up ps x a) (sym z) ∙ r, record { climbs = j; reached = q })

  -- and stands first in the preorder
  top-word : (word : ℕ) → word ≡ word_at t (order_start n) → word ≡ (tree ps t g.of.prepared).root
  top-word word e =
      let p = g.of.prepared in
      let k = small ps t p in
      let c = tree ps t p in
      let z : order_start n ≡ order_cell (length ps) 0 = omega (arith, g.of.count) in
      e ∙ ap (word_at t) z ∙ order-word ps t p 0 (omega (arith, (root-depth ps k c).0)) ∙ ap (λ i. get_or (order ps) i 0) (sym (root-first ps k c)) ∙ at_position ps k c c.root (root-depth ps k c).0

  pub top-entry : (word : ℕ) → word ≡ word_at t (order_start n) → word < n
  top-entry word e = let p = g.of.prepared in omega (arith, top-word word e, (root-depth ps (small ps t p) (tree ps t p)).0, g.of.count)

  -- an entry of depth 0 is the top
  pub top_above : da ≡ 0 → Ancestor ps a b
  unfolding up
  top_above z = let (r, o) = top_reached in let q = (entry-some ps a _ (ap (λ x. up ps x a) (sym z) ∙ r)).0 in rw q o

  pub narrowed-start : (word : ℕ) → word ≡ word_at t (order_start n) → (Ancestor ps a b → ⊥) → Narrowed ps a b 1 da word
  unfolding up
  narrowed-start word e no_way = record { below = go; hit = rw (top-word word e) top_reached }
    where
      go : (j x : ℕ) → j < 1 → up ps j a ≡ some x → Ancestor ps x b → ⊥
      go zero x i e h = let z : a ≡ x = (entry-some ps a x e).0 in no_way (rw z h)
      go (suc j) x i e h = omega arith

  -- the entry that is tried
  climbed : (k : ℕ) → k ≤ da → (x : ℕ) × (up ps k a ≡ some x)
  climbed k h = up-some ps (small ps t g.of.prepared) (tree ps t g.of.prepared) k a (omega (arith, g.first, g.of.count)) (omega (arith, g.deep))

  -- a try tells
  pub tried-known : (k : ℕ) → k ≤ da → ((x : ℕ) → up ps k a ≡ some x → Tried ps x b None) → ⊥
  tried-known k h right = let (x, e) = climbed k h in right x e

  module _ (low high word k : ℕ) (s : Narrowed ps a b low high word) (h : k ≤ da) (r : Trial) (right : (x : ℕ) → up ps k a ≡ some x → Tried ps x b (Some r)) where
    pub narrowed-hit : r.above ≡ true → Narrowed ps a b low k r.entry.0
    narrowed-hit y = let (x, e) = climbed k h in let (entry, tells) = right x e in record { below = s.below; hit = rw entry (e, tells.yes y) }

    pub narrowed-miss : r.above ≡ false → Narrowed ps a b (k + 1) high word
    narrowed-miss n = record { below = go (climbed k h); hit = s.hit }
      where
        -- what is above an entry on b's climb is on it too
        go : (x : ℕ) × (up ps k a ≡ some x) → (j y : ℕ) → j < k + 1 → up ps j a ≡ some y → Ancestor ps y b → ⊥
        go (x, e) j y i f c =
            let z : k ≡ j + (k - j) = omega arith in
            (right x e).1.no n (ancestor-trans ps (small ps t g.of.prepared) (tree ps t g.of.prepared) x y b (record { climbs = k - j; reached = sym (up-add ps j (k - j) a y f) ∙ ap (λ m. up ps m a) (sym z) ∙ e }) c)

  pub narrowed-end : (low high word : ℕ) → Narrowed ps a b low high word → high ≤ low → Nearest ps a b word
  narrowed-end low high word s e = let (r, o) = s.hit in meets-nearest ps (small ps t g.of.prepared) (tree ps t g.of.prepared) a b word high (record { reached = r; on = o; before = λ j x i. s.below j x (omega arith) })
