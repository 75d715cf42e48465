-- Of a list that forms one tree: an entry and all below it stand side by side in the preorder, and that is what an ancestor is. Assumes nothing.
use mathlib.Core.Path.{◌≡◌, refl, sym, ap, ◌∙◌}
use mathlib.Core.Logic.{◌⊎◌, inl, inr, ◌↔◌}
use mathlib.Core.List.{List, [], ◌∷◌, ◌++◌, append_assoc, append-nil}
use mathlib.Core.Option.{Option, none, some, some-ne-none}
use Prim.Native.Nat.{ℕ, zero, suc, ◌+◌, ◌-◌, ◌≤◌, ◌<◌}
use native.Mathlib.Omega.{arith}
use native.Mathlib.Decide.{ℕ_discrete, dec_le}
use lib.ListN.{length, get_or, take, drop, length-append, length-take, length-drop, take-append-drop, get_or-append}
use lib.Seq.{get_or-append-add, get_or_at, drop-append_seam, drop-drop, take_at, take-add, take-take}
use Rattle.base.proofs.Counts.{times, times-append}
use Rattle.base.proofs.Places.{one-most, times-same, times-other, stands}
use Rattle.base.specs.Limits.{top_mark}
use Rattle.tree.specs.Parents.{word, parent, up, depth, children}
use Rattle.tree.specs.Forest.{Forest, plant, grow, preorder, forest_size, forest_height, under, size, height, family, order, position}
use Rattle.tree.specs.Level.{Ancestor}
use Rattle.tree.specs.Faults.{Tree, meets_top}
use Rattle.tree.proofs.Climbs.{entry_in, entry-some, parent-some, parent_in, up_step, up_first, up_in, up_from, up-add}
use Rattle.tree.proofs.OneTree.{tree-meets, root_in, root-alone}
use Rattle.tree.proofs.Depths.{climb-most, depth-top, depth-parent, up_depth}
use Rattle.tree.proofs.Forests.{Measure, size-measure, height-measure, plant-more, plant-append, forest-length, child-of, of-child, under-eq, whole-eq, order-once}
use Rattle.tree.proofs.Positions.{order-length, at_position, position-is, order-in, position-of}

-- s is a part of l: its entries stand side by side there
record Part (l s : List ℕ) : Type 0 where
  front : List ℕ
  back : List ℕ
  is : l ≡ front ++ (s ++ back)

abbrev part-part : (l s r : List ℕ) → Part l s → Part s r → Part l r
part-part l s r p q = record {
  front = p.front ++ q.front;
  back = q.back ++ p.back;
  is = p.is ∙ rw q.is (simp append_assoc);
}

-- each of a forest's first level, with all below it, is a part of the forest's preorder; and each entry of that preorder is in such a part
plant-part : (f : ℕ → Forest) (c : ℕ) (vs : List ℕ) → 1 ≤ times c vs → Part (preorder (plant f vs)) (c ∷ preorder (f c))
unfolding preorder plant times
plant-part f c [] h = absurd (omega arith)
plant-part f c (v ∷ vs) h = go (ℕ_discrete c v) (plant-part f c vs)
  where
    go : Dec (c ≡ v) → (1 ≤ times c vs → Part (preorder (plant f vs)) (c ∷ preorder (f c))) → Part (v ∷ (preorder (f v) ++ preorder (plant f vs))) (c ∷ preorder (f c))
    go (yes e) ih = record { front = []; back = preorder (plant f vs); is = rw e }
    go (no e) ih =
        let r = ih (omega (arith, times-other c v vs e)) in
        record { front = v ∷ (preorder (f v) ++ r.front); back = r.back; is = ap (λ l. v ∷ (preorder (f v) ++ l)) r.is ∙ simp append_assoc }

plant-holds : (f : ℕ → Forest) (x : ℕ) (vs : List ℕ) → 1 ≤ times x (preorder (plant f vs)) → (c : ℕ) × (1 ≤ times c vs) × (1 ≤ times x (c ∷ preorder (f c)))
unfolding preorder plant times
plant-holds f x [] h = absurd (omega arith)
plant-holds f x (v ∷ vs) h = go (dec_le 1 (times x (v ∷ preorder (f v)))) (plant-holds f x vs)
  where
    go : Dec (1 ≤ times x (v ∷ preorder (f v))) → (1 ≤ times x (preorder (plant f vs)) → (c : ℕ) × (1 ≤ times c vs) × (1 ≤ times x (c ∷ preorder (f c))))
        → (c : ℕ) × (1 ≤ times c (v ∷ vs)) × (1 ≤ times x (c ∷ preorder (f c)))
    go (yes k) ih = (v, omega (arith, times-same v v vs refl), k)
    go (no k) ih =
        let (c, i, j) = ih (omega (arith, times-append x (preorder (f v)) (preorder (plant f vs)))) in
        (c, omega arith, j)

module _ (ps : List ℕ) (small : length ps ≤ top_mark) (tree : Tree ps) where
  -- ancestors, climb by climb
  pub ancestor-in : (u v : ℕ) → Ancestor ps u v → (u < length ps) × (v < length ps)
  ancestor-in u v a = (up_in ps a.climbs v u a.reached, up_from ps a.climbs v u a.reached)

  pub ancestor-self : (v : ℕ) → v < length ps → Ancestor ps v v
  unfolding up
  ancestor-self v h = record { climbs = 0; reached = entry_in ps v h }

  pub ancestor-trans : (u w v : ℕ) → Ancestor ps u w → Ancestor ps w v → Ancestor ps u v
  ancestor-trans u w v a b = record { climbs = b.climbs + a.climbs; reached = up-add ps b.climbs a.climbs v w b.reached ∙ a.reached }

  pub ancestor-parent : (v p : ℕ) → parent ps v ≡ some p → Ancestor ps p v
  unfolding up
  ancestor-parent v p e = record { climbs = 1; reached = up_step ps 0 v p e ∙ entry_in ps p (parent-some ps v p e).1 }

  pub ancestor-first : (u v : ℕ) → Ancestor ps u v → (v ≡ u) ⊎ ((p : ℕ) × (parent ps v ≡ some p) × Ancestor ps u p)
  unfolding up
  ancestor-first u v a = go a.climbs a.reached
    where
      go : (k : ℕ) → up ps k v ≡ some u → (v ≡ u) ⊎ ((p : ℕ) × (parent ps v ≡ some p) × Ancestor ps u p)
      go zero e = inl (entry-some ps v u e).0
      go (suc k) e = let (p, q, r) = up_first ps k v u e in inr (p, q, record { climbs = k; reached = r })

  -- what is below an entry's parent
  parent-under : (v p : ℕ) → parent ps v ≡ some p → (under ps p ≡ plant (under ps) (children ps p)) × (1 ≤ times v (children ps p))
  parent-under v p e =
      let (hv, hp, w) = parent-some ps v p e in
      (under-eq ps small p hp (tree-meets ps small tree p hp), omega (arith, rw w at (of-child ps small v hv)))

  -- each climb adds an entry at least to the size, and to the height
  measure-up : (m : Forest → ℕ) → Measure m → (k v u : ℕ) → up ps k v ≡ some u → k + m (under ps v) ≤ m (under ps u)
  unfolding up
  measure-up m is zero v u e = omega (arith, ap (λ x. m (under ps x)) (entry-some ps v u e).0)
  measure-up m is (suc k) v u e =
      let (p, q, r) = up_first ps k v u e in
      let (s, t) = parent-under v p q in
      omega (arith, measure-up m is k p u r, ap m s, plant-more m is (under ps) v (children ps p) t)

  pub size-up : (k v u : ℕ) → up ps k v ≡ some u → k + size ps v ≤ size ps u
  size-up k v u e = omega (arith, measure-up forest_size size-measure k v u e)

  pub height-up : (k v u : ℕ) → up ps k v ≡ some u → k + height ps v ≤ height ps u
  height-up k v u e = omega (arith, measure-up forest_height height-measure k v u e)

  pub ancestor-size : (u v : ℕ) → Ancestor ps u v → v < length ps → size ps v ≤ size ps u
  ancestor-size u v a h = omega (arith, size-up a.climbs v u a.reached)

  pub depth-less : (v : ℕ) → v < length ps → depth ps v < length ps
  unfolding depth
  depth-less v h = omega (arith, climb-most ps small (length ps) v)

  -- an entry's family is a part of each ancestor's, and so of the preorder, which is the top's
  pub family-length : (v : ℕ) → length (family ps v) ≡ size ps v
  family-length v = ap suc (forest-length (under ps v))

  up-part : (k v u : ℕ) → up ps k v ≡ some u → Part (family ps u) (family ps v)
  unfolding up
  up-part zero v u e = record { front = []; back = []; is = rw (entry-some ps v u e).0 (sym (append-nil (family ps u))) }
  up-part (suc k) v u e =
      let (p, q, r) = up_first ps k v u e in
      part-part (family ps u) (family ps p) (family ps v) (up-part k p u r) (inner p (parent-under v p q))
    where
      inner : (p : ℕ) → (under ps p ≡ plant (under ps) (children ps p)) × (1 ≤ times v (children ps p)) → Part (family ps p) (family ps v)
      inner p s =
          let r : Part (preorder (under ps p)) (family ps v) = rw s.0 (plant-part (under ps) v (children ps p) s.1) in
          record { front = p ∷ r.front; back = r.back; is = ap (◌∷◌ p) r.is }

  pub order-family : order ps ≡ family ps tree.root
  unfolding preorder plant
  order-family = ap preorder (whole-eq ps small ∙ ap (plant (under ps)) (root-alone ps small tree)) ∙ ap (◌∷◌ tree.root) (append-nil _)

  part : (v : ℕ) → v < length ps → Part (order ps) (family ps v)
  part v h = let (k, e) = tree.climbs v h in rw order-family (up-part k v tree.root e)

  -- a part that begins with an entry begins at the entry's position
  part-starts : (v : ℕ) (s : List ℕ) → v < length ps → (p : Part (order ps) (v ∷ s)) → position ps v ≡ length p.front
  part-starts v s h p =
      position-is ps small tree v (length p.front) h
      (omega (arith, order-length ps small tree, ap length p.is, length-append p.front (v ∷ (s ++ p.back))))
      (ap (λ l. get_or l (length p.front) 0) p.is ∙ get_or_at p.front v (s ++ p.back) 0 (length p.front) refl)

  -- so the family of v is what stands in the preorder from its position on, as many as its size
  pub family-part : (v : ℕ) → v < length ps → take (size ps v) (drop (position ps v) (order ps)) ≡ family ps v
  family-part v h =
      let p = part v h in
      rw (part-starts v (preorder (under ps v)) h p, p.is, drop-append_seam p.front (family ps v ++ p.back))
      (take_at (family ps v) p.back (size ps v) (family-length v))

  pub family-room : (v : ℕ) → v < length ps → position ps v + size ps v ≤ length ps
  family-room v h =
      let e = simp (length-take, length-drop) at (ap length (family-part v h)) in
      omega (arith, order-length ps small tree, family-length v)

  pub family-at : (v i : ℕ) → v < length ps → i < size ps v → get_or (order ps) (position ps v + i) 0 ≡ get_or (family ps v) i 0
  family-at v i h b =
      let p = part v h in
      rw (part-starts v (preorder (under ps v)) h p, p.is)
      (get_or-append-add p.front (family ps v ++ p.back) i 0 ∙ get_or-append (family ps v) p.back 0 i (omega (arith, family-length v)))

  pub family-take : (v i : ℕ) → v < length ps → i ≤ size ps v → take (position ps v + i) (order ps) ≡ take (position ps v) (order ps) ++ take i (family ps v)
  family-take v i h b =
      take-add (position ps v) i (order ps)
      ∙ ap (λ l. take (position ps v) (order ps) ++ l) (sym (take-take i (size ps v) (drop (position ps v) (order ps)) b) ∙ ap (take i) (family-part v h))

  -- the preorder from its position on begins with the family, and the whole is what stands before, the family, and what stands behind
  pub family-drop : (v : ℕ) → v < length ps → drop (position ps v) (order ps) ≡ family ps v ++ drop (position ps v + size ps v) (order ps)
  family-drop v h =
      sym (take-append-drop (size ps v) (drop (position ps v) (order ps)))
      ∙ rw (drop-drop (size ps v) (position ps v) (order ps))
      (ap (λ l. l ++ drop (position ps v + size ps v) (order ps)) (family-part v h))

  pub family-split : (v : ℕ) → v < length ps → order ps ≡ take (position ps v) (order ps) ++ (family ps v ++ drop (position ps v + size ps v) (order ps))
  family-split v h =
      sym (take-append-drop (position ps v) (order ps))
      ∙ ap (λ l. take (position ps v) (order ps) ++ l) (family-drop v h)

  -- an ancestor's family holds the entry's own
  pub inside : (u v : ℕ) → Ancestor ps u v → (position ps u ≤ position ps v) × (position ps v + size ps v ≤ position ps u + size ps u)
  inside u v a =
      let (hu, hv) = ancestor-in u v a in
      let p = part u hu in
      let q = up-part a.climbs v u a.reached in
      let e : position ps u ≡ length p.front = part-starts u (preorder (under ps u)) hu p in
      let f = part-starts v (preorder (under ps v)) hv (part-part (order ps) (family ps u) (family ps v) p q) in
      let g : length (family ps u) ≡ length q.front + (length (family ps v) + length q.back) = ap length q.is ∙ simp length-append in
      let l = length-append p.front q.front in
      (omega arith, omega (arith, family-length u, family-length v))

  -- and who is in a family has its first entry for an ancestor
  grown-ancestor : (k u x : ℕ) → u < length ps → 1 ≤ times x (u ∷ preorder (grow ps k (children ps u))) → Ancestor ps u x
  unfolding grow preorder times
  grown-ancestor zero u x h m = go (ℕ_discrete x u)
    where
      go : Dec (x ≡ u) → Ancestor ps u x
      go (yes e) = rw e (ancestor-self u h)
      go (no e) = absurd (omega (arith, times-other x u [] e))
  grown-ancestor (suc k) u x h m = go (ℕ_discrete x u) (grown-ancestor k)
    where
      go : Dec (x ≡ u) → ((c y : ℕ) → c < length ps → 1 ≤ times y (c ∷ preorder (grow ps k (children ps c))) → Ancestor ps c y) → Ancestor ps u x
      go (yes e) ih = rw e (ancestor-self u h)
      go (no e) ih =
          let o = times-other x u (preorder (grow ps (suc k) (children ps u))) e in
          let (c, i, j) = plant-holds (λ w. grow ps k (children ps w)) x (children ps u) (omega arith) in
          let (hc, w) = child-of ps small u c i in
          ancestor-trans u c x (ancestor-parent c u (parent_in ps c hc (omega arith) ∙ ap some w)) (ih c x hc j)

  pub family-ancestor : (u x : ℕ) → u < length ps → 1 ≤ times x (family ps u) → Ancestor ps u x
  family-ancestor = grown-ancestor (length ps)

  interval-in : (u v : ℕ) → u < length ps → v < length ps → (position ps u ≤ position ps v) × (position ps v < position ps u + size ps u) → 1 ≤ times v (family ps u)
  interval-in u v hu hv b =
      let i = position ps v - position ps u in
      let z : position ps u + i ≡ position ps v = omega arith in
      let e : get_or (family ps u) i 0 ≡ v = sym (family-at u i hu (omega arith)) ∙ ap (λ j. get_or (order ps) j 0) z ∙ at_position ps small tree v hv in
      stands v (family ps u) i (omega (arith, family-length u)) e

  -- so u is an ancestor of v just where v's position is one of u's family
  pub interval : (u v : ℕ) → u < length ps → v < length ps → Ancestor ps u v ↔ ((position ps u ≤ position ps v) × (position ps v < position ps u + size ps u))
  interval u v hu hv = (λ a. let r = inside u v a in (r.0, omega (arith, r.1)), λ b. family-ancestor u v hu (interval-in u v hu hv b))

  -- an entry is in each ancestor's family, and in no family twice: what is below an entry is so by one climb or more
  pub ancestor-family : (u v : ℕ) → Ancestor ps u v → 1 ≤ times v (family ps u)
  ancestor-family u v a = let (hu, hv) = ancestor-in u v a in interval-in u v hu hv ((interval u v hu hv).0 a)

  pub family-once : (v x : ℕ) → v < length ps → times x (family ps v) ≤ 1
  family-once v x h =
      let a = take (position ps v) (order ps) in
      let b = drop (position ps v + size ps v) (order ps) in
      omega (arith, ap (times x) (family-split v h), times-append x a (family ps v ++ b), times-append x (family ps v) b, order-once ps small x, one-most (meets_top ps x))

  pub under_up : (u x : ℕ) → u < length ps → 1 ≤ times x (preorder (under ps u)) → (k : ℕ) × (up ps (suc k) x ≡ some u)
  unfolding up times
  under_up u x h m = let a = family-ancestor u x h (omega arith) in go a.climbs a.reached
    where
      go : (k : ℕ) → up ps k x ≡ some u → (k : ℕ) × (up ps (suc k) x ≡ some u)
      go zero e = absurd (omega (arith, family-once u x h, times-same x u (preorder (under ps u)) (entry-some ps x u e).0))
      go (suc k) e = (k, e)

  -- a parent stands before its children
  pub parent-before : (v p : ℕ) → parent ps v ≡ some p → position ps p < position ps v
  parent-before v p e = go (ℕ_discrete (position ps p) (position ps v))
    where
      go : Dec (position ps p ≡ position ps v) → position ps p < position ps v
      go (yes q) =
          let (hv, hp, w) = parent-some ps v p e in
          let s : p ≡ v = sym (at_position ps small tree p hp) ∙ ap (λ i. get_or (order ps) i 0) q ∙ at_position ps small tree v hv in
          absurd (omega (arith, depth-parent ps small tree v p e, ap (depth ps) s))
      go (no q) = omega (arith, (inside p v (ancestor-parent v p e)).0)

  -- the top stands first, and no other entry is without a parent
  pub root-first : position ps tree.root ≡ 0
  root-first =
      let (h, w) = root_in ps small tree in
      position-is ps small tree tree.root 0 h (omega arith) (ap (λ l. get_or l 0 0) order-family)

  pub root-only : (v : ℕ) → v < length ps → parent ps v ≡ none → v ≡ tree.root
  root-only v h e = go (ℕ_discrete v tree.root)
    where
      go : Dec (v ≡ tree.root) → v ≡ tree.root
      go (yes q) = q
      go (no q) = absurd (some-ne-none (word ps v) (sym (parent_in ps v h (tree.others v h q)) ∙ e))

  -- the parent of each next entry in preorder is an ancestor of the one before
  pub next-parent : (i : ℕ) → suc i < length ps → (p : ℕ) × (parent ps (get_or (order ps) (suc i) 0) ≡ some p) × Ancestor ps p (get_or (order ps) i 0)
  next-parent i h = go (parent ps w) refl
    where
      v : ℕ
      v = get_or (order ps) i 0

      w : ℕ
      w = get_or (order ps) (suc i) 0

      at-v : position ps v ≡ i
      at-v = position-of ps small tree i (omega arith)

      at-w : position ps w ≡ suc i
      at-w = position-of ps small tree (suc i) h

      go : (o : Option ℕ) → parent ps w ≡ o → (p : ℕ) × (parent ps w ≡ some p) × Ancestor ps p v
      go none e = absurd (omega (arith, at-w, ap (position ps) (root-only w (order-in ps small tree (suc i) h) e), root-first))
      go (some p) e =
          let r = inside p w (ancestor-parent w p e) in
          let b = parent-before w p e in
          (p, e, (interval p v (parent-some ps w p e).1 (order-in ps small tree i (omega arith))).1 (omega (arith, at-v, at-w), omega (arith, at-v, at-w, r.1)))

  -- what comes after the family of v is no deeper than v
  pub after-family : (v : ℕ) → v < length ps → position ps v + size ps v < length ps → depth ps (get_or (order ps) (position ps v + size ps v) 0) ≤ depth ps v
  after-family v h b = go (parent ps w) refl
    where
      w : ℕ
      w = get_or (order ps) (position ps v + size ps v) 0

      at-w : position ps w ≡ position ps v + size ps v
      at-w = position-of ps small tree (position ps v + size ps v) b

      higher : (p : ℕ) → parent ps w ≡ some p → position ps p < position ps v → (v ≡ p) ⊎ ((q : ℕ) × (parent ps v ≡ some q) × Ancestor ps p q) → depth ps w ≤ depth ps v
      higher p e l (inl s) = absurd (omega (arith, ap (position ps) s))
      higher p e l (inr (q, s, a)) = omega (arith, depth-parent ps small tree w p e, depth-parent ps small tree v q s, up_depth ps small tree a.climbs q p a.reached)

      side : (p : ℕ) → parent ps w ≡ some p → Dec (position ps v ≤ position ps p) → depth ps w ≤ depth ps v
      side p e (yes l) =
          let (hw, hp, s) = parent-some ps w p e in
          let a = (interval v p h hp).1 (l, omega (arith, at-w, parent-before w p e)) in
          absurd (omega (arith, at-w, (inside v w (ancestor-trans v p w a (ancestor-parent w p e))).1))
      side p e (no l) =
          let (hw, hp, s) = parent-some ps w p e in
          let a = (interval p v hp h).1 (omega arith, omega (arith, at-w, (inside p w (ancestor-parent w p e)).1)) in
          higher p e (omega arith) (ancestor-first p v a)

      go : (o : Option ℕ) → parent ps w ≡ o → depth ps w ≤ depth ps v
      go none e = omega (arith, depth-top ps small tree w (order-in ps small tree (position ps v + size ps v) b) e)
      go (some p) e = side p e (dec_le (position ps v) (position ps p))

  -- a child stands after its parent, and after the families of the children before it
  pub child-at : (v : ℕ) (before : List ℕ) (c : ℕ) (after : List ℕ) → v < length ps → children ps v ≡ before ++ (c ∷ after) → position ps c ≡ position ps v + 1 + forest_size (plant (under ps) before)
  unfolding preorder plant
  child-at v before c after h e =
      let f = preorder (plant (under ps) before) in
      let b = preorder (plant (under ps) after) in
      let r : under ps v ≡ plant (under ps) (before ++ (c ∷ after)) = under-eq ps small v h (tree-meets ps small tree v h) ∙ ap (plant (under ps)) e in
      let i : preorder (under ps v) ≡ f ++ (family ps c ++ b) = ap preorder r ∙ plant-append (under ps) before (c ∷ after) in
      let p = part v h in
      let q : Part (family ps v) (family ps c) = record { front = v ∷ f; back = b; is = ap (◌∷◌ v) i } in
      let k : 1 ≤ times c (children ps v) = omega (arith, ap (times c) e, times-append c before (c ∷ after), times-same c c after refl) in
      let at-v = part-starts v (preorder (under ps v)) h p in
      let at_c = part-starts c (preorder (under ps c)) (child-of ps small v c k).0 (part-part (order ps) (family ps v) (family ps c) p q) in
      omega (arith, length-append p.front (v ∷ f), forest-length (plant (under ps) before))
