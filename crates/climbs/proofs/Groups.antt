-- Groups, the microtrees of 003: each is a part of the preorder with one root, its first entry, and every micro node is in one. Assumes nothing.
use mathlib.Core.Path.{◌≡◌, refl, sym, ap, ◌∙◌}
use mathlib.Core.List.{List, [], ◌∷◌, ◌++◌, map}
use mathlib.Core.Bool.{Bool, true, false, not, ◌&&◌}
use mathlib.Core.Option.{Option, none, some, Option-elim}
use Prim.Native.Nat.{ℕ, zero, suc, ◌+◌, ◌-◌, ◌*◌, ◌≤◌, ◌<◌}
use native.Mathlib.Omega.{arith}
use native.Mathlib.Nat.{not-suc-le-zero}
use native.Mathlib.Decide.{dec_le}
use lib.ListN.{length, get_or, take, drop, length-append, length-map, take-append-drop, get_or-map}
use lib.Seq.{get_or_at}
use borrow.Author.Tests.{not-true, not-false}
use Rattle.base.specs.Lists.{keep, index, place, has}
use Rattle.base.specs.Limits.{micro_mark, top_mark}
use Rattle.base.proofs.Lists.{clash, at-any, index-map}
use Rattle.base.proofs.Counts.{times, times-append}
use Rattle.base.proofs.Places.{place_is}
use Rattle.base.proofs.Filters.{keep_append, keep-yes, keep-most, keep-in, keep-none, index_is, times-has, has-not}
use Rattle.tree.specs.Parents.{parent, up, depth}
use Rattle.tree.specs.Forest.{preorder, under, size, family, order, position}
use Rattle.tree.specs.Level.{Ancestor}
use Rattle.tree.specs.Faults.{Tree}
use Rattle.tree.proofs.Climbs.{entry-some, parent-some, up_first}
use Rattle.tree.proofs.Depths.{depth-parent}
use Rattle.tree.proofs.Positions.{order-length, at_position, position-before, order-keep}
use Rattle.tree.proofs.Intervals.{ancestor-in, ancestor-self, ancestor-trans, ancestor-parent, family-length, family-at, family-take, family-ancestor, interval, ancestor-family, family-once, under_up}
use Rattle.table.specs.Groups.{micro, group_root, group_roots, groups, micro_kind}
use Rattle.climbs.proofs.Jumps.{micro-size, micro-down}

-- a group's root is micro, and its parent, where it has one, is macro
module _ (L : ℕ) (ps : List ℕ) where
  pub root-micro : (r : ℕ) → group_root L ps r ≡ true → micro L ps r ≡ true
  unfolding group_root
  root-micro r e = go (micro L ps r) e
    where
      go : (b : Bool) → (b && Option-elim (parent ps r) true (λ p. not (micro L ps p))) ≡ true → b ≡ true
      go true e = refl
      go false e = e

  pub root-parent : (r p : ℕ) → group_root L ps r ≡ true → parent ps r ≡ some p → micro L ps p ≡ false
  unfolding group_root Option-elim
  root-parent r p e q = not-true (micro L ps p) (rw (root-micro r e, q) at e)

  pub no-root : (v p : ℕ) → parent ps v ≡ some p → micro L ps p ≡ true → group_root L ps v ≡ false
  unfolding group_root Option-elim
  no-root v p q m = rw (q, m) (go (micro L ps v))
    where
      go : (b : Bool) → (b && false) ≡ false
      go true = refl
      go false = refl

  top-root : (v : ℕ) → micro L ps v ≡ true → parent ps v ≡ none → group_root L ps v ≡ true
  unfolding group_root Option-elim
  top-root v m q = rw (m, q)

  micro-parent : (v p : ℕ) → micro L ps v ≡ true → parent ps v ≡ some p → group_root L ps v ≡ false → micro L ps p ≡ true
  unfolding group_root Option-elim
  micro-parent v p m q e = not-false (micro L ps p) (rw (m, q) at e)

-- the roots of groups among the first i entries of the preorder
abbrev pub roots_within : ℕ → List ℕ → ℕ → List ℕ
roots_within L ps i = keep (group_root L ps) (take i (order ps))

-- v is in the group with root r and number g, and has local number l there
pub record Grouped (L : ℕ) (ps : List ℕ) (v r g l : ℕ) : Type 0 where
  pub entry : r < length ps
  pub root : group_root L ps r ≡ true
  pub above : Ancestor ps r v
  pub limit : size ps r ≤ L
  pub placed : position ps v ≡ position ps r + l
  pub local : l < size ps r
  pub number : g < length (group_roots L ps)
  pub listed : get_or (group_roots L ps) g 0 ≡ r
  pub before : g ≡ length (roots_within L ps (position ps r))
  pub upto : suc g ≡ length (roots_within L ps (suc (position ps v)))
  pub kinded : micro_kind L ps v ≡ micro_mark + 8 * g + l

module _ (ps : List ℕ) (small : length ps ≤ top_mark) (tree : Tree ps) (L : ℕ) where
  -- there are no more groups than entries
  pub groups-few : length (group_roots L ps) ≤ length ps
  groups-few = omega (arith, keep-most (group_root L ps) (order ps), order-length ps small tree)

  -- a root stands at or above every micro node
  abbrev RootAbove : ℕ → Type 0
  RootAbove v = (r : ℕ) × (group_root L ps r ≡ true) × Ancestor ps r v

  root-within : (d v : ℕ) → v < length ps → depth ps v < d → micro L ps v ≡ true → RootAbove v
  root-within zero v h b m = absurd (not-suc-le-zero b)
  root-within (suc d) v h b m = go (group_root L ps v) refl (parent ps v) refl (root-within d)
    where
      go : (t : Bool) → group_root L ps v ≡ t → (o : Option ℕ) → parent ps v ≡ o → ((p : ℕ) → p < length ps → depth ps p < d → micro L ps p ≡ true → RootAbove p) → RootAbove v
      go true e o q ih = (v, e, ancestor-self ps small tree v h)
      go false e none q ih = clash (sym e ∙ top-root L ps v m q)
      go false e (some p) q ih =
          let (r, f, a) = ih p (parent-some ps v p q).1 (omega (arith, depth-parent ps small tree v p q)) (micro-parent L ps v p m q e) in
          (r, f, ancestor-trans ps small tree r p v a (ancestor-parent ps small tree v p q))

  pub root-above : (v : ℕ) → v < length ps → micro L ps v ≡ true → RootAbove v
  root-above v h m = root-within (suc (depth ps v)) v h (omega arith) m

  -- below a root there is no other, so two roots above one node are one
  below_root : (k r x : ℕ) → group_root L ps r ≡ true → up ps (suc k) x ≡ some r → group_root L ps x ≡ false
  below_root k r x e c =
      let (p, q, s) = up_first ps k x r c in
      no-root L ps x p q (micro-down ps small tree L r p (record { climbs = k; reached = s }) (root-micro L ps r e))

  upper-root : (r s : ℕ) → group_root L ps r ≡ true → group_root L ps s ≡ true → Ancestor ps r s → r ≡ s
  unfolding up
  upper-root r s e f a = go a.climbs a.reached
    where
      go : (k : ℕ) → up ps k s ≡ some r → r ≡ s
      go zero c = sym (entry-some ps s r c).0
      go (suc k) c = clash (sym (below_root k r s e c) ∙ f)

  pub one-root : (r s v : ℕ) → group_root L ps r ≡ true → group_root L ps s ≡ true → Ancestor ps r v → Ancestor ps s v → r ≡ s
  one-root r s v e f a b = go (dec_le (position ps r) (position ps s))
    where
      hv : v < length ps
      hv = (ancestor-in ps small tree r v a).1

      hr : r < length ps
      hr = (ancestor-in ps small tree r v a).0

      hs : s < length ps
      hs = (ancestor-in ps small tree s v b).0

      go : Dec (position ps r ≤ position ps s) → r ≡ s
      go (yes k) =
          upper-root r s e f ((interval ps small tree r s hr hs).1 (k, omega (arith, ((interval ps small tree r v hr hv).0 a).1, ((interval ps small tree s v hs hv).0 b).0)))
      go (no k) =
          sym (upper-root s r f e ((interval ps small tree s r hs hr).1 (omega arith, omega (arith, ((interval ps small tree s v hs hv).0 b).1, ((interval ps small tree r v hr hv).0 a).0))))

  -- of its group a root is the only one
  roots-upto : (r i : ℕ) → r < length ps → group_root L ps r ≡ true → i < size ps r → roots_within L ps (position ps r + suc i) ≡ roots_within L ps (position ps r) ++ (r ∷ [])
  roots-upto r i h e b =
      let l = preorder (under ps r) in
      let none : keep (group_root L ps) (take i l) ≡ [] =
      keep-none (group_root L ps) (take i l)
      (λ x k. let (j, c) = under_up ps small tree r x h (omega (arith, ap (times x) (take-append-drop i l), times-append x (take i l) (drop i l))) in below_root j r x e c) in
      ap (keep (group_root L ps)) (family-take ps small tree r (suc i) h b)
      ∙ keep_append (group_root L ps) (take (position ps r) (order ps)) (r ∷ take i l)
      ∙ ap (λ m. roots_within L ps (position ps r) ++ m) (keep-yes (group_root L ps) r (take i l) e ∙ ap (◌∷◌ r) none)

  -- the group with root r, for a node v at or below it
  module _ (r v l : ℕ) (e : group_root L ps r ≡ true) (a : Ancestor ps r v) (q : position ps v ≡ position ps r + l) where
    hr : r < length ps
    hr = (ancestor-in ps small tree r v a).0

    hv : v < length ps
    hv = (ancestor-in ps small tree r v a).1

    inner : l < size ps r
    inner = omega (arith, ((interval ps small tree r v hr hv).0 a).1)

    local-place : place v (family ps r) ≡ l
    local-place =
        place_is v (family ps r) l (family-once ps small tree r v hr) (omega (arith, inner, family-length ps small tree r))
        (sym (family-at ps small tree r l hr inner) ∙ ap (λ i. get_or (order ps) i 0) (sym q) ∙ at_position ps small tree v hv)

    earlier : (s : ℕ) → 1 ≤ times s (roots_within L ps (position ps r)) → has (family ps s) v ≡ false
    earlier s k =
        let (f, t) = keep-in (group_root L ps) s (take (position ps r) (order ps)) k in
        let (hs, b) = position-before ps small tree s (position ps r) t in
        has-not (family ps s) v (λ c. omega (arith, ap (position ps) (one-root s r v f e (family-ancestor ps small tree s v hs c) a)))

    group-number : index (λ group. has group v) (groups L ps) ≡ length (roots_within L ps (position ps r))
    unfolding groups
    group-number =
        index-map (λ group. has group v) (family ps) (group_roots L ps)
        ∙ ap (index (λ s. has (family ps s) v)) (order-keep ps small tree (group_root L ps) r hr e)
        ∙ index_is (λ s. has (family ps s) v) (roots_within L ps (position ps r)) r (keep (group_root L ps) (drop (suc (position ps r)) (order ps)))
        earlier
        (times-has (family ps r) v (ancestor-family ps small tree r v a))

    listed_at : (length (roots_within L ps (position ps r)) < length (group_roots L ps)) × (get_or (group_roots L ps) (length (roots_within L ps (position ps r))) 0 ≡ r)
    listed_at =
        let before = roots_within L ps (position ps r) in
        let rest = keep (group_root L ps) (drop (suc (position ps r)) (order ps)) in
        let s = order-keep ps small tree (group_root L ps) r hr e in
        (omega (arith, ap length s, length-append before (r ∷ rest)), rw s (get_or_at before r rest 0 (length before) refl))

    group-is : get_or (groups L ps) (length (roots_within L ps (position ps r))) [] ≡ family ps r
    unfolding groups
    group-is =
        let g = length (roots_within L ps (position ps r)) in
        let (b, s) = listed_at in
        at-any (map (family ps) (group_roots L ps)) g [] (family ps 0) (omega (arith, length-map (group_roots L ps) (family ps)))
        ∙ get_or-map (family ps) (group_roots L ps) g 0
        ∙ ap (family ps) s

    kind-of : micro_kind L ps v ≡ micro_mark + 8 * length (roots_within L ps (position ps r)) + l
    unfolding micro_kind
    kind-of = rw (group-number, group-is, local-place)

    pub grouped-under : Grouped L ps v r (length (roots_within L ps (position ps r))) l
    grouped-under = record {
      entry = hr;
      root = e;
      above = a;
      limit = micro-size L ps r (root-micro L ps r e);
      placed = q;
      local = inner;
      number = listed_at.0;
      listed = listed_at.1;
      before = refl;
      upto =
          let z : suc (position ps v) ≡ position ps r + suc l = omega arith in
          rw z (omega (arith, ap length (roots-upto r l hr e inner), length-append (roots_within L ps (position ps r)) (r ∷ [])));
      kinded = kind-of;
    }

  -- every micro node is in a group, and in one alone
  pub grouped : (v : ℕ) → v < length ps → micro L ps v ≡ true → (r g l : ℕ) × Grouped L ps v r g l
  grouped v h m =
      let (r, e, a) = root-above v h m in
      let b = (interval ps small tree r v (ancestor-in ps small tree r v a).0 h).0 a in
      let l = position ps v - position ps r in
      (r, length (roots_within L ps (position ps r)), l, grouped-under r v l e a (omega arith))

  pub one-group : (v r g l s i j : ℕ) → Grouped L ps v r g l → Grouped L ps v s i j → (r ≡ s) × (g ≡ i) × (l ≡ j)
  one-group v r g l s i j a b =
      let q : r ≡ s = one-root r s v a.root b.root a.above b.above in
      (q, a.before ∙ ap (λ x. length (roots_within L ps (position ps x))) q ∙ sym b.before, omega (arith, a.placed, b.placed, ap (position ps) q))

  -- a child is in its parent's group, where the parent is in one
  pub group-child : (v p r g l : ℕ) → parent ps v ≡ some p → Grouped L ps p r g l → Grouped L ps v r g (position ps v - position ps r)
  group-child v p r g l e m =
      let a = ancestor-trans ps small tree r p v m.above (ancestor-parent ps small tree v p e) in
      let b = (interval ps small tree r v m.entry (parent-some ps v p e).0).0 a in
      rw m.before (grouped-under r v (position ps v - position ps r) m.root a (omega arith))
