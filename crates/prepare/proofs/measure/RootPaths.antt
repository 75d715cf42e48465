-- ABOVE by position, from DEPTH and the positions on the climb from the entry before. Assumes nothing.
use mathlib.Core.Path.{◌≡◌, sym, ap, ◌∙◌}
use mathlib.Core.Logic.{◌⊎◌, inl, inr}
use mathlib.Core.List.{List}
use mathlib.Core.Option.{some, none-ne-some, some-injective}
use Prim.Native.Nat.{ℕ, suc, ◌+◌, ◌-◌, ◌≤◌, ◌<◌}
use native.Mathlib.Omega.{arith}
use borrow.Author.Count.{below_more}
use lib.ListN.{length, get_or, set}
use lib.Seq.{get_or-set_same, get_or-set_other}
use Rattle.base.specs.Limits.{top_mark}
use Rattle.tree.specs.Parents.{parent, depth}
use Rattle.tree.specs.Forest.{position}
use Rattle.tree.specs.Level.{Ancestor}
use Rattle.tree.proofs.Depths.{depth-top, depth-parent, up_depth}
use Rattle.tree.proofs.Intervals.{ancestor-first, ancestor-trans, next-parent, depth-less}
use Rattle.prepare.specs.Arrays.{OneTree, entry_at, above_position, depths_of, aboves_of}
use Rattle.prepare.proofs.Preorder.{Located, small, entries-some, located-at, no-parent, above-first, above_parent, array-words, words-array}

-- f has, by depth, the position of each entry on the climb from the entry at a position
abbrev pub RootPath : List ℕ → ℕ → (ℕ → ℕ) → Type 0
RootPath ps i f = (u : ℕ) → Ancestor ps u (entry_at ps i) → f (depth ps u) ≡ position ps u

module _ {ps : List ℕ} (t : OneTree ps) where
  -- nothing is above the first
  path-first : (f : ℕ → ℕ) → f 0 ≡ 0 → RootPath ps 0 f
  path-first f e u a = go (ancestor-first ps (small t) t.tree u (entry_at ps 0) a)
    where
      here : Located ps 0 (entry_at ps 0)
      here = located-at t 0 (entries-some t)

      go : (entry_at ps 0 ≡ u) ⊎ ((p : ℕ) × (parent ps (entry_at ps 0) ≡ some p) × Ancestor ps u p) → f (depth ps u) ≡ position ps u
      go (inl q) = ap f (ap (depth ps) (sym q) ∙ depth-top ps (small t) t.tree (entry_at ps 0) here.inside (no-parent t)) ∙ e ∙ sym here.place ∙ ap (position ps) q
      go (inr (p, q, b)) = absurd (none-ne-some p (sym (no-parent t) ∙ q))

  -- one position further
  module _ (i : ℕ) (h : suc i < length ps) (f : ℕ → ℕ) (r : RootPath ps i f) where
    abbrev own : ℕ
    own = entry_at ps (suc i)

    over : (p : ℕ) × (parent ps own ≡ some p) × Ancestor ps p (entry_at ps i)
    over = next-parent ps (small t) t.tree i h

    deeper : depth ps own ≡ suc (depth ps over.0)
    deeper = depth-parent ps (small t) t.tree own over.0 over.1

    -- the entry above stands where the path has its depth
    path-above : f (depth ps own - 1) ≡ above_position ps own
    path-above =
        let z : depth ps own - 1 ≡ depth ps over.0 = omega (arith, deeper) in
        ap f z ∙ r over.0 over.2 ∙ sym (above_parent t own over.0 over.1)

    path-next : (g : ℕ → ℕ) → g (depth ps own) ≡ suc i → ((k : ℕ) → k < depth ps own → g k ≡ f k) → RootPath ps (suc i) g
    path-next g e same u a = go (ancestor-first ps (small t) t.tree u own a)
      where
        go : (own ≡ u) ⊎ ((p : ℕ) × (parent ps own ≡ some p) × Ancestor ps u p) → g (depth ps u) ≡ position ps u
        go (inl q) = ap (λ v. g (depth ps v)) (sym q) ∙ e ∙ sym (located-at t (suc i) h).place ∙ ap (position ps) q
        go (inr (p, q, b)) =
            let z : p ≡ over.0 = some-injective p over.0 (sym q ∙ over.1) in
            let b' : Ancestor ps u over.0 = rw z at b in
            let low : depth ps u < depth ps own = omega (arith, deeper, up_depth ps (small t) t.tree b'.climbs over.0 u b'.reached) in
            same (depth ps u) low ∙ r u (ancestor-trans ps (small t) t.tree u over.0 (entry_at ps i) b' over.2)

-- ABOVE is there for the positions before i, and the climb from the last of them by depth
pub record AboveTo (ps : List ℕ) (i : ℕ) (aboves climb : List ℕ) : Type 0 where
  pub some : 0 < i
  pub above : (k : ℕ) → k < i → get_or aboves k 0 ≡ above_position ps (entry_at ps k)
  pub path : RootPath ps (i - 1) (λ k. get_or climb k 0)

module _ {ps : List ℕ} (t : OneTree ps) (aboves climb : List ℕ) (la : length aboves ≡ length ps) (lc : length climb ≡ length ps) where
  pub above-start : AboveTo ps 1 (set aboves 0 top_mark) (set climb 0 0)
  above-start =
      let some = entries-some t in
      let first : get_or (set aboves 0 top_mark) 0 0 ≡ above_position ps (entry_at ps 0) = get_or-set_same aboves 0 top_mark 0 (omega (arith, la)) ∙ sym (above-first t) in
      record {
        some = omega arith;
        above = λ k h. let q : k ≡ 0 = omega arith in rw q first;
        path = path-first t (λ k. get_or (set climb 0 0) k 0) (get_or-set_same climb 0 0 0 (omega (arith, lc)));
      }

  -- at the end, all
  pub above-all : {i : ℕ} → length ps ≤ i → AboveTo ps i aboves climb → aboves ≡ aboves_of ps
  above-all b a = words-array t (above_position ps) aboves la (λ k h. a.above k (omega arith))

  -- one position further, of that depth, where `over` is read from the climb
  module _ {depths : List ℕ} (e : depths ≡ depths_of ps) {i : ℕ} (a : AboveTo ps i aboves climb) (h : i < length ps) where
    own-depth : get_or depths i 0 ≡ depth ps (entry_at ps i)
    own-depth = array-words t (depth ps) depths e i h

    back : suc (i - 1) ≡ i
    back = omega (arith, a.some)

    pub depth-some : 0 < get_or depths i 0
    depth-some =
        let d = deeper t (i - 1) (omega (arith, back)) (λ k. get_or climb k 0) a.path in
        omega (arith, own-depth, rw back at d)

    pub depth-few : get_or depths i 0 < length ps
    depth-few = omega (arith, own-depth, depth-less ps (small t) t.tree (entry_at ps i) (located-at t i h).inside)

    above-is : get_or climb (get_or depths i 0 - 1) 0 ≡ above_position ps (entry_at ps i)
    above-is = rw own-depth (rw back at (path-above t (i - 1) (omega (arith, back)) (λ k. get_or climb k 0) a.path))

    pub above-next : AboveTo ps (i + 1) (set aboves i (get_or climb (get_or depths i 0 - 1) 0)) (set climb (get_or depths i 0) i)
    above-next =
        let d = get_or depths i 0 in
        let over = get_or climb (d - 1) 0 in
        let few : d < length ps = depth-few in
        let before : (k : ℕ) → k < i → get_or (set aboves i over) k 0 ≡ above_position ps (entry_at ps k) = λ k l. get_or-set_other aboves i k over 0 (λ q. omega arith) ∙ a.above k l in
        let here : get_or (set aboves i over) i 0 ≡ above_position ps (entry_at ps i) = get_or-set_same aboves i over 0 (omega (arith, la)) ∙ above-is in
        let own : get_or (set climb d i) (depth ps (entry_at ps i)) 0 ≡ i = rw (← own-depth) (get_or-set_same climb d i 0 (omega (arith, lc))) in
        let same : (k : ℕ) → k < depth ps (entry_at ps i) → get_or (set climb d i) k 0 ≡ get_or climb k 0 = λ k l. get_or-set_other climb d k i 0 (λ q. omega (arith, own-depth)) in
        let z : i + 1 - 1 ≡ suc (i - 1) = omega (arith, a.some) in
        record {
          some = omega arith;
          above = below_more _ i before here;
          path = rw z (path-next t (i - 1) (omega (arith, back)) (λ k. get_or climb k 0) a.path (λ k. get_or (set climb d i) k 0) (rw back own) (rw back same));
        }
