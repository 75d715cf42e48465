-- Every entry is on one long path, and `own_path` finds that path's number. Assumes nothing.
use mathlib.Core.Path.{◌≡◌, refl, sym, ap, ◌∙◌}
use mathlib.Core.List.{List, ◌∷◌, ◌++◌}
use mathlib.Core.Bool.{Bool, true, false}
use mathlib.Core.Option.{some, some-injective}
use Prim.Native.Nat.{ℕ, zero, suc, ◌+◌, ◌≤◌, ◌<◌}
use native.Mathlib.Omega.{arith}
use native.Mathlib.Decide.{dec_le}
use lib.ListN.{length, get_or, take, drop, length-append}
use lib.Seq.{get_or_at}
use Rattle.base.specs.Lists.{keep, index, place, has}
use Rattle.base.proofs.Lists.{clash}
use Rattle.base.proofs.Counts.{times, times-append}
use Rattle.base.proofs.Places.{one-true, times-same, stands, place-stands}
use Rattle.base.proofs.Filters.{keep-split, keep-times, keep-passes, index_is, times-has, has_no}
use Rattle.base.proofs.Joins.{keyed-once}
use Rattle.base.specs.Limits.{top_mark}
use Rattle.tree.specs.Parents.{parent, up, depth}
use Rattle.tree.specs.Forest.{height, order, position, long_child, path_top, path_from}
use Rattle.tree.specs.Level.{Ancestor}
use Rattle.tree.specs.Faults.{Tree, meets_top}
use Rattle.tree.proofs.Climbs.{parent-some}
use Rattle.tree.proofs.Depths.{depth-parent}
use Rattle.tree.proofs.Forests.{meets-entry, order-once}
use Rattle.tree.proofs.Positions.{order-length, entry-once, position_in, at_position}
use Rattle.table.specs.Ladders.{path_tops, own_path}
use Rattle.climbs.proofs.Paths.{long-child, path-top-no, path-length, path-next, path-in, path_parent, path-no-top, path-reach, path-depth}

-- v stands `steps` below the top of a long path
pub record OnPath (ps : List ℕ) (v : ℕ) : Type 0 where
  pub top : ℕ
  pub steps : ℕ
  pub entry : top < length ps
  pub begins : path_top ps top ≡ true
  pub short : steps < height ps top
  pub is : get_or (path_from ps top) steps 0 ≡ v

-- the path tops among the first i entries of the preorder
abbrev pub tops_within : List ℕ → ℕ → List ℕ
tops_within ps i = keep (path_top ps) (take i (order ps))

module _ (ps : List ℕ) (small : length ps ≤ top_mark) (tree : Tree ps) where
  -- every entry is on a path: a top on its own, and any other on its parent's
  abbrev pub on-own : (t : ℕ) → t < length ps → path_top ps t ≡ true → OnPath ps t
  on-own t h e = record { top = t; steps = 0; entry = h; begins = e; short = omega arith; is = refl }

  abbrev pub on-down : (v c : ℕ) → long_child ps v ≡ some c → OnPath ps v → OnPath ps c
  on-down v c e o =
      let t = o.top in
      let i = o.steps in
      let (hv, l) = path-in ps small tree t i o.entry o.short in
      let a : long_child ps (get_or (path_from ps t) i 0) ≡ some c = ap (long_child ps) o.is ∙ e in
      let b = (long-child ps small tree (get_or (path_from ps t) i 0) c a hv).1 in
      let d : suc i < height ps t = omega arith in
      record {
        top = t;
        steps = suc i;
        entry = o.entry;
        begins = o.begins;
        short = d;
        is = some-injective _ _ (sym (path-next ps small tree t i o.entry d) ∙ a);
      }

  reach : (d v : ℕ) → v < length ps → depth ps v ≤ d → OnPath ps v
  reach zero v h k = go (path_top ps v) refl
    where
      go : (b : Bool) → path_top ps v ≡ b → OnPath ps v
      go true e = on-own v h e
      go false e = let (p, q, l) = path-top-no ps small tree v e h in absurd (omega (arith, depth-parent ps small tree v p q))
  reach (suc d) v h k = go (path_top ps v) refl (reach d)
    where
      go : (b : Bool) → path_top ps v ≡ b → ((p : ℕ) → p < length ps → depth ps p ≤ d → OnPath ps p) → OnPath ps v
      go true e ih = on-own v h e
      go false e ih =
          let (p, q, l) = path-top-no ps small tree v e h in
          let (hv, hp, w) = parent-some ps v p q in
          on-down p v l (ih p hp (omega (arith, depth-parent ps small tree v p q)))

  pub on-path : (v : ℕ) → v < length ps → OnPath ps v
  on-path v h = reach (depth ps v) v h (omega arith)

  pub on-ancestor : (v : ℕ) (o : OnPath ps v) → up ps o.steps v ≡ some o.top
  on-ancestor v o = rw o.is at (path-reach ps small tree o.top o.steps o.entry o.short)

  pub on-height : (v : ℕ) (o : OnPath ps v) → height ps v + o.steps ≡ height ps o.top
  on-height v o = rw o.is at (path-in ps small tree o.top o.steps o.entry o.short).1

  -- and on no other: two paths that meet have one top
  same-top : (i j s t : ℕ) → s < length ps → t < length ps → path_top ps s ≡ true → path_top ps t ≡ true → i < height ps s → j < height ps t
      → get_or (path_from ps s) i 0 ≡ get_or (path_from ps t) j 0 → s ≡ t
  same-top zero zero s t hs ht bs bt k l e = e
  same-top zero (suc j) s t hs ht bs bt k l e = clash (sym (path-no-top ps small tree t j ht l) ∙ ap (path_top ps) (sym e) ∙ bs)
  same-top (suc i) zero s t hs ht bs bt k l e = clash (sym (path-no-top ps small tree s i hs k) ∙ ap (path_top ps) e ∙ bt)
  same-top (suc i) (suc j) s t hs ht bs bt k l e =
      same-top i j s t hs ht bs bt (omega arith) (omega arith)
      (some-injective _ _ (sym (path_parent ps small tree s i hs k) ∙ ap (parent ps) e ∙ path_parent ps small tree t j ht l))

  pub one-path : (v : ℕ) (a b : OnPath ps v) → a.top ≡ b.top
  one-path v a b = same-top a.steps b.steps a.top b.top a.entry b.entry a.begins b.begins a.short b.short (a.is ∙ sym b.is)

  -- v is on its own path alone
  stands_on : (v : ℕ) (o : OnPath ps v) → 1 ≤ times v (path_from ps o.top)
  stands_on v o = stands v (path_from ps o.top) o.steps (omega (arith, path-length ps small tree o.top, o.short)) o.is

  pub own-once : (v : ℕ) (o : OnPath ps v) → times v (path_from ps o.top) ≡ 1
  own-once v o = omega (arith, stands_on v o, keyed-once (depth ps) (depth ps o.top) (path_from ps o.top) (λ i b. path-depth ps small tree o.top i o.entry (omega (arith, path-length ps small tree o.top))) v)

  pub off-path : (v t : ℕ) (o : OnPath ps v) → t < length ps → path_top ps t ≡ true → (t ≡ o.top → ⊥) → times v (path_from ps t) ≡ 0
  off-path v t o h b n = go (dec_le 1 (times v (path_from ps t)))
    where
      go : Dec (1 ≤ times v (path_from ps t)) → times v (path_from ps t) ≡ 0
      go (no k) = omega arith
      go (yes k) =
          let (l, q) = place-stands v (path_from ps t) k in
          let m : place v (path_from ps t) < height ps t = omega (arith, path-length ps small tree t) in
          absurd (n (same-top (place v (path_from ps t)) o.steps t o.top h o.entry b o.begins m o.short (q ∙ sym o.is)))

  -- the path tops are entries, and each is listed once
  pub tops-once : (t : ℕ) → t < length ps → path_top ps t ≡ true → times t (path_tops ps) ≡ 1
  tops-once t h e = keep-times (path_top ps) t (order ps) e ∙ entry-once ps small tree t h

  pub tops-in : (t : ℕ) → 1 ≤ times t (path_tops ps) → (t < length ps) × (path_top ps t ≡ true)
  tops-in t k =
      let e = keep-passes (path_top ps) t (order ps) k in
      (meets-entry ps small t (one-true (meets_top ps t) (omega (arith, keep-times (path_top ps) t (order ps) e, order-once ps small t))), e)

  -- a path's number is how many tops stand before its own
  pub tops-split : (t : ℕ) → t < length ps → path_top ps t ≡ true → path_tops ps ≡ tops_within ps (position ps t) ++ (t ∷ keep (path_top ps) (drop (suc (position ps t)) (order ps)))
  tops-split t h e =
      let q = at_position ps small tree t h in
      rw q at (keep-split (path_top ps) (order ps) (position ps t) 0 (omega (arith, position_in ps small tree t h, order-length ps small tree)) (ap (path_top ps) q ∙ e))

  earlier-top : (t s : ℕ) → t < length ps → path_top ps t ≡ true → 1 ≤ times s (tops_within ps (position ps t)) → (s < length ps) × (path_top ps s ≡ true) × (s ≡ t → ⊥)
  earlier-top t s h e k =
      let a = tops_within ps (position ps t) in
      let b = keep (path_top ps) (drop (suc (position ps t)) (order ps)) in
      let q = tops-split t h e in
      let (hs, es) = tops-in s (omega (arith, ap (times s) q, times-append s a (t ∷ b))) in
      (hs, es, λ r. omega (arith, tops-once s hs es, ap (times s) q, times-append s a (t ∷ b), times-same s t b r))

  pub own-number : (v : ℕ) (o : OnPath ps v) → own_path ps v ≡ length (tops_within ps (position ps o.top))
  unfolding own_path
  own-number v o =
      let t = o.top in
      ap (index (λ s. has (path_from ps s) v)) (tops-split t o.entry o.begins)
      ∙ index_is (λ s. has (path_from ps s) v) (tops_within ps (position ps t)) t (keep (path_top ps) (drop (suc (position ps t)) (order ps)))
      (λ s k. let (hs, es, n) = earlier-top t s o.entry o.begins k in has_no (path_from ps s) v (off-path v s o hs es n))
      (times-has (path_from ps t) v (stands_on v o))

  pub own-path : (v : ℕ) → v < length ps
      → (t : ℕ) × (t < length ps) × (path_top ps t ≡ true) × Ancestor ps t v × (has (path_from ps t) v ≡ true) × (own_path ps v < length (path_tops ps)) × (get_or (path_tops ps) (own_path ps v) 0 ≡ t)
  own-path v h =
      let o = on-path v h in
      let t = o.top in
      let a = tops_within ps (position ps t) in
      let b = keep (path_top ps) (drop (suc (position ps t)) (order ps)) in
      let q : path_tops ps ≡ a ++ (t ∷ b) = tops-split t o.entry o.begins in (
        t,
        o.entry,
        o.begins,
        record { climbs = o.steps; reached = on-ancestor v o },
        times-has (path_from ps t) v (stands_on v o),
        omega (arith, own-number v o, ap length q, length-append a (t ∷ b)),
        rw (own-number v o, q) (get_or_at a t b 0 (length a) refl),
      )
