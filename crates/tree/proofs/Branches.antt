-- What each number of ancestry and branch says of the list, where the list forms one tree. Assumes nothing.
use mathlib.Core.Path.{◌≡◌, refl, sym, ap, ◌∙◌}
use mathlib.Core.Logic.{◌⊎◌, inl, inr, ◌↔◌}
use mathlib.Core.List.{List, [], ◌∷◌}
use mathlib.Core.Bool.{Bool, true, false, cond}
use mathlib.Core.Option.{some, Option-elim}
use Prim.Native.Nat.{ℕ, zero, suc, ◌≤◌, ◌<◌}
use native.Mathlib.Omega.{arith}
use native.Mathlib.Numerals.{add-one}
use native.Mathlib.Decide.{ℕ_discrete, dec_le}
use lib.ListN.{length}
use borrow.Author.Tests.{le-leb, lt-leb}
use Rattle.base.specs.Lists.{some?, has}
use Rattle.base.specs.Numbers.{accepted, not_above}
use Rattle.base.specs.Limits.{top_mark}
use Rattle.tree.specs.Parents.{parent, up, depth, climb}
use Rattle.tree.specs.Level.{Ancestor, LevelAncestor}
use Rattle.tree.specs.Faults.{Tree}
use Rattle.tree.specs.Questions.{ancestry_of, branch_of}
use Rattle.base.proofs.Lists.{clash}
use Rattle.tree.proofs.Climbs.{entry-some, up_first, up_from, up-add}
use Rattle.tree.proofs.Depths.{level-complete, depth-parent, up-some, up_depth}
use Rattle.tree.proofs.Intervals.{ancestor-in, ancestor-trans, ancestor-parent}
use Rattle.tree.proofs.Ancestry.{on-climb, towards, towards_none}

-- u is strictly above v
pub record Strictly (ps : List ℕ) (u v : ℕ) : Type 0 where
  pub ancestor : Ancestor ps u v
  pub other : u ≡ v → ⊥

-- the three cases of branch: an argument that is no entry, u not strictly above v, and the child of u on the way to v
abbrev Cases : List ℕ → ℕ → ℕ → Type 0
Cases ps u v = ((length ps ≤ u) ⊎ (length ps ≤ v)) ⊎ (((u < length ps) × (v < length ps) × (Strictly ps u v → ⊥)) ⊎ ((c : ℕ) × (parent ps c ≡ some u) × Ancestor ps c v))

module _ (ps : List ℕ) (small : length ps ≤ top_mark) (tree : Tree ps) (u v : ℕ) where
  pub branch-unknown : (length ps ≤ u) ⊎ (length ps ≤ v) → (branch_of ps u v).number ≡ 7
  unfolding branch_of
  branch-unknown o = go o (dec_le (length ps) u)
    where
      go : (length ps ≤ u) ⊎ (length ps ≤ v) → Dec (length ps ≤ u) → (branch_of ps u v).number ≡ 7
      go o (yes h) = rw (le-leb (length ps) u h)
      go (inl k) (no h) = absurd (h k)
      go (inr k) (no h) = rw (lt-leb (length ps) u (omega arith), le-leb (length ps) v k)

  pub branch-not-above : u < length ps → v < length ps → (Strictly ps u v → ⊥) → branch_of ps u v ≡ not_above u
  unfolding branch_of Option-elim
  branch-not-above hu hv no_way = rw (lt-leb (length ps) u hu, lt-leb (length ps) v hv, towards_none ps small tree u v hu hv (λ a. go a (ℕ_discrete u v)))
    where
      go : Ancestor ps u v → Dec (u ≡ v) → u ≡ v
      go a (yes e) = e
      go a (no e) = absurd (no_way (record { ancestor = a; other = e }))

  -- the child of u on the way to v is the ancestor of v one deeper than u
  way : (c : ℕ) → parent ps c ≡ some u → Ancestor ps c v → Ancestor ps u v × LevelAncestor ps v (suc (depth ps u)) c
  way c e a = (ancestor-trans ps small tree u c v (ancestor-parent ps small tree c u e) a, record { ancestor = a; depth_is = depth-parent ps small tree c u e })

  pub branch-child : (c : ℕ) → parent ps c ≡ some u → Ancestor ps c v → branch_of ps u v ≡ accepted c
  unfolding branch_of Option-elim
  branch-child c e a =
      let (b, l) = way c e a in
      let (hu, hv) = ancestor-in ps small tree u v b in
      rw (lt-leb (length ps) u hu, lt-leb (length ps) v hv, towards ps small tree u v c b (level-complete ps small tree v (suc (depth ps u)) c l))

  -- where u is strictly above v there is such a child
  below : Ancestor ps u v → (u ≡ v → ⊥) → (c : ℕ) × (parent ps c ≡ some u) × Ancestor ps c v
  unfolding up
  below a other = go a.climbs a.reached
    where
      go : (k : ℕ) → up ps k v ≡ some u → (c : ℕ) × (parent ps c ≡ some u) × Ancestor ps c v
      go zero e = absurd (other (sym (entry-some ps v u e).0))
      go (suc k) e =
          let hv = up_from ps (suc k) v u e in
          let (c, r) = up-some ps small tree k v hv (omega (arith, up_depth ps small tree (suc k) v u e)) in
          let (p, q, f) = up_first ps 0 c u (sym (up-add ps k 1 v c r) ∙ ap (λ j. up ps j v) (add-one k) ∙ e) in
          (c, q ∙ ap some (entry-some ps p u f).0, record { climbs = k; reached = r })

  branch-cases : Cases ps u v
  branch-cases = go (dec_le (length ps) u) (dec_le (length ps) v)
    where
      related : u < length ps → v < length ps → (b : Bool) → has (climb ps v) u ≡ b → Dec (u ≡ v) → Cases ps u v
      related hu hv true e (no o) = inr (inr (below ((on-climb ps small tree u v hv).0 e) o))
      related hu hv true e (yes o) = inr (inl (hu, hv, λ s. s.other o))
      related hu hv false e o = inr (inl (hu, hv, λ s. clash (sym e ∙ (on-climb ps small tree u v hv).1 s.ancestor)))

      go : Dec (length ps ≤ u) → Dec (length ps ≤ v) → Cases ps u v
      go (yes h) k = inl (inl h)
      go (no h) (yes k) = inl (inr k)
      go (no h) (no k) = related (omega arith) (omega arith) (has (climb ps v) u) refl (ℕ_discrete u v)

  -- so 7 means that an argument is no entry, 10 that u is not strictly above v, 0 the child of u on the way to v, and no other number comes
  pub unknown-branch-iff : ((branch_of ps u v).number ≡ 7) ↔ ((length ps ≤ u) ⊎ (length ps ≤ v))
  unknown-branch-iff = (λ e. go e branch-cases, branch-unknown)
    where
      go : (branch_of ps u v).number ≡ 7 → Cases ps u v → (length ps ≤ u) ⊎ (length ps ≤ v)
      go e (inl h) = h
      go e (inr (inl (hu, hv, n))) = absurd (omega (arith, ap (λ o. o.number) (branch-not-above hu hv n)))
      go e (inr (inr (c, q, a))) = absurd (omega (arith, ap (λ o. o.number) (branch-child c q a)))

  pub not-above-iff : ((branch_of ps u v).number ≡ 10) ↔ ((u < length ps) × (v < length ps) × (Strictly ps u v → ⊥))
  not-above-iff = (λ e. go e branch-cases, λ (hu, hv, n). ap (λ o. o.number) (branch-not-above hu hv n))
    where
      go : (branch_of ps u v).number ≡ 10 → Cases ps u v → (u < length ps) × (v < length ps) × (Strictly ps u v → ⊥)
      go e (inl h) = absurd (omega (arith, branch-unknown h))
      go e (inr (inl h)) = h
      go e (inr (inr (c, q, a))) = absurd (omega (arith, ap (λ o. o.number) (branch-child c q a)))

  pub branch-iff : (c : ℕ) → (branch_of ps u v ≡ accepted c) ↔ ((parent ps c ≡ some u) × Ancestor ps c v)
  branch-iff c = (λ e. go e branch-cases, λ (q, a). branch-child c q a)
    where
      go : branch_of ps u v ≡ accepted c → Cases ps u v → (parent ps c ≡ some u) × Ancestor ps c v
      go e (inl h) = absurd (omega (arith, branch-unknown h, ap (λ o. o.number) e))
      go e (inr (inl (hu, hv, n))) = absurd (omega (arith, ap (λ o. o.number) (sym e ∙ branch-not-above hu hv n)))
      go e (inr (inr (d, q, a))) = let z : d ≡ c = ap (λ o. o.word) (sym (branch-child d q a) ∙ e) in (rw z at q, rw z at a)

  pub branch-numbers : has (0 ∷ 7 ∷ 10 ∷ []) (branch_of ps u v).number ≡ true
  unfolding some?
  branch-numbers = go branch-cases
    where
      go : Cases ps u v → has (0 ∷ 7 ∷ 10 ∷ []) (branch_of ps u v).number ≡ true
      go (inl h) = rw (branch-unknown h)
      go (inr (inl (hu, hv, n))) = rw (branch-not-above hu hv n)
      go (inr (inr (c, q, a))) = rw (branch-child c q a)

  -- ancestry says 1 just where u is v or above it
  pub ancestry-iff : u < length ps → v < length ps → (ancestry_of ps u v ≡ accepted 1) ↔ Ancestor ps u v
  unfolding ancestry_of
  ancestry-iff hu hv = rw (lt-leb (length ps) u hu, lt-leb (length ps) v hv) (λ e. (on-climb ps small tree u v hv).0 (go (has (climb ps v) u) (ap (λ o. o.word) e)), λ a. rw ((on-climb ps small tree u v hv).1 a))
    where
      go : (b : Bool) → ◌≡◌ {A = ℕ} (cond b 1 0) 1 → b ≡ true
      go true e = refl
      go false e = absurd (omega arith)
