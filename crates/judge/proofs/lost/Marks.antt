-- The entries of the preorder are marked: the others are those whose climb never meets the top. Assumes nothing.
use mathlib.Core.Path.{◌≡◌, refl, sym, ap, ◌∙◌}
use mathlib.Core.Logic.{◌⊎◌, inl, inr}
use mathlib.Core.List.{List}
use mathlib.Core.Bool.{Bool, true, false, not, cond}
use mathlib.Core.Option.{none}
use Prim.Native.Nat.{ℕ, ◌+◌, ◌≤◌, ◌<◌}
use native.Mathlib.Omega.{arith}
use native.Mathlib.Decide.{ℕ_discrete}
use lib.ListN.{length, get_or, set}
use lib.Dec.{eqb}
use borrow.Author.Tests.{not-false}
use Rattle.base.specs.Lists.{below, first, place}
use Rattle.base.proofs.Lists.{clash, first-none, none_first}
use Rattle.base.proofs.Counts.{one}
use Rattle.base.proofs.Places.{place-stands}
use Rattle.base.specs.Limits.{top_mark}
use Rattle.tree.specs.Forest.{order}
use Rattle.tree.specs.Faults.{lowest, meets_top}
use Rattle.tree.proofs.Forests.{order-once, order-short, order-meets, full_meets, meets-full}
use Rattle.judge.specs.Regions.{Marked}
use Rattle.judge.proofs.link.Chains.{at_set}
use Rattle.judge.proofs.Searches.{first-same}

-- the first i of the preorder are marked, and no entry is that does not meet the top
pub record MarkedTo (ps : List ℕ) (i : ℕ) (marks : List ℕ) : Type 0 where
  pub done : (k : ℕ) → k < i → get_or marks (get_or (order ps) k 0) 0 ≡ 1
  pub only : (v : ℕ) → v < length ps → (get_or marks v 0 ≡ 0) ⊎ (meets_top ps v ≡ true)

module _ (ps : List ℕ) (small : length ps ≤ top_mark) where
  pub mark-more : (marks : List ℕ) (i v : ℕ) → i < length (order ps) → v ≡ get_or (order ps) i 0 → length marks ≡ length ps → MarkedTo ps i marks → MarkedTo ps (i + 1) (set marks v 1)
  mark-more marks i v h e s m =
      let (b, t) = order-meets ps small i h in
      let own : meets_top ps v ≡ true = ap (meets_top ps) e ∙ t in
      record {
        done = λ k c. at_set (λ y. y ≡ 1) marks v 1 (get_or (order ps) k 0) (omega arith) (λ q. refl) (λ q. m.done k (before k c q (ℕ_discrete k i)));
        only = λ u c. at_set (λ y. (y ≡ 0) ⊎ (meets_top ps u ≡ true)) marks v 1 u (omega arith) (λ q. inr (ap (meets_top ps) q ∙ own)) (λ q. m.only u c);
      }
    where
      before : (k : ℕ) → k < i + 1 → (get_or (order ps) k 0 ≡ v → ⊥) → Dec (k ≡ i) → k < i
      before k c q (yes d) = absurd (q (ap (λ j. get_or (order ps) j 0) d ∙ sym e))
      before k c q (no d) = omega arith

  pub mark-end : (marks : List ℕ) (i : ℕ) → length (order ps) ≤ i → MarkedTo ps i marks → Marked ps marks
  mark-end marks i h m v b = go (meets_top ps v) refl (m.only v b)
    where
      go : (t : Bool) → meets_top ps v ≡ t → (get_or marks v 0 ≡ 0) ⊎ (meets_top ps v ≡ true) → get_or marks v 0 ≡ cond t 1 0
      go true t o =
          let (c, d) = place-stands v (order ps) (omega (arith, order-once ps small v, ap one t)) in
          rw d at (m.done (place v (order ps)) (omega (arith, c)))
      go false t (inl e) = e
      go false t (inr e) = clash (sym t ∙ e)

  -- the lowest that is not marked is the lowest that does not meet the top
  module _ (marks : List ℕ) (s : length marks ≡ length ps) (m : Marked ps marks) where
    zero-lost : (v : ℕ) → v < length ps → eqb (get_or marks v 0) 0 ≡ not (meets_top ps v)
    zero-lost v h = rw (m v h) (go (meets_top ps v))
      where
        go : (b : Bool) → eqb (cond b 1 0) 0 ≡ not b
        go true = refl
        go false = refl

    pub lost-is : first (λ v. eqb (get_or marks v 0) 0) (below (length marks) (λ v. v)) ≡ lowest ps (λ v. not (meets_top ps v))
    lost-is = rw s (first-same (λ v. eqb (get_or marks v 0) 0) (λ v. not (meets_top ps v)) (length ps) 0 (λ v h. zero-lost v (omega arith)))

  -- of a preorder of all entries none is lost
  pub none-lost : length ps ≤ length (order ps) → lowest ps (λ v. not (meets_top ps v)) ≡ none
  none-lost h =
      let e : length (order ps) ≡ length ps = omega (arith, order-short ps small) in
      none_first (λ v. not (meets_top ps v)) (length ps) 0 (λ v x y. ap not (full_meets ps small e v (omega arith)))

  -- where none is, the preorder is of all entries
  pub all-met : lowest ps (λ v. not (meets_top ps v)) ≡ none → length (order ps) ≡ length ps
  all-met e = meets-full ps small (λ v h. not-false _ (first-none (λ u. not (meets_top ps u)) (length ps) 0 e v (omega arith) (omega arith)))
