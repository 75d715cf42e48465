-- Where groups start in preorder: at each micro entry past the groups before it, and nowhere inside one. Assumes nothing.
use mathlib.Core.Path.{◌≡◌, refl, sym, ap, ◌∙◌}
use mathlib.Core.List.{List}
use mathlib.Core.Bool.{Bool, true, false}
use Prim.Native.Nat.{ℕ, ◌+◌, ◌≤◌, ◌<◌}
use native.Mathlib.Omega.{arith}
use native.Mathlib.Decide.{dec_lt}
use borrow.Author.Count.{below_more}
use lib.ListN.{length}
use Rattle.base.proofs.Lists.{clash}
use Rattle.tree.specs.Forest.{size, position}
use Rattle.tree.specs.Level.{Ancestor}
use Rattle.tree.proofs.Intervals.{ancestor-in, ancestor-self, interval}
use Rattle.table.specs.Groups.{micro, group_root}
use Rattle.climbs.proofs.Groups.{root-above, one-root}
use Rattle.prepare.specs.Arrays.{OneTree, entry_at}
use Rattle.prepare.proofs.Preorder.{Located, small, located-at, located-of}

-- each group whose root stands before position i ends at `end` or before
abbrev pub Ended : ℕ → List ℕ → ℕ → ℕ → Type 0
Ended L ps i end = (k : ℕ) → k < i → group_root L ps (entry_at ps k) ≡ true → k + size ps (entry_at ps k) ≤ end

-- a macro entry is no root
pub macro-none : (L : ℕ) (ps : List ℕ) (v : ℕ) → micro L ps v ≡ false → group_root L ps v ≡ false
unfolding group_root
macro-none L ps v m = rw m

module _ {ps : List ℕ} (t : OneTree ps) (L : ℕ) where
  -- past the groups before it a micro entry is a root
  pub root-next : (i end : ℕ) → i < length ps → Ended L ps i end → end ≤ i → micro L ps (entry_at ps i) ≡ true → group_root L ps (entry_at ps i) ≡ true
  root-next i end h s b m =
      let here = located-at t i h in
      let (r, e, a) = root-above ps (small t) t.tree L (entry_at ps i) here.inside m in
      let there = located-of t r (ancestor-in ps (small t) t.tree r (entry_at ps i) a).0 in
      let (low, high) = (interval ps (small t) t.tree r (entry_at ps i) there.inside here.inside).0 a in
      go r e there.entry (omega arith) (omega arith) (dec_lt (position ps r) i)
    where
      go : (r : ℕ) → group_root L ps r ≡ true → entry_at ps (position ps r) ≡ r → position ps r ≤ i → i < position ps r + size ps r → Dec (position ps r < i) → group_root L ps (entry_at ps i) ≡ true
      go r e is low high (yes k) = absurd (omega (arith, s (position ps r) k (ap (group_root L ps) is ∙ e), ap (size ps) is))
      go r e is low high (no k) = let z : i ≡ position ps r = omega arith in ap (group_root L ps) (ap (entry_at ps) z ∙ is) ∙ e

  -- what stands in a family is below its first entry, and below a root there is no other
  module _ (k i : ℕ) (h : i < length ps) (low : k ≤ i) (high : i < k + size ps (entry_at ps k)) where
    first : Located ps k (entry_at ps k)
    first = located-at t k (omega arith)

    here : Located ps i (entry_at ps i)
    here = located-at t i h

    pub in-family : Ancestor ps (entry_at ps k) (entry_at ps i)
    in-family = (interval ps (small t) t.tree (entry_at ps k) (entry_at ps i) first.inside here.inside).1 (omega (arith, first.place, here.place), omega (arith, first.place, here.place))

    pub root_none : group_root L ps (entry_at ps k) ≡ true → k < i → group_root L ps (entry_at ps i) ≡ false
    root_none e b = go (group_root L ps (entry_at ps i)) refl
      where
        go : (q : Bool) → group_root L ps (entry_at ps i) ≡ q → q ≡ false
        go false q = refl
        go true q =
            let z = one-root ps (small t) t.tree L (entry_at ps k) (entry_at ps i) (entry_at ps i) e q in-family (ancestor-self ps (small t) t.tree (entry_at ps i) here.inside) in
            absurd (omega (arith, ap (position ps) z, first.place, here.place))

  -- one position further, with no root there or with one, and past a root's group
  pub ended_same : (i end : ℕ) → group_root L ps (entry_at ps i) ≡ false → Ended L ps i end → Ended L ps (i + 1) end
  ended_same i end e s = below_more _ i s (λ q. clash (sym e ∙ q))

  pub ended-root : (i end : ℕ) → end ≤ i → Ended L ps i end → Ended L ps (i + 1) (i + size ps (entry_at ps i))
  ended-root i end b s = below_more _ i (λ k l q. omega (arith, s k l q)) (λ q. omega arith)

  pub ended-group : (i : ℕ) → i + size ps (entry_at ps i) ≤ length ps → group_root L ps (entry_at ps i) ≡ true → Ended L ps i i → Ended L ps (i + size ps (entry_at ps i)) (i + size ps (entry_at ps i))
  ended-group i room e s k b q = go (dec_lt i k)
    where
      go : Dec (i < k) → k + size ps (entry_at ps k) ≤ i + size ps (entry_at ps i)
      go (yes l) = clash (sym (root_none i k (omega arith) (omega arith) b e l) ∙ q)
      go (no l) = ended-root i i (omega arith) s k (omega arith) q
