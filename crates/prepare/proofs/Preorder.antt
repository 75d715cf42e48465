-- The positions and the entries of a list that forms one tree, and arrays with a word for each position. Assumes nothing.
use mathlib.Core.Path.{◌≡◌, refl, sym, ap, ◌∙◌}
use mathlib.Core.List.{List}
use mathlib.Core.Option.{Option, none, some, Option-elim}
use Prim.Native.Nat.{ℕ, suc, ◌-◌, ◌≤◌, ◌<◌}
use native.Mathlib.Omega.{arith}
use lib.ListN.{length, get_or, length-map, get_or-map}
use lib.Seq.{ext_get_or}
use Rattle.base.proofs.Lists.{at-any}
use Rattle.base.specs.Limits.{most_entries, top_mark}
use Rattle.judge.specs.Verdict.{verdict}
use Rattle.table.proofs.Outcomes.{list-zero}
use Rattle.tree.proofs.Theorems.{passes-iff-tree}
use Rattle.tree.specs.Parents.{parent}
use Rattle.tree.specs.Forest.{order, position}
use Rattle.tree.proofs.Climbs.{parent-some}
use Rattle.tree.proofs.OneTree.{root_in}
use Rattle.tree.proofs.Positions.{order-length, position_in, at_position, position-of, order-in}
use Rattle.tree.proofs.Intervals.{parent-before, next-parent}
use Rattle.prepare.specs.Arrays.{OneTree, entry_at, by_position, above_position}

-- that judging finds nothing says that a list forms one tree
pub one-tree : {ps : List ℕ} → length ps ≤ most_entries → (verdict ps).number ≡ 0 → OneTree ps
unfolding verdict
one-tree {ps} few e = record { few = few; tree = (passes-iff-tree ps (omega arith)).0 (list-zero ps (length ps) e) }

pub judged-none : {ps : List ℕ} → OneTree ps → (verdict ps).number ≡ 0
unfolding verdict Option-elim
judged-none {ps} t = let few = t.few in rw ((passes-iff-tree ps (omega arith)).1 t.tree)

-- position i holds entry v
pub record Located (ps : List ℕ) (i v : ℕ) : Type 0 where
  pub low : i < length ps
  pub inside : v < length ps
  pub entry : entry_at ps i ≡ v
  pub place : position ps v ≡ i

-- position j holds p, which is above the entry at position i
pub record Over (ps : List ℕ) (i j p : ℕ) : Type 0 where
  pub parent_is : parent ps (entry_at ps i) ≡ some p
  pub there : Located ps j p
  pub earlier : j < i

-- what is read at each position is the word of the entry there
abbrev pub Words : List ℕ → (ℕ → ℕ) → (ℕ → ℕ) → Type 0
Words ps f read = (i : ℕ) → i < length ps → read i ≡ f (entry_at ps i)

module _ {ps : List ℕ} (t : OneTree ps) where
  pub small : length ps ≤ top_mark
  small = let few = t.few in omega (arith, few)

  pub order-many : length (order ps) ≡ length ps
  order-many = order-length ps small t.tree

  pub entries-some : 0 < length ps
  entries-some = let root = root_in ps small t.tree in omega (arith, root.0)

  pub located-at : (i : ℕ) → i < length ps → Located ps i (entry_at ps i)
  located-at i h = record { low = h; inside = order-in ps small t.tree i h; entry = refl; place = position-of ps small t.tree i h }

  pub located-of : (v : ℕ) → v < length ps → Located ps (position ps v) v
  located-of v h = record { low = position_in ps small t.tree v h; inside = h; entry = at_position ps small t.tree v h; place = refl }

  -- the first position has nothing above
  pub no-parent : parent ps (entry_at ps 0) ≡ none
  no-parent = go (parent ps (entry_at ps 0)) refl
    where
      go : (o : Option ℕ) → parent ps (entry_at ps 0) ≡ o → o ≡ none
      go none e = refl
      go (some p) e = absurd (omega (arith, parent-before ps small t.tree (entry_at ps 0) p e, (located-at 0 entries-some).place))

  pub above-first : above_position ps (entry_at ps 0) ≡ top_mark
  unfolding above_position Option-elim
  above-first = rw no-parent

  pub above_parent : (v p : ℕ) → parent ps v ≡ some p → above_position ps v ≡ position ps p
  unfolding above_position Option-elim
  above_parent v p e = rw e

  -- the word of ABOVE at a position: every position but the first has an entry above, which stands earlier
  module _ (i : ℕ) {j : ℕ} (h : i < length ps) (w : j ≡ above_position ps (entry_at ps i)) where
    pub over-of : (p : ℕ) → parent ps (entry_at ps i) ≡ some p → Over ps i j p
    over-of p e =
        let there = located-of p (parent-some ps (entry_at ps i) p e).1 in
        rw (w ∙ above_parent (entry_at ps i) p e)
        (record { parent_is = e; there = there; earlier = omega (arith, parent-before ps small t.tree (entry_at ps i) p e, (located-at i h).place) })

    pub over-at : 0 < i → (p : ℕ) × Over ps i j p
    over-at b =
        let z : i ≡ suc (i - 1) = omega arith in
        let (p, e, a) = next-parent ps small t.tree (i - 1) (omega arith) in
        (p, over-of p (ap (λ k. parent ps (entry_at ps k)) z ∙ e))

  -- arrays
  pub array-length : (f : ℕ → ℕ) (l : List ℕ) → l ≡ by_position ps f → length l ≡ length ps
  array-length f l e = ap length e ∙ length-map (order ps) f ∙ order-many

  pub array-words : (f : ℕ → ℕ) (l : List ℕ) → l ≡ by_position ps f → Words ps f (λ i. get_or l i 0)
  array-words f l e i h =
      ap (λ m. get_or m i 0) e ∙ at-any (by_position ps f) i 0 (f 0) (omega (arith, array-length f (by_position ps f) refl)) ∙ get_or-map f (order ps) i 0

  pub words-array : (f : ℕ → ℕ) (l : List ℕ) → length l ≡ length ps → Words ps f (λ i. get_or l i 0) → l ≡ by_position ps f
  words-array f l n w =
      ext_get_or 0 l (by_position ps f) (n ∙ sym (array-length f _ refl)) (λ i h. w i (omega arith) ∙ sym (array-words f _ refl i (omega arith)))
