-- SIZE, HEIGHT and LONG by position, from ABOVE: what is below an entry, with its children from a position on. Assumes nothing.
use mathlib.Core.Path.{◌≡◌, sym, ap, ◌∙◌}
use mathlib.Core.List.{List, [], ◌∷◌, ◌++◌}
use mathlib.Core.Bool.{Bool}
use mathlib.Core.Option.{some, Option-elim}
use Prim.Native.Nat.{ℕ, suc, ◌+◌, ◌≤◌, ◌<◌}
use native.Mathlib.Omega.{arith}
use native.Mathlib.Decide.{ℕ_discrete, dec_le}
use lib.ListN.{length}
use lib.Dec.{leb}
use borrow.Author.Tests.{le-leb, lt-leb}
use Rattle.base.specs.Limits.{most_entries, top_mark}
use Rattle.base.specs.Lists.{keep}
use Rattle.base.proofs.Filters.{keep_append, keep-none, keep-alike, keep_all}
use Rattle.tree.specs.Parents.{word, parent, children}
use Rattle.tree.specs.Forest.{Forest, empty, node, plant, forest_size, forest_height, tallest, under, height, position}
use Rattle.tree.proofs.Climbs.{parent-some, parent_in}
use Rattle.tree.proofs.OneTree.{tree-meets}
use Rattle.tree.proofs.Forests.{under-eq, child-of}
use Rattle.tree.proofs.Positions.{at_position, position_in}
use Rattle.tree.proofs.Intervals.{family-room, parent-before}
use Rattle.tree.proofs.Siblings.{Child, child, size-join, height-most}
use Rattle.prepare.specs.Arrays.{OneTree, entry_at}
use Rattle.prepare.proofs.Preorder.{Over, Words, small, located-at}

-- a number that is not i is at least i just where it is more
leb-next : (i x : ℕ) → (x ≡ i → ⊥) → leb i x ≡ leb (suc i) x
leb-next i x o = go (dec_le i x)
  where
    go : Dec (i ≤ x) → leb i x ≡ leb (suc i) x
    go (yes l) = le-leb i x l ∙ sym (le-leb (suc i) x (omega arith))
    go (no l) = lt-leb i x (omega arith) ∙ sym (lt-leb (suc i) x (omega arith))

-- the children of v that stand at position i or behind it, and what is below v with them alone
abbrev late : List ℕ → ℕ → ℕ → List ℕ
late ps i v = keep (λ c. leb i (position ps c)) (children ps v)

unfoldable pub under_from : List ℕ → ℕ → ℕ → Forest
under_from ps i v = plant (under ps) (late ps i v)

module _ {ps : List ℕ} (t : OneTree ps) where
  under-is : (v : ℕ) → v < length ps → under ps v ≡ plant (under ps) (children ps v)
  under-is v h = under-eq ps (small t) v h (tree-meets ps (small t) t.tree v h)

  -- behind all positions that is nothing, and from the position behind v on all that is below it
  part_none : (v : ℕ) → under_from ps (length ps) v ≡ empty
  unfolding under_from plant
  part_none v =
      ap (plant (under ps)) (keep-none _ (children ps v) (λ x k. lt-leb (length ps) (position ps x) (position_in ps (small t) t.tree x (child-of ps (small t) v x k).0)))

  part-all : (i v : ℕ) → v < length ps → i ≤ suc (position ps v) → under_from ps i v ≡ under ps v
  unfolding under_from
  part-all i v h b =
      ap (plant (under ps)) (keep_all _ (children ps v) (λ x k.
      let (g, w) = child-of ps (small t) v x k in
      le-leb i (position ps x) (omega (arith, parent-before ps (small t) t.tree x v (parent_in ps x g (omega arith) ∙ ap some w)))))
      ∙ sym (under-is v h)

  module _ (c p : ℕ) (e : parent ps c ≡ some p) where
    abbrev k : Child ps c p
    k = child ps (small t) t.tree c p e

    -- the children from the position of c on are c and those behind it, and from the next position on those behind it
    late-at : (i : ℕ) → position ps c ≤ i → i ≤ suc (position ps c) → late ps i p ≡ keep (λ x. leb i (position ps x)) (c ∷ []) ++ k.after
    late-at i h l =
        let test : ℕ → Bool = λ x. leb i (position ps x) in
        ap (keep test) k.children-are
        ∙ keep_append test k.before (c ∷ k.after)
        ∙ ap (λ m. m ++ keep test (c ∷ k.after)) (keep-none test k.before (λ x b. lt-leb i (position ps x) (omega (arith, k.earlier x b))))
        ∙ keep_append test (c ∷ []) k.after
        ∙ ap (λ m. keep test (c ∷ []) ++ m) (keep_all test k.after (λ x b. le-leb i (position ps x) (omega (arith, k.later x b))))

    late-here : late ps (position ps c) p ≡ c ∷ k.after
    unfolding keep
    late-here = late-at (position ps c) (omega arith) (omega arith) ∙ rw (le-leb (position ps c) (position ps c) (omega arith))

    late-next : late ps (suc (position ps c)) p ≡ k.after
    unfolding keep
    late-next = late-at (suc (position ps c)) (omega arith) (omega arith) ∙ rw (lt-leb (suc (position ps c)) (position ps c) (omega arith))

    -- so c is below its parent before what is there from the next position on
    part-more : under_from ps (position ps c) p ≡ node c (under ps c) (under_from ps (suc (position ps c)) p)
    unfolding under_from plant
    part-more = ap (plant (under ps)) late-here ∙ ap (λ l. node c (under ps c) (plant (under ps) l)) (sym late-next)

    part-fits : forest_size (under_from ps (position ps c) p) ≤ forest_size (under ps p)
    unfolding under_from
    part-fits =
        omega (arith, ap (λ l. forest_size (plant (under ps) l)) late-here, size-join (under ps) k.before (c ∷ k.after), ap forest_size (under-is p (parent-some ps c p e).1 ∙ ap (plant (under ps)) k.children-are))

    -- and below no other entry
    part_same : (v : ℕ) → (v ≡ p → ⊥) → under_from ps (position ps c) v ≡ under_from ps (suc (position ps c)) v
    unfolding under_from
    part_same v o =
        ap (plant (under ps)) (keep-alike _ _ (children ps v) (λ x b.
        let (h, w) = child-of ps (small t) v x b in
        leb-next (position ps c) (position ps x) (λ q. o (sym w ∙ ap (word ps) (sym (at_position ps (small t) t.tree x h) ∙ ap (entry_at ps) q ∙ at_position ps (small t) t.tree c (parent-some ps c p e).0) ∙ (parent-some ps c p e).2))))

-- what a function says of what is below each entry from position i on, at the entry's position
abbrev pub WordsFrom : List ℕ → (Forest → ℕ) → ℕ → (ℕ → ℕ) → Type 0
WordsFrom ps g i read = Words ps (λ v. g (under_from ps i v)) read

-- SIZE, HEIGHT and LONG of an entry, of what is below it
abbrev pub size_of : Forest → ℕ
size_of f = suc (forest_size f)

abbrev pub height_of : Forest → ℕ
height_of f = suc (forest_height f)

abbrev pub long_of : List ℕ → Forest → ℕ
long_of ps f = Option-elim (tallest f) top_mark (position ps)

module _ {ps : List ℕ} (t : OneTree ps) where
  -- at the start nothing is below any entry, and once the positions behind one are done all is
  module _ (g : Forest → ℕ) (read : ℕ → ℕ) where
    pub words-none : ((k : ℕ) → k < length ps → read k ≡ g empty) → WordsFrom ps g (length ps) read
    words-none e k h = e k h ∙ ap g (sym (part_none t (entry_at ps k)))

    pub words-all : (i : ℕ) → WordsFrom ps g i read → (k : ℕ) → i ≤ suc k → k < length ps → read k ≡ g (under ps (entry_at ps k))
    words-all i w k b h = let here = located-at t k h in w k h ∙ ap g (part-all t i (entry_at ps k) here.inside (omega arith))

  -- one position further down
  module _ (at over p : ℕ) (h : at < length ps) (o : Over ps at over p) where
    abbrev c : ℕ
    c = entry_at ps at

    c-at : position ps c ≡ at
    c-at = (located-at t at h).place

    abbrev grown : Forest
    grown = node c (under ps c) (under_from ps (suc at) (entry_at ps over))

    more : under_from ps at (entry_at ps over) ≡ grown
    more = rw o.there.entry (rw c-at at (part-more t c p o.parent_is))

    same : (k : ℕ) → k < length ps → (k ≡ over → ⊥) → under_from ps at (entry_at ps k) ≡ under_from ps (suc at) (entry_at ps k)
    same k l q = rw c-at at (part_same t c p o.parent_is (entry_at ps k) (λ z. q (sym (located-at t k l).place ∙ ap (position ps) z ∙ o.there.place)))

    -- the word of the entry above is that of one entry more below it, and the others stay
    pub words_more : (g : Forest → ℕ) (read now : ℕ → ℕ) → WordsFrom ps g (suc at) read → ((k : ℕ) → k < length ps → (k ≡ over → ⊥) → now k ≡ read k) → now over ≡ g grown → WordsFrom ps g at now
    words_more g read now w others here k l = go (ℕ_discrete k over)
      where
        go : Dec (k ≡ over) → now k ≡ g (under_from ps at (entry_at ps k))
        go (yes q) = rw q (here ∙ ap g (sym more))
        go (no q) = others k l q ∙ w k l ∙ ap g (sym (same k l q))

    -- SIZE: the sum is that of one entry more, and fits
    module _ (read : ℕ → ℕ) (w : WordsFrom ps size_of (suc at) read) where
      pub sum_is : read over + read at ≡ size_of grown
      unfolding forest_size
      sum_is = omega (arith, w over o.there.low, words-all size_of read (suc at) w at (omega arith) h)

      pub sum_fits : read over + read at ≤ most_entries
      sum_fits =
          let few = t.few in
          omega (arith, few, sum_is, ap size_of more, ap (λ v. forest_size (under_from ps at v)) o.there.entry, rw c-at at (part-fits t c p o.parent_is), family-room ps (small t) t.tree p o.there.inside)

    -- HEIGHT and LONG: the child is the tallest of those met, the first of them on a tie, or not
    module _ (read : ℕ → ℕ) (w : WordsFrom ps height_of (suc at) read) where
      high : read at ≡ height ps c
      high = words-all height_of read (suc at) w at (omega arith) h

      pub rise-fits : read at ≤ most_entries
      rise-fits = let few = t.few in omega (arith, few, high, height-most (under ps c), family-room ps (small t) t.tree c (located-at t at h).inside)

      pub taller : read over ≤ read at + 1 → (read at + 1 ≡ height_of grown) × (at ≡ long_of ps grown)
      unfolding forest_height tallest Option-elim
      taller g =
          let z = w over o.there.low in
          (omega (arith, high, z), rw (le-leb (forest_height (under_from ps (suc at) (entry_at ps over))) (height ps c) (omega (arith, high, z))) (sym c-at))

      pub shorter : read at + 1 < read over → (read over ≡ height_of grown) × (long_of ps (under_from ps (suc at) (entry_at ps over)) ≡ long_of ps grown)
      unfolding forest_height tallest
      shorter g =
          let z = w over o.there.low in
          (omega (arith, high, z), rw (lt-leb (forest_height (under_from ps (suc at) (entry_at ps over))) (height ps c) (omega (arith, high, z))))
