-- The forest of any list, loops included: who is a child, what meets the top, what is below an entry, who is in the preorder. Assumes nothing.
use mathlib.Core.Path.{◌≡◌, refl, sym, ap, ◌∙◌}
use mathlib.Core.List.{List, [], ◌∷◌, ◌++◌, append_assoc}
use mathlib.Core.Bool.{true}
use mathlib.Core.Option.{some}
use Prim.Native.Nat.{ℕ, zero, suc, ◌+◌, ◌≤◌, ◌<◌}
use native.Mathlib.Omega.{arith}
use native.Mathlib.Decide.{ℕ_discrete, dec_lt}
use lib.ListN.{length, get_or, length-append}
use lib.Dec.{eqb}
use borrow.Author.Tests.{eqb-true, eq-eqb}
use Rattle.base.specs.Lists.{some?}
use Rattle.base.proofs.Lists.{clash}
use Rattle.base.proofs.Counts.{one, times, places-at, places-past, all_ones, ones-all}
use Rattle.base.proofs.Places.{one-true, one-most, times-other, stands}
use Rattle.base.specs.Limits.{top_mark}
use Rattle.tree.specs.Parents.{word, parent, climb_within, children}
use Rattle.tree.specs.Forest.{Forest, empty, node, plant, grow, preorder, forest_size, forest_height, under, whole, size, order}
use Rattle.tree.specs.Faults.{meets_top}
use Rattle.tree.proofs.Climbs.{meets, meets-top, meets-up, meets-past, meets_word, parent-some}
use Rattle.tree.proofs.Preorders.{pre, once, length-pre, length-pre-le, settled, whole-more, meets-more}

-- a preorder has as many entries as its forest
pub forest-length : (f : Forest) → length (preorder f) ≡ forest_size f
unfolding preorder forest_size
forest-length empty = refl
forest-length (node v b later) = omega (arith, length-append (preorder b) (preorder later), forest-length b, forest-length later)

-- the preorder of two first levels joined
pub plant-append : (f : ℕ → Forest) (a b : List ℕ) → preorder (plant f (a ++ b)) ≡ preorder (plant f a) ++ preorder (plant f b)
unfolding preorder plant
plant-append f [] b = refl
plant-append f (v ∷ a) b = rw (plant-append f a b) (simp append_assoc)

-- a measure of forests: an entry adds 1 at least to what is below it, and takes nothing from its later siblings
pub record Measure (m : Forest → ℕ) : Type 0 where
  pub inner : (v : ℕ) (b later : Forest) → suc (m b) ≤ m (node v b later)
  pub later : (v : ℕ) (b later : Forest) → m later ≤ m (node v b later)

pub size-measure : Measure forest_size
unfolding forest_size
size-measure = record { inner = λ v b later. omega arith; later = λ v b later. omega arith }

pub height-measure : Measure forest_height
unfolding forest_height
height-measure = record { inner = λ v b later. omega arith; later = λ v b later. omega arith }

-- a forest measures more than what is below any of its first level
pub plant-more : (m : Forest → ℕ) → Measure m → (f : ℕ → Forest) (c : ℕ) (vs : List ℕ) → 1 ≤ times c vs → m (f c) < m (plant f vs)
unfolding plant times
plant-more m is f c [] h = absurd (omega arith)
plant-more m is f c (v ∷ vs) h = go (ℕ_discrete c v) (plant-more m is f c vs)
  where
    go : Dec (c ≡ v) → (1 ≤ times c vs → m (f c) < m (plant f vs)) → m (f c) < m (node v (f v) (plant f vs))
    go (yes e) ih = rw e (is.inner v (f v) (plant f vs))
    go (no e) ih = omega (arith, ih (omega (arith, times-other c v vs e)), is.later v (f v) (plant f vs))

module _ (ps : List ℕ) (small : length ps ≤ top_mark) where
  -- the children of v are the entries whose word is v, each listed once
  pub child-once : (v c : ℕ) → times c (children ps v) ≤ 1
  child-once v c = go (dec_lt c (length ps))
    where
      go : Dec (c < length ps) → times c (children ps v) ≤ 1
      go (yes h) = omega (arith, places-at ps 0 c c v h (omega arith), one-most (eqb (word ps c) v))
      go (no h) = omega (arith, places-past c ps 0 v (omega arith))

  pub child-of : (v c : ℕ) → 1 ≤ times c (children ps v) → (c < length ps) × (word ps c ≡ v)
  child-of v c k = go (dec_lt c (length ps))
    where
      go : Dec (c < length ps) → (c < length ps) × (word ps c ≡ v)
      go (yes h) = (h, eqb-true (word ps c) v (one-true _ (omega (arith, places-at ps 0 c c v h (omega arith)))))
      go (no h) = absurd (omega (arith, places-past c ps 0 v (omega arith)))

  pub of-child : (c : ℕ) → c < length ps → times c (children ps (word ps c)) ≡ 1
  of-child c h = places-at ps 0 c c (word ps c) h (omega arith) ∙ ap one (eq-eqb (word ps c) (word ps c) refl)

  -- a climb meets the top within n entries or within n + 1
  meets-next : (v : ℕ) → meets ps (suc (length ps)) v ≡ meets_top ps v
  unfolding meets_top meets
  meets-next v = let z : 1 + length ps ≡ suc (length ps) = omega arith in rw z at (meets-more ps small 1 v)

  -- what meets the top: entries alone, the tops, a child and a parent of what does
  pub meets-entry : (v : ℕ) → meets_top ps v ≡ true → v < length ps
  unfolding meets_top meets
  meets-entry v m = go (dec_lt v (length ps))
    where
      go : Dec (v < length ps) → v < length ps
      go (yes h) = h
      go (no h) = clash (sym (meets-past ps (length ps) v (omega arith)) ∙ m)

  pub top-meets : (c : ℕ) → 1 ≤ times c (children ps top_mark) → meets_top ps c ≡ true
  top-meets c k = sym (meets-next c) ∙ meets-top ps (length ps) c (child-of top_mark c k).1

  pub child-meets : (v c : ℕ) → meets_top ps v ≡ true → v < length ps → 1 ≤ times c (children ps v) → meets_top ps c ≡ true
  unfolding meets_top meets
  child-meets v c m h k =
      let (hc, w) = child-of v c k in
      sym (meets-next c) ∙ meets_word ps (length ps) c hc (λ t. omega arith) ∙ ap (meets ps (length ps)) w ∙ m

  pub parent-meets : (v p : ℕ) → meets_top ps v ≡ true → parent ps v ≡ some p → meets_top ps p ≡ true
  unfolding meets_top meets
  parent-meets v p m e =
      let (hv, hp, w) = parent-some ps v p e in
      sym (meets-up ps (length ps) v p (λ t. omega arith) e) ∙ meets-next v ∙ m

  -- the forest below an entry that meets the top has fewer than n entries, however many levels it is grown to
  below-few : (d k v : ℕ) → meets ps d v ≡ true → forest_size (grow ps k (children ps v)) < length ps
  unfolding meets climb_within some? grow pre
  below-few zero k v m = clash m
  below-few (suc d) k v m = go (dec_lt v (length ps)) (ℕ_discrete (word ps v) top_mark) (below-few d (suc k) (word ps v))
    where
      more : v < length ps → forest_size (grow ps k (children ps v)) < forest_size (grow ps (suc k) (children ps (word ps v)))
      more h = plant-more forest_size size-measure (λ c. grow ps k (children ps c)) v (children ps (word ps v)) (omega (arith, of-child v h))

      go : Dec (v < length ps) → Dec (word ps v ≡ top_mark) → (meets ps d (word ps v) ≡ true → forest_size (grow ps (suc k) (children ps (word ps v))) < length ps)
          → forest_size (grow ps k (children ps v)) < length ps
      go (no h) t ih = clash (sym (meets-past ps (suc d) v (omega arith)) ∙ m)
      go (yes h) (yes t) ih = omega (arith, rw t at (more h), forest-length (grow ps (suc k) (children ps top_mark)), length-pre-le ps (suc k) small)
      go (yes h) (no t) ih = omega (arith, more h, ih (sym (meets_word ps d v h t) ∙ m))

  pub size-most : (v : ℕ) → meets_top ps v ≡ true → size ps v ≤ length ps
  unfolding meets_top meets
  size-most v m = below-few (length ps) (length ps) v m

  -- below such an entry stand its children, each with what is below it; the tops, in the whole
  pub under-eq : (v : ℕ) → v < length ps → meets_top ps v ≡ true → under ps v ≡ plant (under ps) (children ps v)
  unfolding meets_top meets grow pre
  under-eq v h m =
      sym (settled ps (length ps) (children ps v) (omega (arith, forest-length (grow ps (suc (length ps)) (children ps v)), below-few (length ps) (suc (length ps)) v m)))

  pub whole-eq : whole ps ≡ plant (under ps) (children ps top_mark)
  unfolding grow
  whole-eq = sym (whole-more ps small)

  -- in the preorder stand the entries that meet the top, each once
  pub order-once : (v : ℕ) → times v (order ps) ≡ one (meets_top ps v)
  unfolding pre meets_top meets
  order-once v = once ps (length ps) v small

  pub order-short : length (order ps) ≤ length ps
  unfolding pre
  order-short = length-pre-le ps (length ps) small

  pub order-meets : (i : ℕ) → i < length (order ps) → (get_or (order ps) i 0 < length ps) × (meets_top ps (get_or (order ps) i 0) ≡ true)
  order-meets i h =
      let x = get_or (order ps) i 0 in
      let m : meets_top ps x ≡ true = one-true (meets_top ps x) (omega (arith, stands x (order ps) i h refl, order-once x)) in
      (meets-entry x m, m)

  -- all n do just where the preorder has n entries
  pub full_meets : length (order ps) ≡ length ps → (v : ℕ) → v < length ps → meets_top ps v ≡ true
  unfolding pre meets_top meets
  full_meets e = all_ones (length ps) (meets ps (length ps)) (sym (length-pre ps (length ps) small) ∙ e)

  pub meets-full : ((v : ℕ) → v < length ps → meets_top ps v ≡ true) → length (order ps) ≡ length ps
  unfolding pre meets_top meets
  meets-full h = length-pre ps (length ps) small ∙ ones-all (length ps) (meets ps (length ps)) h
