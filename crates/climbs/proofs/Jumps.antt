-- Jump nodes of 003: every macro node has one at or below it, whose number is KIND, and they are few. Assumes nothing.
use mathlib.Core.Path.{◌≡◌, refl, ap, ◌∙◌}
use mathlib.Core.List.{List, [], ◌∷◌, ◌++◌}
use mathlib.Core.Bool.{Bool, true, false, not, ◌&&◌}
use mathlib.Core.Option.{some}
use Prim.Native.Nat.{ℕ, zero, suc, ◌+◌, ◌-◌, ◌*◌, ◌/◌, ◌≤◌, ◌<◌}
use native.Mathlib.Omega.{arith}
use native.Mathlib.Numerals.{add-one}
use native.Mathlib.Nat.{mul-zero, mul-suc, mul_comm, le-div_iff_mul-le}
use native.Mathlib.Decide.{dec_lt}
use lib.ListN.{length, get_or, take, drop, length-append, drop_of_length-le}
use lib.Seq.{drop-cons, get_or_at}
use borrow.Author.Tests.{leb-true, leb-false, le-leb, lt-leb}
use Rattle.base.specs.Lists.{keep, index, every, has}
use Rattle.base.proofs.Lists.{clash}
use Rattle.base.proofs.Counts.{times}
use Rattle.base.proofs.Places.{times-same}
use Rattle.base.proofs.Filters.{keep_append, keep-yes, keep-no, keep-times, keep-in, keep-none, every_true, every-false, index_is, times-has, has-not}
use Rattle.base.specs.Limits.{top_mark}
use Rattle.tree.specs.Parents.{word, parent, up, children}
use Rattle.tree.specs.Forest.{preorder, under, size, family, order, position}
use Rattle.tree.specs.Level.{Ancestor}
use Rattle.tree.specs.Faults.{Tree}
use Rattle.tree.proofs.Climbs.{entry-some, parent_in, parent-some, up_first}
use Rattle.tree.proofs.Forests.{child-of, of-child}
use Rattle.tree.proofs.Positions.{order-length, position_in, order-in, position-of, position-before}
use Rattle.tree.proofs.Intervals.{ancestor-in, ancestor-self, ancestor-trans, ancestor-parent, ancestor-size, family-room, family-drop, family-split, inside, family-ancestor, ancestor-family, under_up, parent-before}
use Rattle.table.specs.Groups.{micro, jump_node, jump_nodes, macro_kind}

-- a micro node has size L or less, a macro node more
module _ (L : ℕ) (ps : List ℕ) (v : ℕ) where
  pub micro-size : micro L ps v ≡ true → size ps v ≤ L
  unfolding micro
  micro-size e = leb-true (size ps v) L e

  pub size-micro : size ps v ≤ L → micro L ps v ≡ true
  unfolding micro
  size-micro h = le-leb (size ps v) L h

  pub macro-size : micro L ps v ≡ false → L < size ps v
  unfolding micro
  macro-size e = leb-false (size ps v) L e

  pub size-macro : L < size ps v → micro L ps v ≡ false
  unfolding micro
  size-macro h = lt-leb (size ps v) L h

  -- a jump node is a macro node with micro children alone
  pub jump-parts : jump_node L ps v ≡ true → (micro L ps v ≡ false) × (every (micro L ps) (children ps v) ≡ true)
  unfolding jump_node
  jump-parts e = go (micro L ps v) e
    where
      go : (b : Bool) → (not b && every (micro L ps) (children ps v)) ≡ true → (b ≡ false) × (every (micro L ps) (children ps v) ≡ true)
      go true e = clash e
      go false e = (refl, e)

  pub jump-is : micro L ps v ≡ false → every (micro L ps) (children ps v) ≡ true → jump_node L ps v ≡ true
  unfolding jump_node
  jump-is m e = rw (m, e)

  pub jump-not : micro L ps v ≡ true → jump_node L ps v ≡ false
  unfolding jump_node
  jump-not m = rw m

  pub jump-macro : jump_node L ps v ≡ true → micro L ps v ≡ false
  jump-macro e = (jump-parts e).0

-- a list that something stands in has a first
first_of : (x : ℕ) (l : List ℕ) → 1 ≤ times x l → (y : ℕ) × (m : List ℕ) × (l ≡ y ∷ m)
unfolding times
first_of x [] h = absurd (omega arith)
first_of x (y ∷ l) h = (y, l, refl)

module _ (ps : List ℕ) (small : length ps ≤ top_mark) (tree : Tree ps) (L : ℕ) where
  -- an ancestor of a macro node is macro, and what has a micro ancestor is micro
  pub macro-up : (u v : ℕ) → Ancestor ps u v → v < length ps → micro L ps v ≡ false → micro L ps u ≡ false
  macro-up u v a h m = size-macro L ps u (omega (arith, macro-size L ps v m, ancestor-size ps small tree u v a h))

  pub micro-down : (u v : ℕ) → Ancestor ps u v → micro L ps u ≡ true → micro L ps v ≡ true
  micro-down u v a m = size-micro L ps v (omega (arith, micro-size L ps u m, ancestor-size ps small tree u v a (ancestor-in ps small tree u v a).1))

  -- a jump node stands at or below every macro node
  abbrev JumpBelow : ℕ → Type 0
  JumpBelow v = (j : ℕ) × (jump_node L ps j ≡ true) × Ancestor ps v j

  jump-within : (f v : ℕ) → v < length ps → length ps ≤ position ps v + f → micro L ps v ≡ false → JumpBelow v
  jump-within zero v h b m = absurd (omega (arith, position_in ps small tree v h))
  jump-within (suc f) v h b m = go (every (micro L ps) (children ps v)) refl (jump-within f)
    where
      go : (t : Bool) → every (micro L ps) (children ps v) ≡ t → ((c : ℕ) → c < length ps → length ps ≤ position ps c + f → micro L ps c ≡ false → JumpBelow c) → JumpBelow v
      go true e ih = (v, jump-is L ps v m e, ancestor-self ps small tree v h)
      go false e ih =
          let (c, k, n) = every-false (micro L ps) (children ps v) e in
          let (hc, w) = child-of ps small v c k in
          let p : parent ps c ≡ some v = parent_in ps c hc (omega arith) ∙ ap some w in
          let (j, q, a) = ih c hc (omega (arith, parent-before ps small tree c v p)) n in
          (j, q, ancestor-trans ps small tree v c j (ancestor-parent ps small tree c v p) a)

  pub jump-below : (v : ℕ) → v < length ps → micro L ps v ≡ false → JumpBelow v
  jump-below v h m = jump-within (length ps) v h (omega arith) m

  -- so the jump nodes are those that stand before a macro node, then one at or below it, and others
  jumps-split : (v : ℕ) → v < length ps → micro L ps v ≡ false
      → (j : ℕ) × (b : List ℕ) × (jump_nodes L ps ≡ keep (jump_node L ps) (take (position ps v) (order ps)) ++ (j ∷ b)) × (jump_node L ps j ≡ true) × Ancestor ps v j
  jumps-split v h m =
      let test = jump_node L ps in
      let before = take (position ps v) (order ps) in
      let behind = drop (position ps v + size ps v) (order ps) in
      let (x, e, a) = jump-below v h m in
      let (j, b, q) = first_of x (keep test (family ps v)) (omega (arith, keep-times test x (family ps v) e, ancestor-family ps small tree v x a)) in
      let (t, k) = keep-in test j (family ps v) (omega (arith, ap (times j) q, times-same j j b refl)) in (
        j,
        b ++ keep test behind,
        ap (keep test) (family-split ps small tree v h)
            ∙ keep_append test before (family ps v ++ behind)
            ∙ ap (λ l. keep test before ++ l) (keep_append test (family ps v) behind ∙ ap (λ l. l ++ keep test behind) q),
        t,
        family-ancestor ps small tree v j h k,
      )

  -- none of those before is at or below it
  not-before : (v x : ℕ) → v < length ps → 1 ≤ times x (keep (jump_node L ps) (take (position ps v) (order ps))) → has (family ps v) x ≡ false
  not-before v x h k =
      let b = position-before ps small tree x (position ps v) (keep-in (jump_node L ps) x (take (position ps v) (order ps)) k).1 in
      has-not (family ps v) x (λ t. omega (arith, b.1, (inside ps small tree v x (family-ancestor ps small tree v x h t)).0))

  -- KIND of a macro node is the number of jump nodes before its position, and the jump node of that number is at or below it
  pub macro-kind : (v : ℕ) → v < length ps → micro L ps v ≡ false → macro_kind L ps v ≡ length (keep (jump_node L ps) (take (position ps v) (order ps)))
  unfolding macro_kind
  macro-kind v h m =
      let (j, b, q, t, a) = jumps-split v h m in
      ap (index (has (family ps v))) q
      ∙ index_is (has (family ps v)) (keep (jump_node L ps) (take (position ps v) (order ps))) j b (λ x. not-before v x h) (times-has (family ps v) j (ancestor-family ps small tree v j a))

  pub macro-jump : (v : ℕ) → v < length ps → micro L ps v ≡ false
      → (macro_kind L ps v < length (jump_nodes L ps)) × ((j : ℕ) × (get_or (jump_nodes L ps) (macro_kind L ps v) 0 ≡ j) × (j < length ps) × (jump_node L ps j ≡ true) × Ancestor ps v j)
  macro-jump v h m =
      let before = keep (jump_node L ps) (take (position ps v) (order ps)) in
      let (j, b, q, t, a) = jumps-split v h m in
      let k = macro-kind v h m in
      (omega (arith, k, ap length q, length-append before (j ∷ b)), (j, rw (k, q) (get_or_at before j b 0 (length before) refl), (ancestor-in ps small tree v j a).1, t, a))

  -- all below a jump node are micro, so it is the only jump node of its family
  below-jump : (k j x : ℕ) → jump_node L ps j ≡ true → up ps (suc k) x ≡ some j → micro L ps x ≡ true
  unfolding up
  below-jump zero j x e r =
      let (p, q, s) = up_first ps 0 x j r in
      let (hx, hp, w) = parent-some ps x p q in
      let z : word ps x ≡ j = w ∙ (entry-some ps p j s).0 in
      every_true (micro L ps) (children ps j) (jump-parts L ps j e).1 x (omega (arith, rw z at (of-child ps small x hx)))
  below-jump (suc k) j x e r =
      let (p, q, s) = up_first ps (suc k) x j r in
      micro-down p x (ancestor-parent ps small tree x p q) (below-jump k j p e s)

  one-jump : (j : ℕ) → j < length ps → jump_node L ps j ≡ true → keep (jump_node L ps) (family ps j) ≡ j ∷ []
  one-jump j h e =
      keep-yes (jump_node L ps) j (preorder (under ps j)) e
      ∙ ap (◌∷◌ j) (keep-none (jump_node L ps) (preorder (under ps j)) (λ x k. let (i, r) = under_up ps small tree j x h k in jump-not L ps x (below-jump i j x e r)))

  -- so each jump node has L + 1 entries of its own
  abbrev Few : ℕ → Type 0
  Few i = suc L * length (keep (jump_node L ps) (drop i (order ps))) ≤ length ps - i

  few_past : (i : ℕ) → length ps ≤ i → Few i
  unfolding keep
  few_past i h = rw (drop_of_length-le (order ps) {i = i} (omega (arith, order-length ps small tree))) (omega (arith, mul-zero (suc L)))

  few-at : (i : ℕ) → i < length ps → ((k : ℕ) → i < k → Few k) → Few i
  few-at i h ih = go (jump_node L ps x) refl
    where
      x : ℕ
      x = get_or (order ps) i 0

      hx : x < length ps
      hx = order-in ps small tree i h

      at_x : position ps x ≡ i
      at_x = position-of ps small tree i h

      go : (t : Bool) → jump_node L ps x ≡ t → Few i
      go false e =
          rw (drop-cons (order ps) i 0 (omega (arith, order-length ps small tree)), keep-no (jump_node L ps) x (drop (suc i) (order ps)) e)
          (omega (arith, ih (suc i) (omega arith)))
      go true e =
          let rest = keep (jump_node L ps) (drop (i + size ps x) (order ps)) in
          let q : keep (jump_node L ps) (drop i (order ps)) ≡ x ∷ rest =
          ap (keep (jump_node L ps)) (rw at_x at (family-drop ps small tree x hx)) ∙ keep_append (jump_node L ps) (family ps x) (drop (i + size ps x) (order ps)) ∙ ap (λ l. l ++ rest) (one-jump x hx e) in
          let s : L < size ps x = macro-size L ps x (jump-macro L ps x e) in
          let r : i + size ps x ≤ length ps = rw at_x at (family-room ps small tree x hx) in
          rw q (omega (arith, mul-suc (suc L) (length rest), ih (i + size ps x) (omega arith)))

  few : (f i : ℕ) → length ps ≤ i + f → Few i
  few zero i b = few_past i (omega arith)
  few (suc f) i b = go (dec_lt i (length ps)) (λ k l. few f k (omega arith))
    where
      go : Dec (i < length ps) → ((k : ℕ) → i < k → Few k) → Few i
      go (yes h) ih = few-at i h ih
      go (no h) ih = few_past i (omega arith)

  pub jumps-few : suc L * length (jump_nodes L ps) ≤ length ps
  jumps-few = omega (arith, few (length ps) 0 (omega arith))

  pub jumps-room : length (jump_nodes L ps) ≤ length ps / (L + 1)
  jumps-room =
      let p : 0 < L + 1 = omega arith in
      (le-div_iff_mul-le p).1 (rw (add-one, mul_comm) jumps-few)
