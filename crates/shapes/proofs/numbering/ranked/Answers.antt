-- `shapes::numbering::ranked` meets its contract: what is counted and the rank of what is left make the number. Assumes nothing.
use mathlib.Core.Path.{◌≡◌, refl, sym, ap, ◌∙◌}
use mathlib.Core.List.{List}
use Prim.Native.Nat.{ℕ, ◌+◌, ◌-◌, ◌≤◌, ◌<◌}
use native.Mathlib.Omega.{arith}
use lib.ListN.{length, get_or, take, drop, length-drop}
use Rattle.std.proofs.lemmas.List.{take_rest}
use Rattle.std.proofs.lemmas.Grind.{get_or_after_one}
use Rattle.base.specs.Limits.{group_limit, shape_count}
use Rattle.base.specs.Lists.{below}
use Rattle.base.proofs.Lists.{below_at}
use Rattle.shapes.specs.Walks.{walks}
use Rattle.shapes.specs.Packed.{byte}
use Rattle.shapes.specs.Numbered.{Numbered}
use Rattle.shapes.proofs.Rank.{ways}
use Rattle.shapes.proofs.RankTurns.{fall, Ranked, small, finish, group-is, due, stepped}
use Rattle.shapes.proofs.numbering.ranked.Goals as goal

-- what one turn counts: a and b are the ways from the last entry, and from the parent of this
record Turn (group : List ℕ) (sum at i a b : ℕ) : Type 0 where
  fewer : b ≤ a
  next : Ranked group_limit group (sum + (a - b)) (fall group i) (i + 1)
  fits : sum + (a - b) < shape_count

-- what follows from the invariant: a turn; at a depth that no group has next; and at the end
module _ {group : List ℕ} {sum at i : ℕ} (r : Ranked group_limit group sum at i) where
  turn : (word : ℕ) {a b : ℕ} → i < length group → get_or group 0 0 < get_or group i 0 → fall group i ≤ at + 1
      → below (group_limit - (length group - i)) (byte word) ≡ below (group_limit - (length group - i)) (λ c. length (walks (length group - i) c))
      → a ≡ byte word at → b ≡ byte word (fall group i - 1) → Turn group sum at i a b
  turn word h low high e p q =
      let l : at < i = r.low in
      let k : length group ≤ group_limit = r.few in
      let m = group_limit - (length group - i) in
      let way : (c : ℕ) → c < m → byte word c ≡ ways (length group - i) c =
      λ c b. sym (below_at m (byte word) 0 c b) ∙ ap (λ row. get_or row c 0) e ∙ below_at m (ways (length group - i)) 0 c b in
      let t = stepped group_limit group sum at i r h (fall group i) _ _ refl (omega arith) high (p ∙ way at (omega arith)) (q ∙ way (fall group i - 1) (omega arith)) in
      record { fewer = t.0; next = t.1; fits = small group_limit group _ _ _ t.1 }

  refused : i < length group → (get_or group 0 0 < get_or group i 0 → fall group i ≤ at + 1 → ⊥) → Numbered group shape_count
  refused h never = record { is = λ f d e. let k = due group_limit group sum at i r h f d e in absurd (never k.0 k.1); small = omega arith; none = λ n. refl }

  done : length group ≤ i → Numbered group sum
  done h = record {
    is = finish group_limit group sum at i r h;
    small = omega (arith, small group_limit group sum at i r);
    none = λ n. let t = group-is group_limit group sum at i r h in absurd (n t.0 _ t.1);
  }

-- the entries below the root, as the loop goes over them
abbrev below_root : List ℕ → List ℕ
below_root group = take (length group - 1) (drop 1 group)

module _ {group : List ℕ} {sum at i : ℕ} (r : Ranked group_limit group sum at (i + 1)) where
  module _ (h : i < length (below_root group)) where
    inside : i + 1 < length group
    inside = omega (arith, ap length (take_rest group 1), length-drop 1 group)

    entry : get_or (below_root group) i 0 ≡ get_or group (i + 1) 0
    entry = let k : 1 + i ≡ i + 1 = omega arith in ap (λ l. get_or l i 0) (take_rest group 1) ∙ get_or_after_one group i 0 ∙ ap (λ j. get_or group j 0) k

    refused_there : (get_or group 0 0 < get_or (below_root group) i 0 → get_or (below_root group) i 0 - get_or group 0 0 ≤ at + 1 → ⊥) → Numbered group shape_count
    refused_there never = refused r inside (rw entry at never)

    turned : (word : ℕ) {a b : ℕ} → get_or group 0 0 < get_or (below_root group) i 0 → get_or (below_root group) i 0 - get_or group 0 0 ≤ at + 1
        → below (group_limit - (length (below_root group) - i)) (byte word) ≡ below (group_limit - (length (below_root group) - i)) (λ c. length (walks (length (below_root group) - i) c))
        → a ≡ byte word at → b ≡ byte word (get_or (below_root group) i 0 - get_or group 0 0 - 1) → Turn group sum at (i + 1) a b
    turned word low high e p q =
        let left : length (below_root group) - i ≡ length group - (i + 1) = omega (arith, ap length (take_rest group 1), length-drop 1 group) in
        turn r word inside (rw entry at low) (rw entry at high) (rw left at e) p (rw entry at q)

  ended : length (below_root group) ≤ i → Numbered group sum
  ended h = done r (omega (arith, ap length (take_rest group 1), length-drop 1 group))

pub returns-then-depth-root : goal.returns-then-depth-root
returns-then-depth-root c = refused_there c.loop-i.invariant c.loop-i-test.true (λ low high. omega arith)

pub returns-then-at-below : goal.returns-then-at-below
returns-then-at-below c = refused_there c.loop-i.invariant c.loop-i-test.true (λ low high. omega arith)

pub overflow_sub-before : goal.overflow_sub-before
overflow_sub-before c =
    (turned c.loop-i.invariant c.loop-i-test.true c.ways-ways.result c.if-depth-root.false c.if-at-below.false c.ways-ways.ensures c.byte.ensures c.byte-in-loop-i.ensures).fewer

pub overflow_add-sum : goal.overflow_add-sum
overflow_add-sum c =
    omega (arith, (turned c.loop-i.invariant c.loop-i-test.true c.ways-ways.result c.if-depth-root.false c.if-at-below.false c.ways-ways.ensures c.byte.ensures c.byte-in-loop-i.ensures).fits)

pub loop-i-preserved : goal.loop-i-preserved
loop-i-preserved c =
    rw (entry c.loop-i.invariant c.loop-i-test.true)
    (turned c.loop-i.invariant c.loop-i-test.true c.ways-ways.result c.if-depth-root.false c.if-at-below.false c.ways-ways.ensures c.byte.ensures c.byte-in-loop-i.ensures).next

pub returns : goal.returns
returns c = ended c.loop-i.invariant c.loop-i-test.false
