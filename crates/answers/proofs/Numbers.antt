-- Which numbers each question can give, on a table of any contents. Assumes nothing.
use mathlib.Core.Path.{◌≡◌, refl}
use mathlib.Core.List.{List, [], ◌∷◌}
use mathlib.Core.Bool.{Bool, true, false, cond}
use mathlib.Core.Option.{Option, none, some, Option-elim}
use Prim.Native.Nat.{ℕ, ◌≤◌, min}
use native.Mathlib.Omega.{arith}
use lib.Dec.{leb, ltb, eqb}
use borrow.Author.Tests.{le-ltb}
use Rattle.base.specs.Lists.{some?, has}
use Rattle.base.specs.Numbers.{Outcome}
use Rattle.base.specs.Numbers.{broken as broken_table}
use Rattle.base.proofs.Lists.{clash}
use Rattle.answers.specs.Reading.{Reading, done, read, if_le, if_lt, if_eq, if_none, and_then, word_at, run}
use Rattle.answers.specs.Steps.{after_class, after_count, opened, after_ladpos, after_ancestor, read_ancestor, after_jump_depth, from_jump, after_parent_kind, after_parent, after_position, in_group, after_shape, from_group, after_kind, ancestor_at, after_depth, from_entry, level, climbing, from_rated, rating, compared, related, ancestry, inside, deeper, strictly, branch}

-- every end of a program has a number of the list
unfoldable pub Ends : List ℕ → Reading → Type 0
Ends ns (done o) = has ns o.number ≡ true
Ends ns (read cell k) = (w : ℕ) → Ends ns (k w)

pub ends-run : (ns t : List ℕ) (p : Reading) → Ends ns p → has ns (run t p).number ≡ true
unfolding Ends run
ends-run ns t (done o) h = h
ends-run ns t (read cell k) h = ends-run ns t (k (word_at t cell)) (h (word_at t cell))

module _ (ns : List ℕ) where
  pub ends-done : (o : Outcome) → has ns o.number ≡ true → Ends ns (done o)
  unfolding Ends
  ends-done o h = h

  pub ends_read : (cell : ℕ) (k : ℕ → Reading) → ((w : ℕ) → Ends ns (k w)) → Ends ns (read cell k)
  unfolding Ends
  ends_read cell k h = h

  ends-cond : (t : Bool) (p q : Reading) → Ends ns p → Ends ns q → Ends ns (cond t p q)
  ends-cond true p q h i = h
  ends-cond false p q h i = i

  module _ (x y : ℕ) (p q : Reading) (h : Ends ns p) (i : Ends ns q) where
    pub ends-le : Ends ns (if_le x y p q)
    unfolding if_le
    ends-le = ends-cond (leb x y) p q h i

    pub ends-lt : Ends ns (if_lt x y p q)
    unfolding if_lt
    ends-lt = ends-cond (ltb x y) p q h i

    pub ends-eq : Ends ns (if_eq x y p q)
    unfolding if_eq
    ends-eq = ends-cond (eqb x y) p q h i

  -- a test that fails has no end of its own
  ends-not-lt : (x y : ℕ) (p q : Reading) → y ≤ x → Ends ns q → Ends ns (if_lt x y p q)
  unfolding if_lt
  ends-not-lt x y p q h i = rw (le-ltb x y h) i

  pub ends-none : (o : Option ℕ) (p : Reading) (q : ℕ → Reading) → Ends ns p → ((e : ℕ) → Ends ns (q e)) → Ends ns (if_none o p q)
  unfolding if_none Option-elim
  ends-none none p q h i = h
  ends-none (some e) p q h i = i e

pub ruleset numbers = (ends-done, ends_read, ends-le, ends-lt, ends-eq, ends-none)

-- past its tests the lookup gives 0 or 9
module _ (ns : List ℕ) (zero : has ns 0 ≡ true) (nine : has ns 9 ≡ true) where
  ancestor-ends : (n v d depth : ℕ) → Ends ns (ancestor_at n v d depth)
  unfolding ancestor_at after_kind from_group after_shape in_group after_position after_parent after_parent_kind from_jump after_jump_depth read_ancestor after_ancestor after_ladpos after_class Ends
  ancestor-ends n v d depth = search numbers depth 40

abbrev pub lookup_numbers : List ℕ
lookup_numbers = 0 ∷ 7 ∷ 8 ∷ 9 ∷ []

-- no rating is too deep
abbrev pub rating_numbers : List ℕ
rating_numbers = 0 ∷ 7 ∷ 9 ∷ []

smaller-ends : (n v d depth : ℕ) → Ends rating_numbers (after_depth n false v (min d depth) depth)
unfolding after_depth some?
smaller-ends n v d depth =
    ends-le rating_numbers n depth _ _ (ends-done rating_numbers _ refl)
    (ends-not-lt rating_numbers depth (min d depth) _ _ (omega arith) (ancestor-ends rating_numbers refl refl n v (min d depth) depth))

module _ (len : ℕ) where
  looked : (climbs : Bool) (v x : ℕ) → Ends lookup_numbers (opened len (from_entry climbs v x))
  unfolding opened after_count from_entry after_depth Ends some?
  looked climbs v x = let rest = ancestor-ends lookup_numbers refl refl in search (numbers, rest) depth 40

  pub level-numbers : (v d : ℕ) → Ends lookup_numbers (level len v d)
  unfolding level
  level-numbers v d = looked false v d

  pub climbing-numbers : (v k : ℕ) → Ends lookup_numbers (climbing len v k)
  unfolding climbing
  climbing-numbers v k = looked true v k

  pub rating-numbers : (v d : ℕ) → Ends rating_numbers (rating len v d)
  unfolding rating opened after_count from_rated Ends some?
  rating-numbers v d = search (numbers, smaller-ends) depth 40

  pub ancestry-numbers : (u v : ℕ) → Ends (0 ∷ 7 ∷ 9 ∷ []) (ancestry len u v)
  unfolding ancestry opened after_count related compared Ends some?
  ancestry-numbers u v = search numbers depth 40

-- what is made of a program's outcome has its own numbers
ends-then : (ns ms : List ℕ) (p : Reading) (f : Outcome → Reading) → Ends ns p → ((o : Outcome) → has ns o.number ≡ true → Ends ms (f o)) → Ends ms (and_then p f)
unfolding and_then Ends
ends-then ns ms (done o) f h g = g o h
ends-then ns ms (read cell k) f h g = λ w. ends-then ns ms (k w) f (h w) g

abbrev pub branch_numbers : List ℕ
branch_numbers = 0 ∷ 7 ∷ 9 ∷ 10 ∷ []

inside-ends : (o : Outcome) → has lookup_numbers o.number ≡ true → Ends branch_numbers (inside o)
unfolding inside if_eq Ends some?
inside-ends o h = go (eqb o.number 0) (eqb o.number 7) (eqb o.number 8) (eqb o.number 9) refl refl refl h
  where
    go : (a b c d : Bool) → eqb o.number 0 ≡ a → eqb o.number 7 ≡ b → eqb o.number 9 ≡ d → cond a true (cond b true (cond c true (cond d true false))) ≡ true
        → Ends branch_numbers (cond c (done broken_table) (done o))
    go a b true d p q r h = refl
    go true b false d p q r h = rw p
    go false true false d p q r h = rw (p, q)
    go false false false true p q r h = rw (p, q, r)
    go false false false false p q r h = clash h

pub branch-numbers : (len u v : ℕ) → Ends branch_numbers (branch len u v)
unfolding branch opened after_count related compared strictly deeper Ends some?
branch-numbers len u v =
    let inner : (d : ℕ) → Ends branch_numbers (and_then (level len v d) inside) =
    λ d. ends-then lookup_numbers branch_numbers (level len v d) inside (level-numbers len v d) inside-ends in
    search (numbers, inner) depth 40
