-- How many cells each question reads at most, on a table of any contents. Assumes nothing.
use mathlib.Core.Bool.{Bool, true, false, cond}
use mathlib.Core.Option.{Option, none, some, Option-elim}
use Prim.Native.Nat.{ℕ, zero, suc}
use lib.Dec.{leb, ltb, eqb}
use Rattle.base.specs.Numbers.{Outcome}
use Rattle.answers.specs.Reading.{Reading, done, read, if_le, if_lt, if_eq, if_none, and_then, Within}
use Rattle.answers.specs.Steps.{after_class, after_count, opened, after_ladpos, after_ancestor, read_ancestor, after_jump_depth, from_jump, after_parent_kind, after_parent, after_position, in_group, after_shape, from_group, after_kind, ancestor_at, after_depth, from_entry, level, climbing, from_rated, rating, compared, related, ancestry, inside, deeper, strictly, branch}

-- the bound of a program from those of its parts
pub within-done : (b : ℕ) (o : Outcome) → Within b (done o)
unfolding Within
within-done b o = tt

pub within-read : (b cell : ℕ) (k : ℕ → Reading) → ((w : ℕ) → Within b (k w)) → Within (suc b) (read cell k)
unfolding Within
within-read b cell k h = h

within-cond : (b : ℕ) (t : Bool) (p q : Reading) → Within b p → Within b q → Within b (cond t p q)
within-cond b true p q h i = h
within-cond b false p q h i = i

module _ (b x y : ℕ) (p q : Reading) (h : Within b p) (i : Within b q) where
  pub within-le : Within b (if_le x y p q)
  unfolding if_le
  within-le = within-cond b (leb x y) p q h i

  pub within-lt : Within b (if_lt x y p q)
  unfolding if_lt
  within-lt = within-cond b (ltb x y) p q h i

  pub within-eq : Within b (if_eq x y p q)
  unfolding if_eq
  within-eq = within-cond b (eqb x y) p q h i

pub within_none : (b : ℕ) (o : Option ℕ) (p : Reading) (q : ℕ → Reading) → Within b p → ((e : ℕ) → Within b (q e)) → Within b (if_none o p q)
unfolding if_none Option-elim
within_none b none p q h i = h
within_none b (some e) p q h i = i e

-- a program of at most a reads, and then one of none
pub within-then : (b : ℕ) (p : Reading) (f : Outcome → Reading) → Within b p → ((o : Outcome) → Within 0 (f o)) → Within b (and_then p f)
unfolding and_then Within
within-then b (done o) f h i = grown b (f o) (i o)
  where
    grown : (b : ℕ) (p : Reading) → Within 0 p → Within b p
    grown b (done o) h = tt
    grown b (read cell k) h = absurd h
within-then zero (read cell k) f h i = absurd h
within-then (suc b) (read cell k) f h i = λ w. within-then b (k w) f (h w) i

pub ruleset bounds = (within-done, within-read, within-le, within-lt, within-eq, within_none, within-then)

-- four cells for step 4
pub jump-within : (n d jump : ℕ) → Within 4 (from_jump n d jump)
unfolding from_jump after_jump_depth read_ancestor after_ancestor after_ladpos after_class Within
jump-within n d jump = search bounds depth 40

-- eight behind DEPTH
depth-within : (n : ℕ) (climbs : Bool) (v x depth : ℕ) → Within 8 (after_depth n climbs v x depth)
unfolding after_depth ancestor_at after_kind from_group after_shape in_group after_position after_parent after_parent_kind from_jump after_jump_depth read_ancestor after_ancestor after_ladpos after_class Within
depth-within n climbs v x depth = search bounds depth 40

-- ten cells for the level lookup, a climb and a rating, four for ancestry, fifteen for branch
module _ (len : ℕ) where
  pub look-within : (climbs : Bool) (v x : ℕ) → Within 10 (opened len (from_entry climbs v x))
  unfolding opened after_count from_entry Within
  look-within climbs v x = search (bounds, depth-within) depth 40

  pub level-within : (v d : ℕ) → Within 10 (level len v d)
  unfolding level
  level-within v d = look-within false v d

  pub climbing-within : (v k : ℕ) → Within 10 (climbing len v k)
  unfolding climbing
  climbing-within v k = look-within true v k

  pub rating-within : (v d : ℕ) → Within 10 (rating len v d)
  unfolding rating opened after_count from_rated Within
  rating-within v d = search (bounds, depth-within) depth 40

  pub ancestry-within : (u v : ℕ) → Within 4 (ancestry len u v)
  unfolding ancestry opened after_count related compared Within
  ancestry-within u v = search bounds depth 40

  pub branch-within : (u v : ℕ) → Within 15 (branch len u v)
  unfolding branch opened after_count related compared strictly deeper inside Within
  branch-within u v = search (bounds, level-within) depth 40
