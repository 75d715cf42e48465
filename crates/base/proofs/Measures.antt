-- Laws of the measures of a table. Assumes nothing.
use Prim.Native.Nat.{ℕ, ◌+◌, ◌*◌, ◌≤◌}
use native.Mathlib.Nat.{le-div_iff_mul-le}
use native.Mathlib.Omega.{arith}
use Rattle.base.specs.Limits.{group_limit, jump_room, table_words}

-- a table for more entries has no fewer words
pub words-grow : (n m : ℕ) → n ≤ m → table_words n ≤ table_words m
words-grow n m h =
    let room : jump_room n * (group_limit + 1) ≤ m = omega arith in
    let few : jump_room n ≤ jump_room m = (le-div_iff_mul-le {k = group_limit + 1} (omega arith)).1 room in
    omega arith
