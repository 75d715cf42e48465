-- What the questions answer where the words that they read are known: a law for each way through the steps. Assumes nothing.
use mathlib.Core.Path.{◌≡◌}
use mathlib.Core.List.{List}
use mathlib.Core.Option.{some}
use Prim.Native.Nat.{ℕ, ◌+◌, ◌-◌, ◌*◌, ◌^◌, ◌≤◌, ◌<◌}
use Rattle.base.specs.Numbers.{accepted}
use Rattle.base.specs.Limits.{group_limit, shape_count, jump_room, micro_mark, kind_cell, ladpos_cell, order_cell, ladder_cell, position_cell, shape_cell, parent_cell, jump_cell, ancestor_cell}
use Rattle.base.specs.Powers.{exponent}
use Rattle.shapes.specs.Climbs.{reached, local_depth, mark}
use Rattle.answers.specs.Reading.{run, word_at}
use Rattle.answers.specs.Steps.{after_class, after_ladpos, after_ancestor, read_ancestor, after_jump_depth, from_jump, after_parent_kind, after_parent, after_position, in_group, after_shape, from_group}
use Rattle.answers.proofs.Runs.{runs}

module _ (t : List ℕ) (n d u : ℕ) where
  -- step 4: the jump node's depth, its ancestor 2^e above, and that one's ladder
  pub jump_known : (jump top e w index : ℕ) → jump < jump_room n
      → word_at t (jump_cell n jump) ≡ top → top < n → d ≤ top → exponent (top - d) ≡ some e
      → word_at t (ancestor_cell n jump e) ≡ w → w < n
      → word_at t (ladpos_cell n w) ≡ index → top - d - 2 ^ e ≤ index → index - (top - d - 2 ^ e) < 2 * n
      → word_at t (ladder_cell n (index - (top - d - 2 ^ e))) ≡ u → u < n
      → run t (from_jump n d jump) ≡ accepted u
  unfolding from_jump after_jump_depth read_ancestor after_ancestor after_ladpos after_class
  jump_known jump top e w index h0 h1 h2 h3 h4 h5 h6 h7 h8 h9 h10 h11 = search runs depth 30

  -- step 3: the group's shape, and l a local number of it
  module _ (depth group local shape l : ℕ) (h0 : group < n) (h1 : word_at t (shape_cell n group) ≡ shape) (h2 : shape < shape_count) (h3 : reached group_limit shape local 0 ≡ some l) where
    -- the answer is in the group
    pub group-known : (position : ℕ) → depth - d ≤ local_depth group_limit shape local
        → word_at t (position_cell n group) ≡ position → position + mark (reached group_limit shape local (depth - d)) < n
        → word_at t (order_cell n (position + mark (reached group_limit shape local (depth - d)))) ≡ u → u < n
        → run t (from_group n d depth group local) ≡ accepted u
    unfolding from_group after_shape in_group after_position after_class
    group-known position h4 h5 h6 h7 h8 = search runs depth 30

    -- the answer is the group's parent
    pub parent-known : local_depth group_limit shape local < depth - d → word_at t (parent_cell n group) ≡ u → u < n
        → depth - local_depth group_limit shape local - 1 ≡ d
        → run t (from_group n d depth group local) ≡ accepted u
    unfolding from_group after_shape in_group after_parent
    parent-known h4 h5 h6 h7 = search runs depth 30

    -- the answer is above the group's parent p
    pub above-known : (p kind : ℕ) → local_depth group_limit shape local < depth - d → word_at t (parent_cell n group) ≡ p → p < n
        → (depth - local_depth group_limit shape local - 1 ≡ d → ⊥)
        → word_at t (kind_cell n p) ≡ kind → kind < micro_mark
        → run t (from_jump n d kind) ≡ accepted u
        → run t (from_group n d depth group local) ≡ accepted u
    unfolding from_group after_shape in_group after_parent after_parent_kind
    above-known p kind h4 h5 h6 h7 h8 h9 h10 = search runs depth 30
