-- The five questions as reading programs on a table of any contents, `len` words long. Each word is tested as it is read, before any other use.
-- This is the only transcription of the steps. Assumes nothing.
use Rattle.std.specs.Prelude.{Bool, true, false, ℕ, ◌+◌, ◌-◌, ◌*◌, ◌/◌, ◌%◌, ◌^◌, min}
use Rattle.base.specs.Numbers.{Outcome, accepted, unknown, too_deep, not_above}
use Rattle.base.specs.Numbers.{broken as broken_table}
use Rattle.base.specs.Limits.{most_entries, group_limit, shape_count, entries_of, jump_room, table_words, micro_mark, local_span, depth_cell, kind_cell, ladpos_cell, order_cell, pre_cell, size_cell, ladder_cell, position_cell, shape_cell, parent_cell, jump_cell, ancestor_cell}
use Rattle.base.specs.Powers.{exponent}
use Rattle.shapes.specs.Climbs.{reached, local_depth, mark}
use Rattle.answers.specs.Reading.{Reading, done, read, if_le, if_lt, if_eq, if_none, and_then}

abbrev pub broken : Reading
broken = done broken_table

-- a word that is to be the answer is an entry
unfoldable pub after_class : ℕ → ℕ → Reading
after_class n w = if_le n w broken (done (accepted w))

-- step 1: a table under 4 words, or with cell 0 zero or over 1,048,576, or shorter than W, is broken. Then `next`, with the number of entries
unfoldable pub after_count : ℕ → ℕ → (ℕ → Reading) → Reading
after_count len n next = if_eq n 0 broken (if_lt most_entries n broken (if_lt len (table_words n) broken (next n)))

unfoldable pub opened : ℕ → (ℕ → Reading) → Reading
opened len next = if_lt len 4 broken (read 0 (λ word. after_count len (entries_of word) next))

-- step 4, last read: LADDERS at w's index less the climbs still missing
unfoldable pub after_ladpos : ℕ → ℕ → ℕ → Reading
after_ladpos n missing index =
    if_lt index missing broken
    (if_le (2 * n) (index - missing) broken
    (read (ladder_cell n (index - missing)) (after_class n)))

-- step 4: LADPOS of w
unfoldable pub after_ancestor : ℕ → ℕ → ℕ → Reading
after_ancestor n missing w = if_le n w broken (read (ladpos_cell n w) (after_ladpos n missing))

-- step 4: the ancestor for e, called w, where the answer is x above the jump entry
unfoldable pub read_ancestor : ℕ → ℕ → ℕ → ℕ → Reading
read_ancestor n jump x e = read (ancestor_cell n jump e) (after_ancestor n (x - 2 ^ e))

-- step 4: the jump entry's depth
unfoldable pub after_jump_depth : ℕ → ℕ → ℕ → ℕ → Reading
after_jump_depth n d jump depth =
    if_le n depth broken
    (if_lt depth d broken
    (if_none (exponent (depth - d)) broken (read_ancestor n jump (depth - d))))

unfoldable pub from_jump : ℕ → ℕ → ℕ → Reading
from_jump n d jump = if_le (jump_room n) jump broken (read (jump_cell n jump) (after_jump_depth n d jump))

-- step 3: KIND of the group's parent, which is not micro
unfoldable pub after_parent_kind : ℕ → ℕ → ℕ → Reading
after_parent_kind n d kind = if_le micro_mark kind broken (from_jump n d kind)

-- step 3: the group's parent p
unfoldable pub after_parent : ℕ → ℕ → ℕ → ℕ → Reading
after_parent n d depth p = if_le n p broken (if_eq depth d (done (accepted p)) (read (kind_cell n p) (after_parent_kind n d)))

-- step 3: the group's position, then ORDER at that position plus the local number reached
unfoldable pub after_position : ℕ → ℕ → ℕ → Reading
after_position n local position = if_le n (position + local) broken (read (order_cell n (position + local)) (after_class n))

-- step 3: k is v's depth in its group
unfoldable pub in_group : ℕ → ℕ → ℕ → ℕ → ℕ → ℕ → Reading
in_group n d depth group local shape =
    let k = local_depth group_limit shape local in
    if_le (depth - d) k
    (read (position_cell n group) (after_position n (mark (reached group_limit shape local (depth - d)))))
    (read (parent_cell n group) (after_parent n d (depth - k - 1)))

-- step 3: the shape
unfoldable pub after_shape : ℕ → ℕ → ℕ → ℕ → ℕ → ℕ → Reading
after_shape n d depth group local shape =
    if_le shape_count shape broken
    (if_none (reached group_limit shape local 0) broken
    (λ l. in_group n d depth group local shape))

unfoldable pub from_group : ℕ → ℕ → ℕ → ℕ → ℕ → Reading
from_group n d depth group local = if_le n group broken (read (shape_cell n group) (after_shape n d depth group local))

-- step 3: KIND of v
unfoldable pub after_kind : ℕ → ℕ → ℕ → ℕ → Reading
after_kind n d depth kind =
    if_le micro_mark kind
    (from_group n d depth ((kind - micro_mark) / local_span) ((kind - micro_mark) % local_span))
    (from_jump n d kind)

-- step 2, after its tests: the ancestor at depth d of v, whose depth is not less
unfoldable pub ancestor_at : ℕ → ℕ → ℕ → ℕ → Reading
ancestor_at n v d depth = if_eq depth d (done (accepted v)) (read (kind_cell n v) (after_kind n d depth))

-- the depth that is wanted of an entry's `depth`, where x is asked: depth x, or that x climbs up
abbrev pub wanted : Bool → ℕ → ℕ → ℕ
wanted false x depth = x
wanted true x depth = depth - x

-- step 2: `climbs` tells whether x counts climbs. Either way an x over the depth is too deep
unfoldable pub after_depth : ℕ → Bool → ℕ → ℕ → ℕ → Reading
after_depth n climbs v x depth = if_le n depth broken (if_lt depth x (done (too_deep v)) (ancestor_at n v (wanted climbs x depth) depth))

unfoldable pub from_entry : Bool → ℕ → ℕ → ℕ → Reading
from_entry climbs v x n = if_le n v (done (unknown v)) (read (depth_cell n v) (after_depth n climbs v x))

-- the level lookup (v, d)
unfoldable pub level : ℕ → ℕ → ℕ → Reading
level len v d = opened len (from_entry false v d)

-- climbing k up from v: cells and answer of depth minus k
unfoldable pub climbing : ℕ → ℕ → ℕ → Reading
climbing len v k = opened len (from_entry true v k)

-- the rating lookup of v at rating level d (2026-04): "the lookup at the smaller depth", of d and v's own, which is read once
unfoldable pub from_rated : ℕ → ℕ → ℕ → Reading
from_rated v d n = if_le n v (done (unknown v)) (read (depth_cell n v) (λ depth. after_depth n false v (min d depth) depth))

unfoldable pub rating : ℕ → ℕ → ℕ → Reading
rating len v d = opened len (from_rated v d)

-- the reads of ancestry: PRE and SIZE of u, PRE of v. Then `above` if PRE u ≤ PRE v < PRE u + SIZE u, else `apart`
unfoldable pub compared : Reading → Reading → ℕ → ℕ → ℕ → Reading
compared above apart pre_u size_u pre_v = if_le pre_u pre_v (if_lt pre_v (pre_u + size_u) above apart) apart

unfoldable pub related : ℕ → ℕ → (ℕ → Reading) → Reading → ℕ → Reading
related u v above apart n =
    if_le n u (done (unknown u))
    (if_le n v (done (unknown v))
    (read (pre_cell n u) (λ pre_u.
    read (size_cell n u) (λ size_u.
    read (pre_cell n v) (compared (above n) apart pre_u size_u)))))

-- ancestry: whether u is at or above v
unfoldable pub ancestry : ℕ → ℕ → ℕ → Reading
ancestry len u v = opened len (related u v (λ n. done (accepted 1)) (done (accepted 0)))

-- an 8 of the level lookup inside branch is given as 9
unfoldable pub inside : Outcome → Reading
inside o = if_eq o.number 8 broken (done o)

-- branch: DEPTH of u, then the level lookup of v one deeper
unfoldable pub deeper : ℕ → ℕ → ℕ → ℕ → Reading
deeper len v n depth = if_le n depth broken (and_then (level len v (depth + 1)) inside)

unfoldable pub strictly : ℕ → ℕ → ℕ → ℕ → Reading
strictly len u v n = if_eq u v (done (not_above u)) (read (depth_cell n u) (deeper len v n))

-- branch: the child of u on the way to v
unfoldable pub branch : ℕ → ℕ → ℕ → Reading
branch len u v = opened len (related u v (strictly len u v) (done (not_above u)))
