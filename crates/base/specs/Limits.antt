-- The measures of a prepared table. A change of the group limit changes this module with its constants in `src/limits.rt`, and in `shapes` the cells of the shape
-- table, how they are packed and the counts by which a shape is numbered. Assumes nothing.
use Rattle.std.specs.Prelude.{List, ℕ, ◌+◌, ◌-◌, ◌*◌, ◌/◌, ◌≤◌, length}

-- the most entries of a parent list
abbrev pub most_entries : ℕ
most_entries = 1048576

-- the top mark: the word of the top entry, which is the root in 003
abbrev pub top_mark : ℕ
top_mark = 4294967295

-- the most entries of a group: the size up to which an entry is micro
abbrev pub group_limit : ℕ
group_limit = 7

-- the shapes of up to `group_limit` entries
abbrev pub shape_count : ℕ
shape_count = 197

-- what cell 0 holds beside the number of entries; an older table's cell 0 has the number alone
abbrev pub header_mark : ℕ
header_mark = 1073741824

-- cell 0 for n entries, and the number of entries that a cell 0 stands for: 0 where it is below the mark
abbrev pub header_of : ℕ → ℕ
header_of n = n + header_mark

abbrev pub entries_of : ℕ → ℕ
entries_of word = word - header_mark

-- the records that JUMPS has room for, and the words of one
abbrev pub jump_room : ℕ → ℕ
jump_room n = n / (group_limit + 1)

abbrev pub record_words : ℕ
record_words = 21

-- W: the words of a prepared table of n entries
abbrev pub table_words : ℕ → ℕ
table_words n = 4 + 11 * n + record_words * jump_room n

-- a table has room for the sections of n entries
pub record Sized (t : List ℕ) (n : ℕ) : Type 0 where
  pub few : n ≤ most_entries
  pub room : table_words n ≤ length t

-- the words of working space that preparing n entries takes
abbrev pub space_words : ℕ → ℕ
space_words n = 6 * n

-- KIND of a micro entry is at least this, and a group's number counts so much of it
abbrev pub micro_mark : ℕ
micro_mark = 2147483648

abbrev pub local_span : ℕ
local_span = 8

-- where the sections of n entries start
abbrev pub depth_start : ℕ → ℕ
depth_start n = 4

abbrev pub kind_start : ℕ → ℕ
kind_start n = 4 + n

abbrev pub ladpos_start : ℕ → ℕ
ladpos_start n = 4 + 2 * n

abbrev pub order_start : ℕ → ℕ
order_start n = 4 + 3 * n

abbrev pub pre_start : ℕ → ℕ
pre_start n = 4 + 4 * n

abbrev pub size_start : ℕ → ℕ
size_start n = 4 + 5 * n

abbrev pub ladders_start : ℕ → ℕ
ladders_start n = 4 + 6 * n

abbrev pub groups_start : ℕ → ℕ
groups_start n = 4 + 8 * n

abbrev pub jumps_start : ℕ → ℕ
jumps_start n = 4 + 11 * n

-- their cells: of entry v, at position or index i, of group g, of jump record r
abbrev pub depth_cell : ℕ → ℕ → ℕ
depth_cell n v = depth_start n + v

abbrev pub kind_cell : ℕ → ℕ → ℕ
kind_cell n v = kind_start n + v

abbrev pub ladpos_cell : ℕ → ℕ → ℕ
ladpos_cell n v = ladpos_start n + v

abbrev pub order_cell : ℕ → ℕ → ℕ
order_cell n i = order_start n + i

abbrev pub pre_cell : ℕ → ℕ → ℕ
pre_cell n v = pre_start n + v

abbrev pub size_cell : ℕ → ℕ → ℕ
size_cell n v = size_start n + v

abbrev pub ladder_cell : ℕ → ℕ → ℕ
ladder_cell n i = ladders_start n + i

-- a group's position, shape and parent
abbrev pub position_cell : ℕ → ℕ → ℕ
position_cell n g = groups_start n + 3 * g

abbrev pub shape_cell : ℕ → ℕ → ℕ
shape_cell n g = groups_start n + 3 * g + 1

abbrev pub parent_cell : ℕ → ℕ → ℕ
parent_cell n g = groups_start n + 3 * g + 2

-- a jump entry's depth, and the ancestor 2^e above it
abbrev pub jump_cell : ℕ → ℕ → ℕ
jump_cell n r = jumps_start n + record_words * r

abbrev pub ancestor_cell : ℕ → ℕ → ℕ → ℕ
ancestor_cell n r e = jumps_start n + record_words * r + 1 + e
