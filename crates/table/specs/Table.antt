-- "The table": every word of the prepared table of a parent list. Assumes nothing.
use Rattle.std.specs.Prelude.{ℕ, ◌*◌, length}
use mathlib.Core.List.{List, [], ◌∷◌, ◌++◌, flatten, flat_map}
use Rattle.base.specs.Lists.{below, padded}
use Rattle.base.specs.Limits.{group_limit, header_of, jump_room, record_words}
use Rattle.tree.specs.Parents.{depth}
use Rattle.tree.specs.Forest.{size, order, position}
use Rattle.table.specs.Ladders.{path_tops, ladders, lad_pos}
use Rattle.table.specs.Groups.{group_roots, group_words, jump_nodes, jump_record, kind}

-- cells 0 to 3: n, and the numbers of jump entries, of groups and of long paths
unfoldable pub header : List ℕ → List ℕ
header ps = header_of (length ps) ∷ length (jump_nodes group_limit ps) ∷ length (group_roots group_limit ps) ∷ length (path_tops ps) ∷ []

-- the sections of n cells: a word for each entry, but ORDER has one for each position
unfoldable pub entry_sections : List ℕ → List ℕ
entry_sections ps =
    let n = length ps in
    below n (depth ps)
    ++ (below n (kind group_limit ps)
    ++ (below n (lad_pos ps)
    ++ (order ps
    ++ (below n (position ps)
    ++ below n (size ps)))))

-- the sections that are filled from their start, and zeros behind: LADDERS, GROUPS, JUMPS
abbrev pub ladder_cells : List ℕ → List ℕ
ladder_cells ps = padded (2 * length ps) (flatten (ladders ps))

abbrev pub group_cells : List ℕ → List ℕ
group_cells ps = padded (3 * length ps) (flat_map (group_words group_limit ps) (group_roots group_limit ps))

abbrev pub jump_cells : List ℕ → List ℕ
jump_cells ps = padded (record_words * jump_room (length ps)) (flat_map (jump_record ps) (jump_nodes group_limit ps))

unfoldable pub laid_sections : List ℕ → List ℕ
laid_sections ps = ladder_cells ps ++ (group_cells ps ++ jump_cells ps)

-- the prepared table: DEPTH, KIND, LADPOS, ORDER, PRE, SIZE, LADDERS, GROUPS, JUMPS after the header
unfoldable pub table_of : List ℕ → List ℕ
table_of ps = header ps ++ (entry_sections ps ++ laid_sections ps)
