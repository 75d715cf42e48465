-- The marked entries M1 to M12 and the printed values of W: one table of cases, and one statement that the definitions give them.
-- Assumes nothing.
use Rattle.std.specs.Prelude.{◌≡◌, refl, ℕ, length}
use mathlib.Core.List.{List, [], ◌∷◌, ◌++◌, flatten, flat_map, map}
use Rattle.std.proofs.Math.Option.{Option, none, some, Option-elim, bind, or_else}
use Rattle.base.specs.Lists.{each, keep, first, index, every, some?, places, padded}
use Rattle.base.specs.Numbers.{Outcome, accepted, count, stray, tops, loop, unknown, too_deep}
use Rattle.base.specs.Limits.{group_limit, table_words, space_words, top_mark}
use Rattle.base.specs.Powers.{exponent}
use Rattle.tree.specs.Parents.{entry, parent, climb_within, depth}
use Rattle.tree.specs.Parents.{up as climb_up}
use Rattle.tree.specs.Forest.{plant, grow, preorder, forest_size, forest_height, tallest, spine, path_top}
use Rattle.tree.specs.Faults.{is_stray, meets_top, list_fault}
use Rattle.shapes.specs.Walks.{Walk, down, up, walk_round, shape_number}
use Rattle.shapes.specs.Climbs.{parent_list, reached, local_depth}
use Rattle.table.specs.Ladders.{nearest, ladders, own_path, lad_pos}
use Rattle.table.specs.Groups.{micro, group_root, groups, group_words, jump_node, jump_record, micro_kind, macro_kind, kind}
use Rattle.table.specs.Table.{header, entry_sections, laid_sections, table_of}
use Rattle.table.specs.Preparing.{count_fault, table_fault, space_fault, call_fault, refusal, preparing}
use Rattle.answers.specs.Reading.{run, trace, if_le, if_lt, if_eq, if_none}
use Rattle.answers.specs.Answers.{listed, answer_to}
use Rattle.answers.specs.Steps.{after_class, after_count, opened, after_ladpos, after_ancestor, read_ancestor, after_jump_depth, from_jump, after_parent_kind, after_parent, after_position, in_group, after_shape, from_group, after_kind, ancestor_at, after_depth, from_entry, level}
use Rattle.answers.specs.declared.Answer.{Answer}

-- what is asked, and what is said
data Asked : Type 0 where
  lookup : List ℕ → ℕ → ℕ → Asked
  prepare : List ℕ → Asked
  table : List ℕ → Asked
  shape : Walk → Asked
  words : ℕ → Asked
  entries : ℕ → Asked

data Said : Type 0 where
  answered : Answer → Said
  prepared : Outcome → Said
  holds : List ℕ → Said
  number : ℕ → Said
  turned : Option Outcome → Said

-- the definitions' word on what is asked: a level lookup on a list's table, preparing with table and space just long enough, a list's table,
-- a shape's number, W, and the check of the number of entries
say : Asked → Said
say (lookup ps v d) = let t = table_of ps in answered (answer_to t (level (length t) v d))
say (prepare ps) = prepared (preparing ps (table_words (length ps)) (space_words (length ps)))
say (table ps) = holds (table_of ps)
say (shape w) = number (shape_number group_limit w)
say (words n) = number (table_words n)
say (entries n) = turned (count_fault n)

record Case : Type 0 where
  asked : Asked
  said : Said

-- the chain of eight, and longer ones, in which lookups get to step 4
chain : List ℕ
chain = top_mark ∷ 0 ∷ 1 ∷ 2 ∷ 3 ∷ 4 ∷ 5 ∷ 6 ∷ []

chain_of_ten : List ℕ
chain_of_ten = chain ++ (7 ∷ 8 ∷ [])

chain_of_eleven : List ℕ
chain_of_eleven = chain_of_ten ++ (9 ∷ [])

-- the table of the chain of eight, section by section
chain_table : List ℕ
chain_table =
    (1073741832 ∷ 1 ∷ 1 ∷ 1 ∷ [])
    ++ ((0 ∷ 1 ∷ 2 ∷ 3 ∷ 4 ∷ 5 ∷ 6 ∷ 7 ∷ [])  -- DEPTH
    ++ ((0 ∷ 2147483648 ∷ 2147483649 ∷ 2147483650 ∷ 2147483651 ∷ 2147483652 ∷ 2147483653 ∷ 2147483654 ∷ [])  -- KIND
    ++ ((0 ∷ 1 ∷ 2 ∷ 3 ∷ 4 ∷ 5 ∷ 6 ∷ 7 ∷ [])  -- LADPOS
    ++ ((0 ∷ 1 ∷ 2 ∷ 3 ∷ 4 ∷ 5 ∷ 6 ∷ 7 ∷ [])  -- ORDER
    ++ ((0 ∷ 1 ∷ 2 ∷ 3 ∷ 4 ∷ 5 ∷ 6 ∷ 7 ∷ [])  -- PRE
    ++ ((8 ∷ 7 ∷ 6 ∷ 5 ∷ 4 ∷ 3 ∷ 2 ∷ 1 ∷ [])  -- SIZE
    ++ (padded 16 (0 ∷ 1 ∷ 2 ∷ 3 ∷ 4 ∷ 5 ∷ 6 ∷ 7 ∷ [])  -- LADDERS
    ++ (padded 24 (1 ∷ 65 ∷ 0 ∷ [])  -- GROUPS
    ++ padded 21 []))))))))  -- JUMPS

-- a lookup on a list's table, with its outcome and its cells
look_in : List ℕ → ℕ → ℕ → Outcome → List ℕ → Case
look_in ps v d o cells = record { asked = lookup ps v d; said = answered (record { number = o.number; word = o.word; cells = listed cells }) }

look : ℕ → ℕ → Outcome → List ℕ → Case
look = look_in chain

turn : List ℕ → Outcome → Case
turn ps o = record { asked = prepare ps; said = prepared o }

marked : List Case
marked =
    look 7 1 (accepted 1) (0 ∷ 11 ∷ 19 ∷ 69 ∷ 68 ∷ 29 ∷ [])  -- M1
    ∷ look 7 5 (accepted 5) (0 ∷ 11 ∷ 19 ∷ 69 ∷ 68 ∷ 33 ∷ [])  -- M2
    ∷ look 7 2 (accepted 2) (0 ∷ 11 ∷ 19 ∷ 69 ∷ 68 ∷ 30 ∷ [])  -- M3
    ∷ look 2 0 (accepted 0) (0 ∷ 6 ∷ 14 ∷ 69 ∷ 70 ∷ [])  -- M4
    ∷ look 7 7 (accepted 7) (0 ∷ 11 ∷ [])  -- M5
    ∷ look 7 8 (too_deep 7) (0 ∷ 11 ∷ [])  -- M6
    ∷ look 8 0 (unknown 8) (0 ∷ [])  -- M7
    ∷ look_in chain_of_ten 9 0 (accepted 0) (0 ∷ 13 ∷ 23 ∷ 85 ∷ 86 ∷ 16 ∷ 114 ∷ 116 ∷ 24 ∷ 64 ∷ [])  -- over the group and by step 4
    ∷ look_in chain_of_ten 9 1 (accepted 1) (0 ∷ 13 ∷ 23 ∷ 85 ∷ 86 ∷ 16 ∷ 114 ∷ 115 ∷ 25 ∷ 65 ∷ [])
    ∷ look_in chain_of_ten 2 0 (accepted 0) (0 ∷ 6 ∷ 16 ∷ 114 ∷ 116 ∷ 24 ∷ 64 ∷ [])  -- straight to step 4
    ∷ look_in chain_of_eleven 10 0 (accepted 0) (0 ∷ 14 ∷ 25 ∷ 93 ∷ 94 ∷ 18 ∷ 125 ∷ 127 ∷ 27 ∷ 70 ∷ [])  -- a climb is left to the ladder
    ∷ turn (top_mark ∷ top_mark ∷ []) (tops 1)  -- M8
    ∷ turn (1 ∷ 0 ∷ []) (tops 2)  -- M9
    ∷ turn (top_mark ∷ 2 ∷ 1 ∷ []) (loop 1)  -- M10
    ∷ turn (7 ∷ 7 ∷ []) (stray 0)  -- M11
    ∷ record {
      asked = table (top_mark ∷ []);
      said = holds (1073741825 ∷ 0 ∷ 1 ∷ 1 ∷ 0 ∷ 2147483648 ∷ 0 ∷ 0 ∷ 0 ∷ 1 ∷ 0 ∷ 0 ∷ 0 ∷ 0 ∷ 4294967295 ∷ []);
    }  -- M12
    ∷ record { asked = table chain; said = holds chain_table }
    ∷ turn (top_mark ∷ []) (accepted 15)
    ∷ turn chain (accepted 113)
    ∷ record { asked = shape []; said = number 0 }  -- a lone entry
    ∷ record { asked = shape (down ∷ up ∷ down ∷ up ∷ []); said = number 3 }  -- two leaves under a root
    ∷ record { asked = shape (down ∷ down ∷ down ∷ down ∷ up ∷ up ∷ up ∷ up ∷ []); said = number 9 }  -- a chain of five
    ∷ record { asked = shape (down ∷ up ∷ down ∷ up ∷ down ∷ up ∷ down ∷ up ∷ []); said = number 22 }  -- a root with four leaves
    ∷ record { asked = shape (down ∷ down ∷ down ∷ down ∷ down ∷ down ∷ up ∷ up ∷ up ∷ up ∷ up ∷ up ∷ []); said = number 65 }  -- a chain of seven
    ∷ record { asked = shape (down ∷ up ∷ down ∷ up ∷ down ∷ up ∷ down ∷ up ∷ down ∷ up ∷ down ∷ up ∷ []); said = number 196 }  -- a root with six leaves
    ∷ record { asked = words 5; said = number 59 }
    ∷ record { asked = words 6; said = number 70 }
    ∷ record { asked = words 8; said = number 113 }
    ∷ record { asked = words 1048576; said = number 14286852 }
    ∷ record { asked = entries 1048576; said = turned none }
    ∷ record { asked = entries 1048577; said = turned (some count) }
    ∷ []

marked-entries : map (λ c. say c.asked) marked ≡ map (λ c. c.said) marked
unfolding say marked chain chain_of_ten chain_of_eleven chain_table look_in look turn flatten flat_map Option-elim bind or_else each keep first index every some? places padded entry parent climb_up climb_within depth plant grow preorder forest_size forest_height tallest spine path_top is_stray meets_top list_fault walk_round shape_number parent_list reached local_depth nearest ladders own_path lad_pos micro group_root groups group_words jump_node jump_record micro_kind macro_kind kind header entry_sections laid_sections table_of count_fault table_fault space_fault call_fault refusal preparing run trace if_le if_lt if_eq if_none listed answer_to exponent after_class after_count opened after_ladpos after_ancestor read_ancestor after_jump_depth from_jump after_parent_kind after_parent after_position in_group after_shape from_group after_kind ancestor_at after_depth from_entry level
marked-entries = refl
