-- Runs of the counter program, by computation. Assumes nothing.
use mathlib.Core.Path.{◌≡◌, refl}
use mathlib.Core.List.{[], ◌∷◌, flatten, flat_map}
use mathlib.Core.Option.{Option-elim, bind, or_else}
use Rattle.base.specs.Lists.{each, keep, first, index, every, some?, places, padded}
use Rattle.base.specs.Powers.{exponent}
use Rattle.tree.specs.Parents.{entry, parent, climb_within, depth}
use Rattle.tree.specs.Parents.{up as climb_up}
use Rattle.tree.specs.Forest.{plant, grow, preorder, forest_size, forest_height, tallest, spine, path_top}
use Rattle.tree.specs.Faults.{is_stray, meets_top, list_fault}
use Rattle.shapes.specs.Walks.{walk_round, shape_number}
use Rattle.shapes.specs.Climbs.{parent_list, reached, local_depth}
use Rattle.table.specs.Ladders.{nearest, ladders, own_path, lad_pos}
use Rattle.table.specs.Groups.{micro, group_root, groups, group_words, jump_node, jump_record, micro_kind, macro_kind, kind}
use Rattle.table.specs.Table.{header, entry_sections, laid_sections, table_of}
use Rattle.table.specs.Preparing.{count_fault, table_fault, space_fault, call_fault, refusal, preparing}
use Rattle.answers.specs.Reading.{run, trace, if_le, if_lt, if_eq, if_none}
use Rattle.answers.specs.Answers.{listed, answer_to}
use Rattle.answers.specs.Steps.{after_class, after_count, opened, after_ladpos, after_ancestor, read_ancestor, after_jump_depth, from_jump, after_parent_kind, after_parent, after_position, in_group, after_shape, from_group, after_kind, ancestor_at, after_depth, from_entry, level}
use Rattle.lines.specs.Text.{digits, row}
use Rattle.lines.specs.Fields.{parted, value, is_number, number, tagged, single, count_of, parent_field, parent_of, asked, question_of}
use Rattle.lines.specs.Counter.{reply_row, answer_row, answering, judged, listing, opening, counter}

-- the printed run: the chain of eight with questions (7,1), (7,5), (7,8), (8,0)
pub printed-run : counter (78 ∷ 44 ∷ 56 ∷ 10 ∷ 80 ∷ 44 ∷ 45 ∷ 10 ∷ 80 ∷ 44 ∷ 48 ∷ 10 ∷ 80 ∷ 44 ∷ 49 ∷ 10 ∷ 80 ∷ 44 ∷ 50 ∷ 10 ∷ 80 ∷ 44 ∷ 51 ∷ 10 ∷ 80 ∷ 44 ∷ 52 ∷ 10 ∷ 80 ∷ 44 ∷ 53 ∷ 10 ∷ 80 ∷ 44 ∷ 54 ∷ 10 ∷ 81 ∷ 44 ∷ 55 ∷ 44 ∷ 49 ∷ 10 ∷ 81 ∷ 44 ∷ 55 ∷ 44 ∷ 53 ∷ 10 ∷ 81 ∷ 44 ∷ 55 ∷ 44 ∷ 56 ∷ 10 ∷ 81 ∷ 44 ∷ 56 ∷ 44 ∷ 48 ∷ 10 ∷ []) ≡ 101 ∷ 110 ∷ 116 ∷ 114 ∷ 121 ∷ 44 ∷ 100 ∷ 101 ∷ 112 ∷ 116 ∷ 104 ∷ 44 ∷ 114 ∷ 101 ∷ 102 ∷ 117 ∷ 115 ∷ 97 ∷ 108 ∷ 44 ∷ 99 ∷ 108 ∷ 97 ∷ 115 ∷ 115 ∷ 44 ∷ 99 ∷ 101 ∷ 108 ∷ 108 ∷ 115 ∷ 10 ∷ 55 ∷ 44 ∷ 49 ∷ 44 ∷ 48 ∷ 44 ∷ 49 ∷ 44 ∷ 54 ∷ 10 ∷ 55 ∷ 44 ∷ 53 ∷ 44 ∷ 48 ∷ 44 ∷ 53 ∷ 44 ∷ 54 ∷ 10 ∷ 55 ∷ 44 ∷ 56 ∷ 44 ∷ 56 ∷ 44 ∷ 45 ∷ 44 ∷ 50 ∷ 10 ∷ 56 ∷ 44 ∷ 48 ∷ 44 ∷ 55 ∷ 44 ∷ 45 ∷ 44 ∷ 49 ∷ 10 ∷ []
unfolding flatten flat_map Option-elim bind or_else each keep first index every some? places padded entry parent climb_up climb_within depth plant grow preorder forest_size forest_height tallest spine path_top is_stray meets_top list_fault walk_round shape_number parent_list reached local_depth nearest ladders own_path lad_pos micro group_root groups group_words jump_node jump_record micro_kind macro_kind kind header entry_sections laid_sections table_of count_fault table_fault space_fault call_fault refusal preparing run trace if_le if_lt if_eq if_none listed answer_to exponent after_class after_count after_ladpos after_ancestor read_ancestor after_jump_depth from_jump after_parent_kind after_parent after_position in_group after_shape from_group after_kind ancestor_at after_depth from_entry level opened digits row parted value is_number number tagged single count_of parent_field parent_of asked question_of reply_row answer_row answering judged listing opening counter
printed-run = refl
