-- `group::after_parent_kind` meets its contract. Assumes nothing.
use Rattle.std.proofs.Common.{◌≡◌, ℕ, ◌<◌, ◌≤◌, List, refl, arith, le-leb, rules}
use native.Mathlib.Decide.{dec_le}
use Rattle.base.specs.Limits.{most_entries, micro_mark, jump_room}
use Rattle.answers.specs.Reading.{if_le}
use Rattle.answers.specs.Answers.{answer_from}
use Rattle.answers.specs.Steps.{from_jump, after_parent_kind}
use Rattle.answers.specs.declared.Answer.{Answer}
use Rattle.answers.specs.declared.Cells.{Cells}
use Rattle.query.proofs.joining.Joins.{jump_goes}
use Rattle.query.proofs.joining.Recounts.{jump-cells}
use Rattle.query.proofs.Programs.{written, le_yes, le-no}
use Rattle.query.proofs.group.after_parent_kind.Goals as goal

-- a micro KIND is no jump record's number
micro-refused : (r : Answer) (t : List ℕ) (cs : Cells) (n d kind : ℕ) → n ≤ most_entries → r ≡ answer_from t cs (from_jump n d kind) → r ≡ answer_from t cs (after_parent_kind n d kind)
unfolding from_jump after_parent_kind answer_from if_le
micro-refused r t cs n d kind few e = go (dec_le micro_mark kind)
  where
    go : Dec (micro_mark ≤ kind) → r ≡ answer_from t cs (after_parent_kind n d kind)
    go (yes h) = let room : jump_room n ≤ kind = omega arith in le_yes _ _ _ _ _ _ _ h (simp (le-leb (jump_room n) kind room) at e)
    go (no h) = let low : kind < micro_mark = omega arith in le-no _ _ _ _ _ _ _ low e

pub with_jump-requires : goal.with_jump-requires
with_jump-requires c = let cells = jump-cells _ _ _ _ _ c.from_jump-a.ensures in search (rules, cells)

pub returns : goal.returns
returns c = written _ _ _ c.end.ensures (micro-refused _ _ _ _ _ _ c.args.asked.table.sized.few (rw c.with_jump.ensures (jump_goes _ _ _ _ _ c.from_jump-a.ensures _ _ refl)))
