-- `group::after_shape` meets its contract. Assumes nothing.
use Rattle.std.proofs.Common.{◌≡◌, ℕ, ◌≤◌, List, arith}
use mathlib.Core.Option.{none}
use native.Mathlib.Decide.{dec_le}
use Rattle.base.specs.Limits.{group_limit, shape_count}
use Rattle.shapes.specs.Climbs.{reached}
use Rattle.shapes.proofs.Rule.{known-shape}
use Rattle.shapes.proofs.Fields.{outside, inside, there}
use Rattle.answers.specs.Answers.{answer_from}
use Rattle.answers.specs.Steps.{broken, after_shape}
use Rattle.answers.specs.declared.Answer.{Answer}
use Rattle.answers.specs.declared.Cells.{Cells}
use Rattle.query.proofs.Programs.{steps, written, le_yes, le-no, is_none}
use Rattle.query.proofs.group.after_shape.Goals as goal

-- a local number that is not there is refused by one of two tests
not_there : (r : Answer) (t : List ℕ) (cs : Cells) (n d depth group local shape : ℕ) → reached group_limit shape local 0 ≡ none → r ≡ answer_from t cs broken → r ≡ answer_from t cs (after_shape n d depth group local shape)
unfolding after_shape
not_there r t cs n d depth group local shape q e = go (dec_le shape_count shape)
  where
    go : Dec (shape_count ≤ shape) → r ≡ answer_from t cs (after_shape n d depth group local shape)
    go (yes h) = le_yes _ _ _ _ _ _ _ h e
    go (no h) = le-no _ _ _ _ _ _ _ (omega arith) (is_none _ _ _ _ _ _ q e)

pub returns-then-out-eq0 : goal.returns-then-out-eq0
unfolding after_shape
returns-then-out-eq0 c =
    let absent = outside _ _ _ c.climbs_of-field.ensures _ c.out.ensures c.if-out-eq0.true in
    written _ _ _ c.end.ensures (not_there _ _ _ _ _ _ _ _ _ absent (search steps))

pub in_group-requires : goal.in_group-requires
unfolding after_shape
in_group-requires c =
    record {
      group-in = c.requires;
      packs = c.climbs_of-field.ensures;
      local-in = inside _ _ _ c.climbs_of-field.ensures _ c.out.ensures c.if-out-eq0.false;
    }

pub returns : goal.returns
unfolding after_shape
returns c =
    let shape = c.args.shape in
    let local = c.args.member.local in
    let in-shape = inside shape local _ c.climbs_of-field.ensures _ c.out.ensures c.if-out-eq0.false in
    let j = there shape local in-shape in
    written _ _ _ c.in_group.ensures (le-no _ _ _ _ _ _ _ (known-shape shape local 0 in-shape) (search (steps, j.1)))
