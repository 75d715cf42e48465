-- `look::find` meets its contract. Assumes nothing.
use Rattle.std.proofs.Common.{◌≡◌, [], ◌∷◌, refl, ◌∙◌}
use Rattle.base.specs.Limits.{depth_cell}
use Rattle.answers.specs.Answers.{listed}
use Rattle.query.specs.Parts.{finding}
use Rattle.query.proofs.look.Counts.{found_from, one_cell, two_cells}
use Rattle.query.proofs.Programs.{steps, written}
use Rattle.query.proofs.look.find.Goals as goal

pub returns-in_default : goal.returns-in_default
unfolding finding
returns-in_default c next = written _ _ _ c.end.ensures (rw (c.new.ensures, c.first.ensures) (c.in_default.ensures _))

pub returns-then-table-v : goal.returns-then-table-v
returns-then-table-v c next =
    let one : c.push-one.result.cells ≡ listed (0 ∷ []) = rw (c.push-one.ensures, c.new-none.ensures) one_cell in
    written _ _ _ c.end-then-table-v.ensures (found_from _ _ _ c.in-Some.ensures.1 next _ (rw (← one) (search steps)))

pub returns-then-table-depth : goal.returns-then-table-depth
returns-then-table-depth c next =
    let one : c.push-one.result.cells ≡ listed (0 ∷ []) = rw (c.push-one.ensures, c.new-none.ensures) one_cell in
    let reads = rw c.in-Some.ensures.0 at c.read-got.ensures in
    written _ _ _ c.end-then-table-depth.ensures (found_from _ _ _ c.in-Some.ensures.1 next _ (rw (← one) (search steps)))

pub returns : goal.returns
returns c =
    let got = c.before.before in
    let known = got.before in
    let one : known.push-one.result.cells ≡ listed (0 ∷ []) = rw (known.push-one.ensures, known.new-none.ensures) one_cell in
    let reads = rw known.in-Some.ensures.0 at got.read-got.ensures in
    let cells : got.read-got.result.cells.cells ≡ listed (0 ∷ depth_cell known.in-Some.table.n c.args.v.0 ∷ []) = reads.more-is ∙ two_cells _ _ one in
    (known.in-Some.ensures.0, refl, λ next. found_from _ _ _ known.in-Some.ensures.1 next _ (rw (← cells, ← one) (search steps)))
