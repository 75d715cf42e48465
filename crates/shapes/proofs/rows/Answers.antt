-- `rows` meets its contract: each row is the table's, and so the rows have its rule. Assumes nothing.
use Rattle.std.proofs.Common.{◌≡◌, ℕ, List, [], arith}
use mathlib.Core.Path.{subst⁻¹}
use Rattle.base.specs.Limits.{group_limit}
use Rattle.shapes.specs.Climbs.{row_of, rows_of, Rule}
use Rattle.shapes.proofs.Rule.{rule}
use Rattle.shapes.proofs.Sevens.{seven}
use Rattle.shapes.proofs.rows.Goals as goal

-- the rows are the table's, and so have its rule
both : (s : ℕ) {r : List (List ℕ)} → r ≡ rows_of group_limit s → (r ≡ rows_of group_limit s) × Rule group_limit s r
both s e = (e, subst⁻¹ (Rule group_limit s) e (rule group_limit (omega arith) s))

pub returns : goal.returns
unfolding rows_of
returns c =
    let s = c.args.shape in
    let (long, rows) = c.loop-local.invariant in
    let all = both s (seven [] (row_of group_limit s) _ long (λ j h. rows j (omega arith))) in
    record { table = all.0; rule = all.1 }
