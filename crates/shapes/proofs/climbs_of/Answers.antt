-- `shapes::climbs_of` meets its contract. Assumes nothing.
use mathlib.Core.Path.{sym}
use native.Mathlib.Omega.{arith}
use Rattle.base.specs.Limits.{group_limit}
use Rattle.base.specs.Lists.{each}
use Rattle.shapes.specs.Packed.{field_row}
use Rattle.shapes.proofs.Heights.{row-past, out-past}
use Rattle.shapes.proofs.Fields.{packs, field-packs}
use Rattle.shapes.proofs.climbs_of.Goals as goal

pub returns-then-local-ge-LOCAL_SPAN : goal.returns-then-local-ge-LOCAL_SPAN
unfolding each field_row
returns-then-local-ge-LOCAL_SPAN c =
    packs _ _ 0 (sym (row-past group_limit (omega arith) _ _ (omega arith))) (sym (out-past group_limit (omega arith) _ _ (omega arith)))

pub returns : goal.returns
returns c = let word = c.fields.ensures in field-packs _ _ _ _ word.rows word.outs (omega arith) c.field.ensures
