-- `fields::field` meets its contract. Assumes nothing.
use Rattle.std.proofs.Common.{ap, ◌∙◌}
use Rattle.samples.specs.Fields.{to_comma}
use Rattle.samples.proofs.fields.Commas.{field_is}
use Rattle.samples.proofs.fields.field.Goals as goal

pub returns : goal.returns
returns c =
    let from = c.behind-from in
    let to = c.behind-to in
    field_is _ from.result to.result to.ensures.0 to.ensures.1 to.ensures.2 ∙ ap to_comma from.ensures.2
