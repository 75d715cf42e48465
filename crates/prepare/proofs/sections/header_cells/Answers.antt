-- `sections::header_cells` meets its contract. Assumes nothing.
use mathlib.Core.Path.{refl, ap, ◌∙◌}
use mathlib.Core.List.{[], ◌∷◌}
use Rattle.base.proofs.Puts.{lent_back}
use Rattle.prepare.proofs.sections.header_cells.Goals as goal

pub returns : goal.returns
returns c =
    let rest = c.args.counts.jumps ∷ c.args.counts.groups ∷ c.args.counts.paths ∷ [] in
    lent_back 0 4 c.args.table.now _ _ (c.copy_from_slice.ensures.after ∙ ap (λ n. n ∷ rest) c.header_of.ensures) refl
