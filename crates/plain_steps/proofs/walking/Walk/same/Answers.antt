-- `Walk::same` meets its contract: arrays are equal just where each of their places is. Assumes nothing.
use Rattle.std.proofs.Common.{List, ℕ, get_or, arith, ap}
use Rattle.std.proofs.lemmas.Slice.Eq.{slice_eq-Decides}
use Rattle.std.proofs.lemmas.Bool.Decides.{Decides-eqb}
use Rattle.std.proofs.lemmas.Grind.{same_number_lists}
use Rattle.plain_steps.proofs.walking.Walk.same.Goals as goal

pub returns : goal.returns
returns c =
    let d = slice_eq-Decides Decides-eqb c.args.self.cells c.args.cells c.eq.result c.eq.ensures in (
      λ e. record {
        number = omega arith;
        word = omega arith;
        count = omega arith;
        cells = λ i h. ap (λ (l : List ℕ). get_or l i 0) (d.0 e);
      },
      λ s. d.1 (same_number_lists _ _ (omega arith) (λ i h. s.cells i (omega arith))),
    )
