-- `relate::at_or_above` meets its contract. Assumes nothing.
use Rattle.std.proofs.Common.{◌≡◌, Bool, true, false, refl, ◌∙◌}
use Rattle.answers.specs.Answers.{answer_from}
use Rattle.answers.specs.Steps.{ancestry}
use Rattle.answers.specs.declared.Cells.{Cells}
use Rattle.query.specs.Parts.{pick_answer}
use Rattle.query.proofs.relate.at_or_above.Goals as goal
use mir.Val.{bool_byte}

told : (b : Bool) (cs : Cells) → record { number = 0; word = bool_byte b; cells = cs } ≡ pick_answer b (record { number = 0; word = 1; cells = cs }) (record { number = 0; word = 0; cells = cs })
told true cs = refl
told false cs = refl

pub returns-in-Ok : goal.returns-in-Ok
unfolding ancestry answer_from
returns-in-Ok c = rw (c.answer.ensures, c.from.ensures) (told c.in-Ok.relation.above c.in-Ok.relation.cells.cells) ∙ c.in-Ok.ensures.goes _ _

pub returns-in-Err : goal.returns-in-Err
unfolding ancestry answer_from
returns-in-Err c = c.in-Err.ensures.goes _ _
