-- `Text::extend_from_slice` keeps what lies past a text's bytes zero. Assumes nothing.
use Rattle.std.proofs.Common.{ap, arith, length}
use Rattle.lines.specs.Texts.{count-back}
use Rattle.lines.proofs.Fillings.{filled_put}
use Rattle.lines.proofs.text.Text.extend_from_slice.Goals as goal

pub invariant_of-self : goal.invariant_of-self
invariant_of-self c =
    filled_put c.self.invariant _ c.copy_from_slice.new.self
    (omega arith)
    (omega (arith, ap length c.self.view_is, count-back c.self.invariant))
    (omega (arith, ap length c.copy_from_slice.ensures.after))
