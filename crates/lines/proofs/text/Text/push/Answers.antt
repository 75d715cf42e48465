-- `Text::push` keeps what lies past a text's bytes zero. Assumes nothing.
use Rattle.std.proofs.Common.{ap, arith, length}
use Rattle.lines.specs.Texts.{count-back}
use Rattle.lines.proofs.Fillings.{filled_set}
use Rattle.lines.proofs.text.Text.push.Goals as goal

pub invariant_of-self : goal.invariant_of-self
invariant_of-self c = filled_set c.self.invariant c.args.b (omega (arith, ap length c.self.view_is, count-back c.self.invariant))
