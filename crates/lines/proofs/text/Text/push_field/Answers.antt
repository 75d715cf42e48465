-- `Text::push_field` meets its contract: a number of 32 bits has at most ten digits. Assumes nothing.
use Rattle.std.proofs.Common.{[], ◌∷◌, ap, arith, length, length-append}
use Rattle.lines.specs.Text.{decimal}
use Rattle.lines.proofs.Decimals.{decimal_short}
use Rattle.lines.proofs.text.Text.push_field.Goals as goal

pub push_number-requires : goal.push_number-requires
push_number-requires c = omega (arith, decimal_short c.from.result (omega arith))

pub push-requires : goal.push-requires
push-requires c =
    omega (arith, decimal_short c.from.result (omega arith), ap length c.push_number.ensures, length-append c.args.self.now (decimal c.from.result))

pub returns-clause-fits : goal.returns-clause-fits
returns-clause-fits c =
    omega (arith, decimal_short c.from.result (omega arith), ap length c.push_number.ensures, length-append c.args.self.now (decimal c.from.result), ap length c.push.ensures, length-append c.push_number.new.self (c.args.end ∷ []))
