-- `told` meets its contract. Assumes nothing.
use native.Mathlib.Omega.{arith}
use Rattle.class_example.proofs.Classes.{not-among}
use Rattle.class_example.proofs.told.Goals as goal

pub returns-in_default : goal.returns-in_default
returns-in_default c h = absurd (not-among c.args.answer.number (λ e. omega arith) (λ e. omega arith) (λ e. omega arith) h)
