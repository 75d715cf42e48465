-- `jump::read_ancestor` meets its contract. Assumes nothing.
use Rattle.std.proofs.Common.{◌≡◌, ℕ, ◌*◌, ◌%◌, ◌^◌, ◌<◌, ◌∙◌, one-mul, arith, lit<, shl_exact}
use Rattle.answers.specs.Steps.{read_ancestor}
use Rattle.query.proofs.Programs.{steps}
use Rattle.query.proofs.jump.read_ancestor.Goals as goal

-- a shift of 1 by e
power : (e : ℕ) → e < 20 → (1 * 2 ^ e) % 2 ^ 32 ≡ 2 ^ e
power e h = shl_exact 1 e 32 (lit< tt) (omega arith) ∙ one-mul _

pub returns : goal.returns
unfolding read_ancestor
returns c = rw (← (power c.args.e c.requires.1)) (search steps)
