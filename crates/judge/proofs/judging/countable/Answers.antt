-- `judging::countable` meets its contract. Assumes nothing.
use mathlib.Core.Path.{◌≡◌}
use native.Mathlib.Omega.{arith}
use Rattle.std.proofs.lemmas.Bool.Decides.{nat_tests}
use borrow.Author.Tests.{ne_eqb}
use Rattle.table.specs.Preparing.{count_fault}
use Rattle.judge.proofs.judging.countable.Goals as goal

pub returns-then-n-ge1 : goal.returns-then-n-ge1
unfolding count_fault
returns-then-n-ge1 c =
    let some : c.args.n ≡ 0 → ⊥ = λ e. omega arith in
    rw (ne_eqb c.args.n 0 some) (grind (arith, nat_tests))

pub returns-else-n-ge1 : goal.returns-else-n-ge1
unfolding count_fault
returns-else-n-ge1 c = let z : c.args.n ≡ 0 = omega arith in rw z
