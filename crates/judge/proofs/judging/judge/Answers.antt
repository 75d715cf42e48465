-- `judging::judge` meets its contract. Assumes nothing.
use mathlib.Core.Path.{refl, sym, ap}
use Prim.Native.Nat.{◌*◌}
use native.Mathlib.Omega.{arith}
use lib.ListN.{length}
use Rattle.table.proofs.Outcomes.{judging-iff}
use Rattle.judge.proofs.judging.Judgments.{cleared, lent}
use Rattle.judge.proofs.judging.judge.Goals as goal

pub returns-clause-left : goal.returns-clause-left
returns-clause-left c =
    let ps = c.args.parents.now in
    let xs = c.args.space.now in
    let e = c.in_ok-n.ensures in
    let room = ((judging-iff ps 0 (length xs)).0 (sym (ap (λ o. o.number) e.answer))).3 in
    cleared ps xs (lent ps xs _ e.answer refl) (6 * length ps) c.preorder.new.space _ (omega arith) (omega (arith, room, c.preorder.auto.space)) e.beyond c.clear.ensures
