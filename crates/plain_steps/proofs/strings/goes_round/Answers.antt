-- `strings::goes_round` meets its contract. The invariant: what is left to read says whether the string goes round. Assumes nothing.
use mathlib.Core.Path.{◌≡◌}
use Prim.Native.Nat.{◌+◌}
use native.Mathlib.Omega.{arith}
use Rattle.plain_steps.proofs.strings.ClosedStrings.{up, down, none, ended}
use Rattle.plain_steps.proofs.strings.goes_round.Goals as goal
use Rattle.plain_steps.proofs.strings.goes_round.Goals.{then-rest-eq1, else-rest-eq1+else-open-eq0}

pub loop-rest-preserved : goal.loop-rest-preserved
loop-rest-preserved c =
    let l = c.loop-rest in
    let h = c.loop-rest-test.true in
    let string = c.args.string in
    elim c.if-rest-eq1.branch [
      | then-rest-eq1 w ↦
          let e : c.if-rest-eq1.«open» ≡ l.«open» + 1 = omega (arith, l.invariant.few, w.open-is) in
          rw e (up string l.rest l.«open» l.invariant h w.if-rest-eq1.true)
      | else-rest-eq1+else-open-eq0 w ↦
          rw w.open-is (down string l.rest l.«open» l.invariant h w.if-rest-eq1.false w.if-open-eq0.false)
    ]

pub returns-then-open-eq0 : goal.returns-then-open-eq0
returns-then-open-eq0 c = none _ _ _ c.loop-rest.invariant c.loop-rest-test.true c.if-rest-eq1.false c.if-open-eq0.true

pub returns : goal.returns
returns c = ended _ _ _ c.loop-rest.invariant (omega arith)
