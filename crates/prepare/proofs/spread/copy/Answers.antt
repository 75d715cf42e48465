-- `spread::copy` meets its contract: the loop has copied the words before `at`. Assumes nothing.
use mathlib.Core.Path.{refl, sym, ◌∙◌}
use native.Mathlib.Omega.{arith}
use lib.ListN.{length-set}
use lib.Seq.{ext_get_or}
use Rattle.prepare.proofs.spread.Writes.{ran-more}
use Rattle.prepare.proofs.spread.copy.Goals as goal

pub loop-at-preserved : goal.loop-at-preserved
loop-at-preserved c =
    let l = c.loop-at in
    (length-set l.to _ _ ∙ l.invariant.0, ran-more _ l.at l.to _ (omega (arith, l.invariant.0)) refl l.invariant.1)

pub returns : goal.returns
returns c =
    let l = c.loop-at in
    ext_get_or 0 l.to c.args.from.now l.invariant.0 (λ k b. l.invariant.1 k (omega (arith, l.invariant.0)))

pub loop-at-init : goal.loop-at-init
loop-at-init c = (sym c.requires, λ k h. absurd (omega arith))
