-- `sweeping::lowest_fault` meets its contract. Assumes nothing.
use mathlib.Core.Path.{refl}
use Prim.Native.Nat.{◌+◌}
use native.Mathlib.Omega.{arith}
use Rattle.std.proofs.lemmas.Result.{err_from_is_err_and}
use Rattle.base.proofs.RefusalNumbers.{refused-numbered}
use Rattle.sheets.proofs.sweeping.Searches.{check-start, check-pass, check-more, check-found, check-end}
use Rattle.sheets.proofs.sweeping.lowest_fault.Goals as goal

pub returns-in_err-place : goal.returns-in_err-place
returns-in_err-place c =
    let p = err_from_is_err_and c.from_residual.result c.from_residual.ensures.1 in
    let (at, word, swept) = c.in_err-place.ensures in
    let l = c.loop-class in
    rw (p.1, p.2, word)
    (check-found _ _ _ _ l.class l.place (omega arith) l.invariant.0 _ _ at swept (l.invariant.1 (omega arith)) (refused-numbered _))

pub loop-class-preserved : goal.loop-class-preserved
loop-class-preserved c =
    let n = c.next_class-class-in-loop-class.ensures in
    let l = c.loop-class in (
      check-pass _ _ _ _ (l.class + 1) c.in_ok-place.place c.next_class-class-in-loop-class.result n.none_before
          (check-more _ _ _ _ l.class l.place (omega arith) l.invariant.0 0 0 c.in_ok-place.place c.in_ok-place.ensures refl),
      n.there,
    )

pub loop-class-init : goal.loop-class-init
loop-class-init c =
    let n = c.next_class-class.ensures in (check-pass _ _ _ _ 0 0 c.next_class-class.result n.none_before (check-start _ _ _ _), n.there)

pub returns : goal.returns
returns c = check-end _ _ _ _ c.loop-class.class c.loop-class.place 0 0 (omega arith) c.loop-class.invariant.0
