-- `search::search` meets its contract. Assumes nothing.
use Rattle.std.proofs.Common.{◌+◌, ◌-◌, arith}
use Rattle.common_ancestors.proofs.Halving.{few-start, few-more, few-next}
use Rattle.common_ancestors.proofs.Narrowing.{top-entry, top_above, narrowed-start, tried-known, narrowed-hit, narrowed-miss, narrowed-end}
use Rattle.common_ancestors.proofs.search.search.Goals as goal
use Rattle.common_ancestors.proofs.search.search.Goals.{then-table-class-via-then-table-class, then-table-class-via-else-table-class+then-ends-eq0}

-- the top is an entry, and not below the second
pub returns-then-table-class-clause-right : goal.returns-then-table-class-clause-right
returns-then-table-class-clause-right c ps g n =
    elim c.then-table-class.branch [
      | then-table-class-via-then-table-class w ↦ absurd (omega (arith, w.if-table-class.true, top-entry ps _ _ _ _ _ g _ c.top_of-class.ensures))
      | then-table-class-via-else-table-class+then-ends-eq0 w ↦ absurd (n (top_above ps _ _ _ _ _ g w.if-ends-eq0.true))
    ]

pub loop-low-init : goal.loop-low-init
loop-low-init c = (
  λ ps g n. narrowed-start ps _ _ _ _ _ g _ c.top_of-class.ensures n,
  record { over = omega arith; half = omega arith; most = omega arith; middle = λ h. absurd (omega arith); few = few-start _ (omega arith); entry = c.if-table-class.false },
)

pub overflow_add-tries : goal.overflow_add-tries
overflow_add-tries c = let at = c.loop-low in omega (arith, few-more at.tries (at.high - at.low) at.invariant.1.few (omega arith))

pub returns-in_default-clause-few : goal.returns-in_default-clause-few
returns-in_default-clause-few c = let at = c.loop-low in rw c.broken_after-in_default.ensures (omega (arith, few-more at.tries (at.high - at.low) at.invariant.1.few (omega arith)))

pub returns-in_default-clause-right : goal.returns-in_default-clause-right
returns-in_default-clause-right c ps g n =
    let at = c.loop-low in
    absurd (tried-known ps _ _ _ _ _ g at.k (omega arith) (λ x. c.in_default.ensures.right ps g.of g.second x))

pub loop-low-smaller-then-trial : goal.loop-low-smaller-then-trial
loop-low-smaller-then-trial c = let at = c.loop-low in omega (arith, few-more at.tries (at.high - at.low) at.invariant.1.few (omega arith))

pub loop-low-preserved-then-trial : goal.loop-low-preserved-then-trial
loop-low-preserved-then-trial c =
    let at = c.loop-low in (
      λ ps g n. narrowed-hit ps _ _ _ _ _ g at.low at.high at.class.0 at.k (at.invariant.0 ps g n) (omega arith) c.in-Some.trial (λ x. c.in-Some.ensures.right ps g.of g.second x) c.if-trial.true,
      record {
        over = omega arith;
        half = omega arith;
        most = omega arith;
        middle = λ h. omega arith;
        few = few-next at.tries (at.high - at.low) at.invariant.1.few (omega arith) (at.k - at.low) (omega arith) (λ h. omega arith);
        entry = c.in-Some.ensures.entry;
      },
    )

pub loop-low-smaller : goal.loop-low-smaller
loop-low-smaller c = let at = c.loop-low in omega (arith, few-more at.tries (at.high - at.low) at.invariant.1.few (omega arith))

pub loop-low-preserved : goal.loop-low-preserved
loop-low-preserved c =
    let at = c.loop-low in (
      λ ps g n. narrowed-miss ps _ _ _ _ _ g at.low at.high at.class.0 at.k (at.invariant.0 ps g n) (omega arith) c.in-Some.trial (λ x. c.in-Some.ensures.right ps g.of g.second x) c.if-trial.false,
      record {
        over = omega arith;
        half = omega arith;
        most = omega arith;
        middle = λ h. c.next-k.ensures.2 h;
        few = few-next at.tries (at.high - at.low) at.invariant.1.few (omega arith) (at.high - (at.k + 1)) (omega arith) (λ h. omega (arith, at.invariant.1.middle h));
        entry = at.invariant.1.entry;
      },
    )

pub returns-clause-right : goal.returns-clause-right
returns-clause-right c ps g n =
    let at = c.loop-low in
    let s = at.invariant.0 ps g n in
    record { reached = s.hit.0; nearest = narrowed-end ps _ _ _ _ _ g at.low at.high at.class.0 s (omega arith) }

pub returns-clause-few : goal.returns-clause-few
returns-clause-few c = c.loop-low.invariant.1.few.most

pub returns-clause-settled : goal.returns-clause-settled
returns-clause-settled c = let at = c.loop-low in (at.invariant.1.entry, omega arith)
