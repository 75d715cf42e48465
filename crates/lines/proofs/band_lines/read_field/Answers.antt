-- `band_lines::read_field` meets its contract: the loop has read so many digits from the place on. Assumes nothing.
use Rattle.std.proofs.Common.{◌≡◌, drop, ◌∙◌, arith, length}
use Rattle.std.proofs.lemmas.Slice.{between_to_end}
use Rattle.lines.proofs.Digits.{digit-other}
use Rattle.lines.proofs.FieldReads.{run_none, run_fits, run_more, run-other, run_long, run-empty, run-great, run-read}
use Rattle.lines.proofs.band_lines.read_field.Goals as goal
use Rattle.lines.proofs.band_lines.read_field.Goals.{In_ok-b-items}

-- what stands from the place on
rest : (c : In_ok-b-items) → c.in_ok-b-items.b-items.now ≡ drop c.args.at c.args.text.now
rest c = c.in_ok-b-items.ensures.lookup.0.2 ∙ between_to_end c.args.text.now c.args.at (length c.args.text.now) (omega arith)

pub loop-digits-init : goal.loop-digits-init
loop-digits-init c = run_none _ _ _ _

pub returns-then-b-end : goal.returns-then-b-end
returns-then-b-end c =
    let l = c.loop-digits in
    let e = rest (goal.at.returns-then-b-end c).In_ok-b-items in
    elim c.then-b-end.branch [
      | goal.then-b-end-via-then-b-end t ↦ run-other _ _ _ _ e l.digits l.value l.invariant c.loop-digits-test.true t.if-b-end.true (digit-other _ c.if-not-is_ascii_digit.ensures.cases)
      | goal.then-b-end-via-else-b-end+then-digits-eq0 t ↦ run-empty _ _ _ _ e l.digits l.value l.invariant c.loop-digits-test.true t.if-b-end.false t.if-digits-eq0.true
    ]

pub returns-in_err-ok : goal.returns-in_err-ok
returns-in_err-ok c =
    let l = c.loop-digits in
    let e = rest (goal.at.returns-in_err-ok c).In_ok-b-items in
    rw c.from_residual-in_err-ok.ensures (run-great _ _ _ _ e l.digits l.value l.invariant c.loop-digits-test.true c.if-b-end.false c.if-digits-eq0.false _ c.try_from.ensures c.in_err-ok.ensures.value)

pub returns-then-not-is_ascii_digit : goal.returns-then-not-is_ascii_digit
returns-then-not-is_ascii_digit c =
    let l = c.loop-digits in
    let e = rest (goal.at.returns-then-not-is_ascii_digit c).In_ok-b-items in
    run-read _ _ _ _ e l.digits l.value l.invariant c.loop-digits-test.true c.if-b-end.false c.if-digits-eq0.false _ c.try_from.ensures _ c.in_ok-ok.ensures.value

pub returns-then-digits-eq-MOST_DIGITS : goal.returns-then-digits-eq-MOST_DIGITS
returns-then-digits-eq-MOST_DIGITS c =
    let l = c.loop-digits in
    let e = rest (goal.at.returns-then-digits-eq-MOST_DIGITS c).In_ok-b-items in
    run_long _ _ _ _ e l.digits l.value l.invariant c.loop-digits-test.true (λ q. absurd (omega (arith, c.requires, c.if-not-is_ascii_digit.ensures.cases))) (omega arith)

pub overflow_mul-value : goal.overflow_mul-value
overflow_mul-value c = omega (arith, run_fits _ _ _ _ (rest (goal.at.overflow_mul-value c).In_ok-b-items) c.loop-digits.digits c.loop-digits.value c.loop-digits.invariant (omega (arith, c.loop-digits.invariant.few)))

pub overflow_add-value : goal.overflow_add-value
overflow_add-value c = omega (arith, c.if-not-is_ascii_digit.ensures.cases, run_fits _ _ _ _ (rest (goal.at.overflow_add-value c).In_ok-b-items) c.loop-digits.digits c.loop-digits.value c.loop-digits.invariant (omega (arith, c.loop-digits.invariant.few)))

pub loop-digits-preserved : goal.loop-digits-preserved
loop-digits-preserved c =
    let l = c.loop-digits in
    let d = c.if-not-is_ascii_digit.ensures.cases in
    rw c.from.ensures
    (run_more _ _ _ _ (rest (goal.at.loop-digits-preserved c).In_ok-b-items) l.digits l.value l.invariant c.loop-digits-test.true (omega (arith, l.invariant.few)) c.requires d.0 d.1)
