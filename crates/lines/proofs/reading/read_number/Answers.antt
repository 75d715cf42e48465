-- `reading::read_number` meets its contract: the loop has read the digits before b. Assumes nothing.
use Rattle.std.proofs.Common.{ap, ◌∙◌, arith}
use Rattle.std.proofs.lemmas.Bool.Decides.{nat_tests}
use Rattle.base.specs.Options.{option_of}
use Rattle.lines.proofs.Digits.{valued-none, valued-more, valued_fits, digit-other, read-empty, read-long, read-other, read-converted}
use Rattle.lines.proofs.reading.read_number.Goals as goal

pub returns-then-is_empty : goal.returns-then-is_empty
returns-then-is_empty c = grind (arith, read-empty c.args.field.now, read-long c.args.field.now)

pub loop-b-init : goal.loop-b-init
loop-b-init c = valued-none _

pub returns-then-not-is_ascii_digit : goal.returns-then-not-is_ascii_digit
returns-then-not-is_ascii_digit c =
    read-other _ c.loop-b.b-index c.loop-b-test.true (digit-other _ c.if-not-is_ascii_digit.ensures.cases)

pub overflow_mul-value : goal.overflow_mul-value
overflow_mul-value c = omega (arith, valued_fits _ c.loop-b.b-index c.loop-b.value (omega arith) c.loop-b.invariant)

pub overflow_add-value : goal.overflow_add-value
overflow_add-value c = omega (arith, c.if-not-is_ascii_digit.ensures.cases, valued_fits _ c.loop-b.b-index c.loop-b.value (omega arith) c.loop-b.invariant)

pub loop-b-preserved : goal.loop-b-preserved
loop-b-preserved c =
    let d = c.if-not-is_ascii_digit.ensures.cases in
    rw c.from.ensures (valued-more _ c.loop-b.b-index c.loop-b.value c.loop-b-test.true d.0 d.1 c.loop-b.invariant)

pub returns : goal.returns
returns c =
    let l = c.loop-b in
    ap option_of c.ok.ensures.value ∙ read-converted _ l.b-index l.value (grind (arith, nat_tests)) (omega arith) c.loop-b-test.false l.invariant _ c.try_from.ensures
