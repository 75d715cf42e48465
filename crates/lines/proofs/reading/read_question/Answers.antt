-- `reading::read_question` meets its contract. Assumes nothing.
use Rattle.std.proofs.Common.{◌≡◌, ◌<◌, length, ap, ◌∙◌, arith, rules, tests}
use Rattle.std.proofs.lemmas.Iterator.{IsFirst-from_position, YieldsList-from_slice}
use Rattle.lines.specs.Results.{asked_of, NextByte}
use Rattle.lines.proofs.Questions.{question-none, question-short, question-first, question-second, question-read}
use Rattle.lines.proofs.reading.read_question.Goals as goal
use Rattle.lines.proofs.reading.read_question.Goals.{In_ok-comma}

pub returns-in_err-fields : goal.returns-in_err-fields
returns-in_err-fields c = ap asked_of c.from_residual.ensures ∙ question-none _ c.in_err-fields.ensures.cases

pub returns-in_err-comma : goal.returns-in_err-comma
returns-in_err-comma c =
    let p = c.in_ok-fields.ensures.cases in
    let none-there = IsFirst-from_position _ _ _ (λ b. b ≡ 44) (λ b. b ≡ 44 → ⊥) c.in_err-comma.ensures.ran (YieldsList-from_slice c.in_ok-fields.fields.now c.iter.ensures.rest) (λ x q k. search (rules, tests)) (λ x q k. search (rules, tests)) in
    ap asked_of c.from_residual-in_err-comma.ensures ∙ question-short _ p.0 _ p.1 record { behind = omega arith; within = λ h. omega arith; others = λ k a b. none-there k 0 a b; there = λ h. absurd (omega arith) }

-- the first comma
comma : (c : In_ok-comma) → (c.in_ok-comma.comma < length c.in_ok-fields.fields.now) × NextByte c.in_ok-fields.fields.now 44 0 c.in_ok-comma.comma
comma c =
    let there = IsFirst-from_position _ _ _ (λ b. b ≡ 44) (λ b. b ≡ 44 → ⊥) c.in_ok-comma.ensures.ran (YieldsList-from_slice c.in_ok-fields.fields.now c.iter.ensures.rest) (λ x q k. search (rules, tests)) (λ x q k. search (rules, tests)) in
    (there.0, record { behind = omega arith; within = λ h. omega (arith, there.0); others = λ k a b. there.2 k 0 a b; there = λ h. there.1 0 })

pub returns-in_err-read_number : goal.returns-in_err-read_number
returns-in_err-read_number c =
    let p = c.in_ok-fields.ensures.cases in
    let n = comma (goal.at.returns-in_err-read_number c).In_ok-comma in
    ap asked_of c.from_residual-in_err-read_number.ensures ∙ question-first _ p.0 _ p.1 _ n.1 n.0 c.in_err-read_number.ensures

pub returns-in_err-depth : goal.returns-in_err-depth
returns-in_err-depth c =
    let p = c.in_ok-fields.ensures.cases in
    let n = comma (goal.at.returns-in_err-depth c).In_ok-comma in
    ap asked_of c.from_residual-in_err-depth.ensures ∙ question-second _ p.0 _ p.1 _ n.1 n.0 c.in_err-depth.ensures

pub returns : goal.returns
returns c =
    let p = c.in_ok-fields.ensures.cases in
    let n = comma (goal.at.returns c).In_ok-comma in
    question-read _ p.0 _ p.1 _ n.1 n.0 _ _ c.in_ok-read_number.ensures c.in_ok-depth.ensures
