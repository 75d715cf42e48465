-- `jump::after_jump_depth` meets its contract. Assumes nothing.
use Rattle.std.proofs.Common.{◌≡◌, ℕ, ◌<◌, ◌≤◌, List, arith, lit≤}
use native.Mathlib.Decide.{dec_le, dec_lt}
use Rattle.base.proofs.Exponents.{exponent-low, exponent-none}
use Rattle.base.proofs.Options.{option-told}
use Rattle.answers.specs.Answers.{answer_from}
use Rattle.answers.specs.Steps.{broken, after_jump_depth}
use Rattle.answers.specs.declared.Answer.{Answer}
use Rattle.answers.specs.declared.Cells.{Cells}
use Rattle.query.proofs.Programs.{steps, le_yes, le-no, lt_yes, lt_no, is_none}
use Rattle.query.proofs.jump.after_jump_depth.Goals as goal

-- a jump entry that is not deeper than d is refused by one of the definition's three tests
not-deeper : (r : Answer) (t : List ℕ) (cs : Cells) (n d jump depth : ℕ) → depth ≤ d → r ≡ answer_from t cs broken → r ≡ answer_from t cs (after_jump_depth n d jump depth)
unfolding after_jump_depth
not-deeper r t cs n d jump depth h e = go (dec_le n depth) (dec_lt depth d)
  where
    go : Dec (n ≤ depth) → Dec (depth < d) → r ≡ answer_from t cs (after_jump_depth n d jump depth)
    go (yes m) _ = le_yes _ _ _ _ _ _ _ m e
    go (no m) (yes a) = le-no _ _ _ _ _ _ _ (omega arith) (lt_yes _ _ _ _ _ _ _ a e)
    go (no m) (no a) = le-no _ _ _ _ _ _ _ (omega arith) (lt_no _ _ _ _ _ _ _ (omega arith) (is_none _ _ _ _ _ _ ((exponent-none _ (omega arith)).1 (omega arith)) e))

pub read_ancestor-requires : goal.read_ancestor-requires
read_ancestor-requires c =
    let low = exponent-low 20 _ _ (lit≤ tt) (omega arith) (option-told c.exponent.ensures.answer c.in-Some.is) in
    (c.requires, low.0, low.1)

pub returns-in-None : goal.returns-in-None
unfolding after_jump_depth
returns-in-None c =
    let q = option-told c.exponent.ensures.answer c.in-None.is in
    le-no _ _ _ _ _ _ _ (omega arith) (lt_no _ _ _ _ _ _ _ (omega arith) (search steps))

pub returns-in-Some : goal.returns-in-Some
unfolding after_jump_depth
returns-in-Some c =
    let q = option-told c.exponent.ensures.answer c.in-Some.is in
    le-no _ _ _ _ _ _ _ (omega arith) (lt_no _ _ _ _ _ _ _ (omega arith) (search steps))

pub returns-then-depth-d : goal.returns-then-depth-d
unfolding after_jump_depth
returns-then-depth-d c = not-deeper _ _ _ _ _ _ _ c.if-depth-d.true (search steps)

pub returns-then-asked-d : goal.returns-then-asked-d
unfolding after_jump_depth
returns-then-asked-d c = le_yes _ _ _ _ _ _ _ (omega arith) (search steps)
