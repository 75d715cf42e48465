-- Ancestry's test, and what a relation gives. Assumes nothing.
use Rattle.std.proofs.Common.{◌≡◌, ℕ, ◌+◌, ◌-◌, ◌<◌, ◌≤◌, Bool, true, false, cond, ◌&&◌, ltb, leb, List, take, sym, refl, ap, ◌∙◌, arith, le-ltb, lt-ltb, le-leb}
use native.Mathlib.Decide.{dec_lt}
use borrow.Author.Tests.{lt-leb}
use Rattle.base.specs.Numbers.{Outcome}
use Rattle.answers.specs.Reading.{Reading, if_le, if_lt, and_then, trace}
use Rattle.answers.specs.Answers.{pushed_all, answer_to, answer_from}
use Rattle.answers.specs.Steps.{compared}
use Rattle.answers.specs.declared.Answer.{Answer}
use Rattle.answers.specs.declared.Cells.{Cells}
use Rattle.answers.proofs.ProgramAnswers.{cells-listed, then_is}
use Rattle.query.specs.Parts.{pick_answer}

-- the interval's test, with a difference in place of a sum
pub late : (first size other : ℕ) → other < first → false ≡ (leb first other && ltb other (first + size))
late first size other h = rw (lt-leb first other h)

pub in-time : (first size other : ℕ) → first ≤ other → ltb (other - first) size ≡ (leb first other && ltb other (first + size))
in-time first size other h = rw (le-leb first other h) (go (dec_lt (other - first) size))
  where
    go : Dec (other - first < size) → ltb (other - first) size ≡ ltb other (first + size)
    go (yes k) = lt-ltb (other - first) size k ∙ sym (lt-ltb other (first + size) (omega arith))
    go (no k) = le-ltb (other - first) size (omega arith) ∙ sym (le-ltb other (first + size) (omega arith))

-- a relation goes on by the test
pub compared-goes : (t : List ℕ) (cs : Cells) (p apart : Reading) (first size other : ℕ)
    → pick_answer (leb first other && ltb other (first + size)) (answer_from t cs p) (answer_from t cs apart) ≡ answer_from t cs (compared p apart first size other)
unfolding compared if_le if_lt
compared-goes t cs p apart first size other = go (leb first other) (ltb other (first + size))
  where
    go : (a b : Bool) → pick_answer (a && b) (answer_from t cs p) (answer_from t cs apart) ≡ answer_from t cs (cond a (cond b p apart) apart)
    go true true = refl
    go true false = refl
    go false b = refl

-- a program's answer inside another: its cells behind those so far, and then what is made of its outcome
pub inner-goes : (r : Answer) (t : List ℕ) (cs : Cells) (p : Reading) (f : Outcome → Reading) (a : Answer) (all : Cells)
    → a ≡ answer_to t p → all ≡ pushed_all cs (take a.cells.count a.cells.at)
    → r ≡ answer_from t all (f (record { number = a.number; word = a.word })) → r ≡ answer_from t cs (and_then p f)
unfolding answer_to
inner-goes r t cs p f a all e h g =
    let cells : all ≡ pushed_all cs (trace t p) = h ∙ ap (pushed_all cs) (ap (λ b. take b.cells.count b.cells.at) e ∙ cells-listed t p) in
    g ∙ (rw (e, cells)) ∙ sym (then_is t cs p f)
