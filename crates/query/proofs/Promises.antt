-- What every question promises of its answer: the definition's, its numbers, few cells, locality, and the climb on a prepared table. Assumes nothing.
use Rattle.std.proofs.Common.{◌≡◌, ℕ, ◌≤◌, List, [], length, sym, ap, ◌∙◌}
use Rattle.base.specs.Numbers.{Outcome}
use Rattle.table.specs.Preparing.{Prepared}
use Rattle.answers.specs.Reading.{Reading, Within, run}
use Rattle.answers.specs.Answers.{listed, outcome, answer_to, answer_from}
use Rattle.answers.specs.Promises.{Answers, Gives, Few, Local, Right}
use Rattle.answers.specs.declared.Answer.{Answer}
use Rattle.answers.proofs.ProgramAnswers.{whole, few, locality}
use Rattle.answers.proofs.Numbers.{Ends, ends-run}

-- p is the question's program, for a table's length, and `means` what it asks of a parent list
module _ (t : List ℕ) (p : ℕ → Reading) (b : ℕ) (ns : List ℕ) (r : Answer) (w : (len : ℕ) → Within b (p len)) (n : (len : ℕ) → Ends ns (p len))
    (means : List ℕ → Outcome) (right : (ps : List ℕ) → Prepared ps t → run t (p (length t)) ≡ means ps) where
  abbrev pub Promised : Type 0
  Promised = Answers p t r × (Gives ns r × (Few b r × (Local p t r × Right means t r)))

  pub promised-of : r ≡ answer_to t (p (length t)) → Promised
  unfolding answer_to
  promised-of q = (
    q,
    (
      rw q (ends-run ns t (p (length t)) (n (length t))),
      (
        rw q (few t b (p (length t)) (w (length t))),
        (
          λ u l s. rw l (locality t b (p (length t)) (w (length t)) u (rw q at s)) ∙ sym q,
          λ ps d. ap outcome q ∙ right ps d,
        ),
      ),
    ),
  )

  -- as the code builds its answer up, cell by cell
  pub promised : b ≤ 15 → r ≡ answer_from t (listed []) (p (length t)) → Promised
  promised h e = promised-of (e ∙ whole t b (p (length t)) (w (length t)) h)
