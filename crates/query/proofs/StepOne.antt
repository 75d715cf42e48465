-- Step 1 by itself: from its count, on a prepared table, and what it rests on. Assumes nothing.
use Rattle.std.proofs.Common.{◌≡◌, ℕ, Bool, true, false, cond, eqb, ltb, List, [], ◌∷◌, length, Option, Some, None, IfOk, sym, refl, ap, ◌∙◌}
use Rattle.base.specs.Limits.{most_entries, entries_of, table_words}
use Rattle.base.specs.Lists.{has, some?}
use Rattle.base.specs.Numbers.{accepted, broken}
use Rattle.table.specs.Preparing.{Prepared}
use Rattle.answers.specs.Reading.{Reading, done, read, if_lt, if_eq, run, word_at}
use Rattle.answers.specs.Answers.{listed, answer_from, outcome}
use Rattle.answers.specs.Steps.{opened, after_count}
use Rattle.answers.specs.Steps.{broken as broken_at}
use Rattle.answers.proofs.ProgramAnswers.{from_is}
use Rattle.answers.proofs.Runs.{run-done}
use Rattle.answers.proofs.Numbers.{Ends, ends-run, numbers}
use Rattle.climbs.proofs.Questions.{opened-run}
use Rattle.std.specs.Option.{ok_or}
use Rattle.base.specs.declared.refusals.Refusal.TheVariants as Refusal
use Rattle.query.specs.StepOne.{step_one, opened_as}
use Rattle.query.specs.Parts.{Opened}
use Rattle.query.specs.declared.reading.Table.{Table}

module _ (t : List ℕ) where
  -- what any program that goes on with the count comes to, for the one that ends there
  counted : outcome (answer_from t (listed []) (opened (length t) (λ n. done (accepted n)))) ≡ step_one t
  unfolding step_one
  counted = ap outcome (from_is t (listed []) (opened (length t) (λ n. done (accepted n))))

  pub step-broken : Opened t None → broken ≡ step_one t
  step-broken by = ap outcome (by (λ n. done (accepted n))) ∙ counted

  pub step-accepted : (r : Table) → Opened t (Some r) → accepted r.n ≡ step_one t
  unfolding answer_from
  step-accepted r by = ap outcome (by.1 (λ n. done (accepted n))) ∙ counted

  pub step-told : (o : Option Table) → Opened t o → opened_as (ok_or o Refusal.Broken) ≡ step_one t
  step-told None by = step-broken by
  step-told (Some r) by = step-accepted r by

  pub step-same : (o : Option Table) → Opened t o → IfOk (ok_or o Refusal.Broken) (λ r. r.words.now ≡ t)
  step-same None by = tt
  step-same (Some r) by = by.0

-- on a prepared table it gives the number of entries
pub step-prepared : (ps t : List ℕ) → Prepared ps t → step_one t ≡ accepted (length ps)
unfolding step_one
step-prepared ps t p = opened-run ps t p (accepted (length ps)) (λ n. done (accepted n)) (run-done t (accepted (length ps)))

-- it is 0 or 9
step-ends : (len : ℕ) → Ends (0 ∷ 9 ∷ []) (opened len (λ n. done (accepted n)))
unfolding opened after_count some? Ends
step-ends len = search numbers

pub step-numbers : (t : List ℕ) → has (0 ∷ 9 ∷ []) (step_one t).number ≡ true
unfolding step_one
step-numbers t = ends-run (0 ∷ 9 ∷ []) t (opened (length t) (λ n. done (accepted n))) (step-ends (length t))

-- it rests on the table's length and on cell 0 alone
module _ (t u : List ℕ) where
  after_same : (len n : ℕ) → run t (after_count len n (λ m. done (accepted m))) ≡ run u (after_count len n (λ m. done (accepted m)))
  unfolding after_count if_eq if_lt run
  after_same len n = go (eqb n 0) (ltb most_entries n) (ltb len (table_words n))
    where
      go : (a b c : Bool) → run t (cond a broken_at (cond b broken_at (cond c broken_at (done (accepted n))))) ≡ run u (cond a broken_at (cond b broken_at (cond c broken_at (done (accepted n)))))
      go true b c = refl
      go false true c = refl
      go false false true = refl
      go false false false = refl

  pub step_same : length u ≡ length t → word_at u 0 ≡ word_at t 0 → step_one u ≡ step_one t
  unfolding step_one opened if_lt run
  step_same l w = ap (λ len. run u (opened len (λ n. done (accepted n)))) l ∙ go (ltb (length t) 4)
    where
      next : ℕ → Reading
      next x = after_count (length t) (entries_of x) (λ n. done (accepted n))

      go : (b : Bool) → run u (cond b broken_at (read 0 next)) ≡ run t (cond b broken_at (read 0 next))
      go true = refl
      go false = ap (λ x. run u (next x)) w ∙ sym (after_same (length t) (entries_of (word_at t 0)))
