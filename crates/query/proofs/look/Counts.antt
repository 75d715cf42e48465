-- Step 1: what the tests of the count come to, and how a lookup goes on from there. Assumes nothing.
use Rattle.std.proofs.Common.{◌≡◌, ℕ, ◌+◌, ◌<◌, ◌≤◌, List, [], ◌∷◌, length, refl, ap, ◌∙◌, arith, lit≤, le-ltb, lt-ltb}
use Rattle.base.specs.Limits.{most_entries, header_mark, entries_of, table_words, depth_cell}
use Rattle.base.specs.Numbers.{unknown}
use Rattle.base.specs.Numbers.{broken as broken_table}
use Rattle.answers.specs.Reading.{Reading, done, read, if_le, word_at}
use Rattle.answers.specs.Answers.{pushed, pushed_all, listed, answer_of, answer_from}
use Rattle.answers.specs.Steps.{broken, after_count, opened}
use Rattle.answers.specs.declared.Answer.{Answer}
use Rattle.answers.specs.declared.Cells.{Cells}
use Rattle.answers.proofs.ProgramAnswers.{push-all-listed}
use Rattle.query.specs.Parts.{first_of, finding}
use Rattle.query.proofs.Programs.{ends, eq_yes, eq_no, lt_yes, lt_no}

-- the cells of step 1
pub one_cell : pushed (listed []) 0 ≡ listed (0 ∷ [])
unfolding pushed_all
one_cell = push-all-listed [] (0 ∷ []) (lit≤ tt)

first-few : (len : ℕ) → len < 4 → first_of len ≡ listed []
unfolding first_of
first-few len h = simp (lt-ltb len 4 h)

first-there : (len : ℕ) → 4 ≤ len → first_of len ≡ pushed (listed []) 0
unfolding first_of
first-there len h = simp (le-ltb len 4 h)

-- cell 0, and one more
pub two_cells : (cs : Cells) (cell : ℕ) → cs ≡ listed (0 ∷ []) → pushed cs cell ≡ listed (0 ∷ cell ∷ [])
unfolding pushed_all
two_cells cs cell e = ap (λ b. pushed b cell) e ∙ push-all-listed (0 ∷ []) (cell ∷ []) (lit≤ tt)

module _ (t : List ℕ) (next : ℕ → Reading) where
  pub under-words : length t < 4 → answer_of broken_table (first_of (length t)) ≡ answer_from t (listed []) (opened (length t) next)
  unfolding opened
  under-words h = lt_yes _ _ _ _ _ _ _ h (ends _ _ _ _ (rw (first-few (length t) h)))

  module _ (long : 4 ≤ length t) where
    there : (r : Answer) → r ≡ answer_from t (pushed (listed []) 0) (after_count (length t) (entries_of (word_at t 0)) next) → r ≡ answer_from t (listed []) (opened (length t) next)
    unfolding opened answer_from
    there r e = lt_no _ _ _ _ _ _ _ long e

    ended : answer_of broken_table (pushed (listed []) 0) ≡ answer_from t (pushed (listed []) 0) (after_count (length t) (entries_of (word_at t 0)) next)
        → answer_of broken_table (first_of (length t)) ≡ answer_from t (listed []) (opened (length t) next)
    ended e = rw (first-there (length t) long) (there _ e)

    pub under-mark : word_at t 0 ≤ header_mark → answer_of broken_table (first_of (length t)) ≡ answer_from t (listed []) (opened (length t) next)
    unfolding after_count
    under-mark m = ended (eq_yes _ _ _ _ _ _ _ (omega arith) (ends _ _ _ _ refl))

    module _ (m : header_mark < word_at t 0) where
      pub over-most : header_mark + most_entries < word_at t 0 → answer_of broken_table (first_of (length t)) ≡ answer_from t (listed []) (opened (length t) next)
      unfolding after_count
      over-most h = ended (eq_no _ _ _ _ _ _ _ (λ z. absurd (omega arith)) (lt_yes _ _ _ _ _ _ _ (omega arith) (ends _ _ _ _ refl)))

      module _ (few : word_at t 0 ≤ header_mark + most_entries) where
        pub under-room : length t < table_words (entries_of (word_at t 0)) → answer_of broken_table (first_of (length t)) ≡ answer_from t (listed []) (opened (length t) next)
        unfolding after_count
        under-room h = ended (eq_no _ _ _ _ _ _ _ (λ z. absurd (omega arith)) (lt_no _ _ _ _ _ _ _ (omega arith) (lt_yes _ _ _ _ _ _ _ h (ends _ _ _ _ refl))))

        pub with-room : table_words (entries_of (word_at t 0)) ≤ length t → answer_from t (listed (0 ∷ [])) (next (entries_of (word_at t 0))) ≡ answer_from t (listed []) (opened (length t) next)
        unfolding after_count
        with-room h =
            rw (← one_cell)
            (there _
            (eq_no _ _ _ _ _ _ _ (λ z. absurd (omega arith))
            (lt_no _ _ _ _ _ _ _ (omega arith)
            (lt_no _ _ _ _ _ _ _ h refl))))

-- a program that goes on with v, from step 1
pub found_from : (t : List ℕ) (v n : ℕ) → ((next : ℕ → Reading) → answer_from t (listed (0 ∷ [])) (next n) ≡ answer_from t (listed []) (opened (length t) next)) → (next : ℕ → ℕ → Reading) (r : Answer)
    → r ≡ answer_from t (listed (0 ∷ [])) (if_le n v (done (unknown v)) (read (depth_cell n v) (λ depth. if_le n depth broken (next n depth))))
    → r ≡ answer_from t (listed []) (finding (length t) v next)
unfolding finding
found_from t v n goes next r e = e ∙ goes _
