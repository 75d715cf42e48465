-- What a question with more than a rating lookup rests on: the lookup's promises, and its words with another number and another result word. Assumes nothing.
use Rattle.std.proofs.Common.{◌≡◌, ℕ, List, [], ◌∷◌, length, get_or, set, ap, ◌∙◌}
use Rattle.base.specs.Numbers.{Outcome}
use Rattle.tree.specs.Questions.{rating_of}
use Rattle.answers.specs.Answers.{answer_to, outcome, answer_words}
use Rattle.answers.specs.Promises.{Answers, Gives, Few, Local, Right, RatesKnown, Smaller}
use Rattle.answers.specs.Steps.{rating}
use Rattle.answers.specs.declared.Answer.{Answer}
use Rattle.answers.proofs.Bounds.{rating-within}
use Rattle.answers.proofs.Numbers.{rating-numbers}
use Rattle.answers.proofs.Ratings.{rating-smaller}
use Rattle.climbs.proofs.Questions.{rating-right}
use Rattle.climbs.proofs.Theorems.{rating-answers}
use Rattle.query.proofs.Promises.{promised-of}

-- a is a rating lookup's answer, with all that the lookup promises of it
abbrev pub Rated : List ℕ → ℕ → ℕ → Answer → Type 0
Rated t v d a =
    Answers (λ len. rating len v d) t a
    × (Gives (0 ∷ 7 ∷ 9 ∷ []) a
    × (Few 10 a
    × (Local (λ len. rating len v d) t a
    × (Right (λ ps. rating_of ps v d) t a
    × (RatesKnown v d t a
    × Smaller v d t a)))))

pub rated : (t : List ℕ) (v d : ℕ) (a : Answer) → a ≡ answer_to t (rating (length t) v d) → Rated t v d a
rated t v d a e =
    let (answers, (gives, (few, (local, right)))) =
    promised-of t (λ len. rating len v d) 10 (0 ∷ 7 ∷ 9 ∷ []) a (λ len. rating-within len v d) (λ len. rating-numbers len v d) (λ ps. rating_of ps v d) (λ ps p. rating-right ps t p v d) e in
    (answers, (gives, (few, (local, (right, (λ ps p h. rw e (rating-answers ps t p v d h), e ∙ rating-smaller t (length t) v d))))))

-- an answer's number and word, read from its words
abbrev pub first_two : List ℕ → Outcome
first_two w = record { number = get_or w 0 0; word = get_or w 1 0 }

module _ (a : Answer) (w : List ℕ) (words : w ≡ answer_words a) where
  pub outcome-words : first_two w ≡ outcome a
  unfolding answer_words
  outcome-words = ap first_two words

  -- and its words with others in their place
  pub renamed-words : (number word : ℕ) → set (set w 0 number) 1 word ≡ answer_words (record { number = number; word = word; cells = a.cells })
  unfolding answer_words
  renamed-words number word = ap (λ l. set (set l 0 number) 1 word) words
