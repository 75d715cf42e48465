-- What a premium question promises, from what the rating lookup does. Assumes nothing.
use mathlib.Core.Path.{◌≡◌, refl, sym, ap, ◌∙◌}
use mathlib.Core.List.{List, [], ◌∷◌}
use Prim.Native.Nat.{ℕ}
use lib.IntN.{ℤ}
use Rattle.base.specs.Lists.{some?}
use Rattle.tree.specs.Questions.{rating_of}
use Rattle.answers.specs.Answers.{outcome}
use Rattle.answers.specs.Promises.{Gives, Few}
use Rattle.answers.specs.declared.Answer.{Answer}
use Rattle.query.proofs.Ratings.{Rated}
use Rattle.premiums.specs.Quotes.{price_of, price, quote_of, quote_to}
use Rattle.premiums.specs.Promises.{Local as LocalQuote, Right as RightQuote}
use Rattle.premiums.specs.declared.Quote.{Quote}
use Rattle.premiums.proofs.Theorems.{price-numbers}

-- the lookup's answer is a, and the quote r
module _ (t rates : List ℕ) (v d : ℕ) (sum : ℤ) (a : Answer) (r : Quote) where
  abbrev pub Promised : Type 0
  Promised =
      (r ≡ quote_to t rates v d sum)
      × (Gives (0 ∷ 7 ∷ 9 ∷ 11 ∷ 12 ∷ []) r.answer
      × (Few 10 r.answer
      × (LocalQuote (λ u. quote_to u rates v d sum) t r
      × RightQuote (λ ps. price_of rates sum (rating_of ps v d)) t r)))

  pub promised : Rated t v d a → r ≡ quote_of rates sum a → Promised
  unfolding quote_to some?
  promised (answers, (numbers, (few, (local, (right, rest))))) q = (
    q ∙ ap (quote_of rates sum) answers,
    (
      rw q (price-numbers rates sum (outcome a) (0 ∷ 7 ∷ 9 ∷ []) refl numbers),
      (
        rw q few,
        (
          λ u l s. ap (quote_of rates sum) (local u l (rw q at s)) ∙ sym q,
          λ ps p. ap price q ∙ ap (price_of rates sum) (right ps p),
        ),
      ),
    ),
  )
