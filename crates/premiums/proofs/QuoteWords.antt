-- A quote in words: those of the lookup's answer, where number and result word give way to the price's. Assumes nothing.
use mathlib.Core.Path.{◌≡◌, ap, ◌∙◌}
use mathlib.Core.List.{List}
use Prim.Native.Nat.{ℕ}
use lib.ListN.{set}
use lib.IntN.{ℤ}
use Rattle.answers.specs.Answers.{outcome, answer_words}
use Rattle.answers.specs.declared.Answer.{Answer}
use Rattle.query.proofs.Ratings.{first_two, outcome-words, renamed-words}
use Rattle.money.specs.declared.Price.{Price}
use Rattle.premiums.specs.Quotes.{price_of, quote_of}

module _ (rates : List ℕ) (sum : ℤ) (a : Answer) (p : Price) (w : List ℕ) (words : w ≡ answer_words a) (is : p ≡ price_of rates sum (first_two w)) where
  same-price : p ≡ price_of rates sum (outcome a)
  same-price = is ∙ ap (price_of rates sum) (outcome-words a w words)

  pub quote-words : (set (set w 0 p.number) 1 p.word ≡ answer_words (quote_of rates sum a).answer) × (p.cents ≡ (quote_of rates sum a).cents)
  quote-words = (
    renamed-words a w words p.number p.word ∙ ap (λ q. answer_words (record { number = q.number; word = q.word; cells = a.cells })) same-price,
    ap (λ q. q.cents) same-price,
  )
