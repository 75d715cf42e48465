-- What it is for two answers to be alike under a renumbering r: the first to an entry of one list, the second to its new number in the other. Nothing is said of which
-- cells an answer lists: "The cells listed may differ, since ties go by number." Assumes nothing.
use Rattle.std.specs.Prelude.{◌≡◌, ℕ}
use Rattle.answers.specs.Promises.{Few}
use Rattle.answers.specs.declared.Answer.{Answer}
use Rattle.money.specs.declared.Price.{Price}
use Rattle.pricing.specs.declared.prices.SheetPrice.{SheetPrice}

-- the same number, and what the first names, a class or the entry of a refusal, the second names by its new number. "The ten-cell limit is for each table by itself": so is
-- that of fifteen for a branch
pub record SameClass (most : ℕ) (r : ℕ → ℕ) (first second : Answer) : Type 0 where
  pub number : second.number ≡ first.number
  pub named : second.word ≡ r first.word
  pub few : Few most first
  pub other-few : Few most second

-- of ancestry, whose word is 1 or 0, or names a number that is no entry's
pub record SameRelation (first second : Answer) : Type 0 where
  pub number : second.number ≡ first.number
  pub word : second.word ≡ first.word
  pub few : Few 4 first
  pub other-few : Few 4 second

-- "this never changes a premium": the same number and the same cents, and the class renumbered
pub record SamePremium (r : ℕ → ℕ) (first second : Price) : Type 0 where
  pub number : second.number ≡ first.number
  pub cents : second.cents ≡ first.cents
  pub class : first.number ≡ 0 → second.word ≡ r first.word

-- and of a refusal the same name: 7 names a number that is no entry's and stays, 11 and 12 name 0
pub record SamePrice (r : ℕ → ℕ) (first second : Price) : Type 0 where
  pub premium : SamePremium r first second
  pub refusal : (first.number ≡ 0 → ⊥) → second.word ≡ first.word

-- the same of prices by a sheet, with the amount besides, which 14 and 15 name and which is 0 else
abbrev pub paid_of : SheetPrice → Price
paid_of p = record { number = p.number; word = p.word; cents = p.cents }

pub record SameSheetPrice (r : ℕ → ℕ) (first second : SheetPrice) : Type 0 where
  pub price : SamePrice r (paid_of first) (paid_of second)
  pub amount : second.amount ≡ first.amount
