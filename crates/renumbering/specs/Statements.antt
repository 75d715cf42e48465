-- The theorems of 2026-06, as statements: `proofs/Theorems` proves each. They are about what the code answers: the definitions are those that clause `answer` of preparing, of
-- the questions, of the premium, of the check and of the price names. Assumes nothing.
use Rattle.std.specs.Prelude.{◌≡◌, ◌↔◌, List, ℕ, ◌≤◌, ◌<◌, length, ℤ}
use Rattle.base.specs.Limits.{table_words, space_words}
use Rattle.tree.specs.Parents.{word}
use Rattle.table.specs.Preparing.{Accepted, Prepared, preparing}
use Rattle.answers.specs.Answers.{answer_to}
use Rattle.answers.specs.Steps.{level, climbing, rating, ancestry, branch}
use Rattle.premiums.specs.Quotes.{price, quote_to}
use Rattle.sheets.specs.Verdicts.{check_to}
use Rattle.pricing.specs.Quotes.{price_to, price as sheet_price}
use Rattle.renumbering.specs.Numbering.{Renumbering, Renumbered, SameRates}
use Rattle.renumbering.specs.Sheets.{SameSheets}
use Rattle.renumbering.specs.Alike.{SameClass, SameRelation, SamePrice, SameSheetPrice}

-- every list has its renumbered list under every renumbering, and has only one
abbrev pub EveryList : Type 0
EveryList = (r : ℕ → ℕ) (ps : List ℕ) → Renumbering (length ps) r → (qs : List ℕ) × Renumbered r ps qs

abbrev pub OneList : Type 0
OneList = (r : ℕ → ℕ) (ps qs os : List ℕ) → Renumbered r ps qs → Renumbered r ps os → qs ≡ os

-- its words are below m where those of the first list are: of 32 bits, say
abbrev pub SameWidth : Type 0
SameWidth = (r : ℕ → ℕ) (ps qs : List ℕ) → Renumbered r ps qs → (m : ℕ) → length ps ≤ m → ((v : ℕ) → v < length ps → word ps v < m) → (w : ℕ) → w < length qs → word qs w < m

-- every list of n rates has one that is renumbered alike
abbrev pub EveryRates : Type 0
EveryRates = (r : ℕ → ℕ) (n : ℕ) (rates : List ℕ) → Renumbering n r → length rates ≡ n → (others : List ℕ) × SameRates r n rates others

-- a table and a space of these lengths are long enough for n entries
pub record Room (n table space : ℕ) : Type 0 where
  pub words : table_words n ≤ table
  pub working : space_words n ≤ space

-- "one is accepted when the other is, with table and space long enough for both": preparing gives the same number, whatever that is. The entry that a refusal names is the
-- lowest, which goes by number
pub record SameAcceptance (ps qs : List ℕ) : Type 0 where
  pub accepted : Accepted ps ↔ Accepted qs
  pub number : (t s u w : ℕ) → Room (length ps) t s → Room (length ps) u w → (preparing qs u w).number ≡ (preparing ps t s).number

abbrev pub Acceptance : Type 0
Acceptance = (r : ℕ → ℕ) (ps qs : List ℕ) → Renumbered r ps qs → SameAcceptance ps qs

-- tables t and u, prepared from two lists that describe one tree under a renumbering
pub record TwoTables (r : ℕ → ℕ) (ps qs t u : List ℕ) : Type 0 where
  pub lists : Renumbered r ps qs
  pub first : Prepared ps t
  pub second : Prepared qs u

-- "each level lookup gives corresponding classes, and 8 for corresponding questions"; the other questions likewise
pub record SameClasses (r : ℕ → ℕ) (t u : List ℕ) : Type 0 where
  pub levels : (v d : ℕ) → SameClass 10 r (answer_to t (level (length t) v d)) (answer_to u (level (length u) (r v) d))
  pub climbs : (v k : ℕ) → SameClass 10 r (answer_to t (climbing (length t) v k)) (answer_to u (climbing (length u) (r v) k))
  pub ratings : (v d : ℕ) → SameClass 10 r (answer_to t (rating (length t) v d)) (answer_to u (rating (length u) (r v) d))
  pub branches : (x v : ℕ) → SameClass 15 r (answer_to t (branch (length t) x v)) (answer_to u (branch (length u) (r x) (r v)))
  pub ancestries : (x v : ℕ) → SameRelation (answer_to t (ancestry (length t) x v)) (answer_to u (ancestry (length u) (r x) (r v)))

abbrev pub Classes : Type 0
Classes = (r : ℕ → ℕ) (ps qs t u : List ℕ) → TwoTables r ps qs t u → SameClasses r t u

-- "this never changes a premium, with entries and sheets renumbered alike, for rate lists of n rates"
abbrev pub Premiums : Type 0
Premiums =
    (r : ℕ → ℕ) (ps qs t u rates others : List ℕ) → TwoTables r ps qs t u → SameRates r (length ps) rates others
    → (v d : ℕ) (sum : ℤ) → SamePrice r (price (quote_to t rates v d sum)) (price (quote_to u others (r v) d sum))

-- every accepted sheet has a sheet that is renumbered alike, under every renumbering
abbrev pub EverySheet : Type 0
EverySheet = (r : ℕ → ℕ) (ps t text : List ℕ) → Renumbering (length ps) r → Prepared ps t → (d : ℕ) → (check_to t d text).number ≡ 0 → (other : List ℕ) × SameSheets r text other

-- "and for accepted sheets of bands": one sheet is accepted just where the other is, and then each price is the same
abbrev pub SheetAcceptance : Type 0
SheetAcceptance =
    (r : ℕ → ℕ) (ps qs t u text other : List ℕ) → TwoTables r ps qs t u → SameSheets r text other
    → (d : ℕ) → ((check_to t d text).number ≡ 0) ↔ ((check_to u d other).number ≡ 0)

abbrev pub Prices : Type 0
Prices =
    (r : ℕ → ℕ) (ps qs t u text other : List ℕ) → TwoTables r ps qs t u → SameSheets r text other
    → (d : ℕ) → (check_to t d text).number ≡ 0
    → (v : ℕ) (sum : ℤ) → SameSheetPrice r (sheet_price (price_to t text v d sum)) (sheet_price (price_to u other (r v) d sum))
