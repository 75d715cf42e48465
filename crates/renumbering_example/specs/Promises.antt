-- What is promised of the premiums that two offices are told: one definition a clause. Assumes nothing.
use Rattle.std.specs.Prelude.{◌≡◌, ℕ, ◌≤◌, ◌<◌, length, get_or, ℤ, nat_abs}
use Rattle.base.specs.Numbers.{accepted}
use Rattle.base.specs.Limits.{most_entries}
use Rattle.base.specs.Amounts.{most_rate, most_sum}
use Rattle.tree.specs.Faults.{Tree}
use Rattle.tree.specs.Level.{RatingClass}
use Rattle.money.specs.Premium.{premium}
use Rattle.money.specs.Prices.{costing}
use Rattle.money.specs.declared.Price.{Price}
use Rattle.sheets.specs.Verdicts.{depths_of, Good}
use Rattle.pricing.specs.Promises.{Priced}
use Rattle.pricing.specs.declared.prices.SheetPrice.{SheetPrice}
use Rattle.renumbering.specs.Numbering.{Renumbered, SameRates}
use Rattle.renumbering.specs.Sheets.{SameSheets}
use Rattle.renumbering.specs.Alike.{SamePremium, paid_of}
use Rattle.renumbering.specs.Statements.{Room}
use Rattle.renumbering_example.specs.Offices.{Office}

-- two offices ask for one entry of one tree: under renumbering r their lists are one tree and the entries correspond, and table and space are long enough for both
pub record OneEntry (r : ℕ → ℕ) (first second : Office) : Type 0 where
  pub lists : Renumbered r first.list second.list
  pub entries : second.entry ≡ r first.entry
  pub room : Room (length first.list) first.table first.space
  pub other-room : Room (length first.list) second.table second.space

-- then, whatever the lists are, numbers and cents are equal by rates renumbered alike
abbrev pub SamePremiums : Office → Office → Price → Price → Type 0
SamePremiums first second p q = (r : ℕ → ℕ) → OneEntry r first second → SameRates r (length first.list) first.tariff second.tariff → SamePremium r p q

-- and by sheets renumbered alike, of which the first is one to be accepted
abbrev pub SamePrices : ℕ → Office → Office → SheetPrice → SheetPrice → Type 0
SamePrices d first second p q = (r : ℕ → ℕ) → OneEntry r first second → SameSheets r first.tariff second.tariff → Good (depths_of first.list) d first.tariff → SamePremium r (paid_of p) (paid_of q)

-- an office's list has at most 1,048,576 entries and forms one tree that holds its entry, and table and space are long enough
pub record Known (o : Office) : Type 0 where
  pub tree : Tree o.list
  pub most : length o.list ≤ most_entries
  pub entry : o.entry < length o.list
  pub room : Room (length o.list) o.table o.space

-- the entry has a class, and where the class's rate is in the list and within its limit and the sum is legal: number 0, that class and the cents at that rate
pub record PaidByRate (o : Office) (d : ℕ) (sum : ℤ) (p : Price) : Type 0 where
  pub class : ℕ
  pub rated : RatingClass o.list o.entry d class
  pub paid : class < length o.tariff → get_or o.tariff class 0 ≤ most_rate → nat_abs sum ≤ most_sum → p ≡ costing (accepted class) (premium sum (get_or o.tariff class 0))

abbrev pub PaidPremium : Office → ℕ → ℤ → Price → Type 0
PaidPremium o d sum p = Known o → PaidByRate o d sum p

-- and every legal sum its price by a sheet that is to be accepted
abbrev pub PaidPrice : Office → ℕ → ℤ → SheetPrice → Type 0
PaidPrice o d sum p = Known o → Good (depths_of o.list) d o.tariff → nat_abs sum ≤ most_sum → Priced o.list o.tariff o.entry d sum p
