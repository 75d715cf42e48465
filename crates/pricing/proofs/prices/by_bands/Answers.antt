-- `prices::by_bands` meets its contract. Assumes nothing.
use mathlib.Core.Path.{sym, ap, ◌∙◌}
use mathlib.Core.Logic.{inl, inr}
use native.Mathlib.Omega.{arith}
use Rattle.base.specs.Numbers.{gap}
use Rattle.bands.specs.Bands.{band_of}
use Rattle.sheets.specs.Verdicts.{naming}
use Rattle.sheets.specs.Parts.{found_band}
use Rattle.money.specs.declared.Price.{Price}
use Rattle.money.proofs.Prices.{priced-within}
use Rattle.pricing.specs.Quotes.{refusing}
use Rattle.pricing.specs.declared.prices.SheetPrice.{SheetPrice}
use Rattle.pricing.proofs.SheetPrices.{class-outside, class-unheld, class-held}
use Rattle.pricing.proofs.prices.by_bands.Goals as goal

pub returns-then-amount-gt-MOST_SUM : goal.returns-then-amount-gt-MOST_SUM
returns-then-amount-gt-MOST_SUM c =
    record { priced = (λ d bs k. c.refused.ensures ∙ sym (class-outside bs _ _ (omega (arith, c.size-amount.ensures)))); offer = record { outside = λ h. c.refused.ensures; inside = λ h. absurd (omega (arith, h, c.size-amount.ensures)) } }

-- a price at a rate names no amount
abbrev unnamed : Price → SheetPrice
unnamed q = record { number = q.number; word = q.word; amount = 0; cents = q.cents }

-- the amount's band, from what was found
pub returns : goal.returns
returns c =
    let within = rw c.in-Some.is at c.find.ensures.limit in
    let is = ap unnamed (c.priced-price.ensures ∙ priced-within _ _ _ within (omega (arith, c.size-amount.ensures))) in record {
      priced = (λ d bs k.
          is
          ∙ sym (class-held bs c.args.sum.0 c.args.class (omega (arith, c.size-amount.ensures)) _
          (sym (ap (found_band c.args.class) (sym c.in-Some.is) ∙ c.find.ensures.found d bs k ∙ ap (band_of bs c.args.class) c.size-amount.ensures))));
      offer = record { outside = λ h. absurd (omega (arith, h, c.size-amount.ensures)); inside = λ h. inr (_, within, is) };
    }

pub returns-in_default : goal.returns-in_default
returns-in_default c =
    let is = c.refused-in_default.ensures ∙ ap (λ x. refusing (naming (gap c.args.class) x)) c.size-amount.ensures in record {
      priced = (λ d bs k.
          is
          ∙ sym (class-unheld bs c.args.sum.0 c.args.class (omega (arith, c.size-amount.ensures))
          (sym (ap (found_band c.args.class) (sym c.in_default.is) ∙ c.find.ensures.found d bs k ∙ ap (band_of bs c.args.class) c.size-amount.ensures))));
      offer = record { outside = λ h. absurd (omega (arith, h, c.size-amount.ensures)); inside = λ h. inl is };
    }
