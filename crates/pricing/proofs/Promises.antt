-- What a question with a sheet promises, from what the rating lookup does. Assumes nothing.
use mathlib.Core.Path.{◌≡◌, refl, sym, ap, ◌∙◌}
use mathlib.Core.List.{List, [], ◌∷◌}
use mathlib.Core.Bool.{true}
use mathlib.Core.Logic.{◌⊎◌, inl, inr}
use Prim.Native.Nat.{ℕ, ◌+◌, ◌≤◌, ◌<◌}
use native.Mathlib.Omega.{arith}
use native.Mathlib.Decide.{ℕ_discrete, dec_le}
use lib.ListN.{length, length-take, length-drop}
use lib.Seq.{ext_get_or}
use lib.IntN.{ℤ, nat_abs}
use Rattle.base.specs.Lists.{has, some?, view}
use Rattle.base.specs.Numbers.{accepted, gap}
use Rattle.base.specs.Amounts.{most_sum, most_rate}
use Rattle.base.proofs.Counts.{times}
use Rattle.base.proofs.Filters.{has-times, times-has}
use Rattle.base.proofs.Views.{view-at}
use Rattle.answers.specs.Answers.{outcome}
use Rattle.answers.specs.Promises.{Gives, Few}
use Rattle.answers.specs.declared.Answer.{Answer}
use Rattle.query.specs.StepOne.{step_one}
use Rattle.query.proofs.Ratings.{Rated}
use Rattle.query.proofs.StepOne.{step_same}
use Rattle.money.specs.Premium.{premium}
use Rattle.bands.specs.Bands.{Band}
use Rattle.sheets.specs.Verdicts.{naming, depths_in, check_to, bands_on}
use Rattle.sheets.specs.Texts.{sheet_of, bands_in}
use Rattle.sheets.specs.Checked.{level_in, Checked}
use Rattle.sheets.proofs.Theorems.{check-numbers}
use Rattle.pricing.specs.Quotes.{costing, refusing, class_price, sheet_price, quoted, price, looked, price_to, price_on}
use Rattle.pricing.specs.Promises.{SameDepths, Local, Right, Quotation}
use Rattle.pricing.specs.Parts.{Offer, BySheet}
use Rattle.pricing.specs.declared.prices.SheetPrice.{SheetPrice}
use Rattle.pricing.specs.declared.BandQuote.{BandQuote}
use Rattle.pricing.proofs.SheetPrices.{price-unfound, price-found}
use Rattle.pricing.proofs.Theorems.{price-right, price-numbers}

-- where cell 0 and DEPTH agree, the check is the same
module _ (t u : List ℕ) (l : length u ≡ length t) (s : SameDepths t u) where
  steps : step_one u ≡ step_one t
  steps = step_same t u l s.count

  abbrev n : ℕ
  n = (step_one t).word

  few : length (view 4 n t) ≤ n
  unfolding view
  few = simp length-take (omega arith)

  as_long : length (view 4 n u) ≡ length (view 4 n t)
  unfolding view
  as_long = simp (length-take, length-drop) (rw l)

  same_depths : depths_in u ≡ depths_in t
  unfolding depths_in
  same_depths =
      ap (λ o. view 4 o.word u) steps
      ∙ ext_get_or 0 (view 4 n u) (view 4 n t) as_long
      (λ i h. let k : i < n = omega (arith, few, as_long) in sym (view-at 4 n u i (4 + i) k refl) ∙ s.depths i k ∙ view-at 4 n t i (4 + i) k refl)

  pub same_check : (d : ℕ) (text : List ℕ) → check_to u d text ≡ check_to t d text
  unfolding check_to
  same_check d text = rw (steps, same_depths)

  pub same-bands : (d : ℕ) (text : List ℕ) → bands_on u d text ≡ bands_on t d text
  same-bands d text = ap (λ x. bands_in (sheet_of x d text)) same_depths

-- the lookup's answer is a
module _ (t : List ℕ) (v d : ℕ) (sum : ℤ) (a : Answer) where
  module _ (text : List ℕ) (asked : Rated t v d a) where
    abbrev quote : BandQuote
    quote = quoted (sheet_price (check_to t d text) (bands_on t d text) sum (outcome a)) a.cells

    is : quote ≡ price_to t text v d sum
    unfolding price_to
    is = ap (λ x. quoted (sheet_price (check_to t d text) (bands_on t d text) sum (outcome x)) x.cells) asked.0

    unfound : (u : List ℕ) → ((looked t v d).number ≡ 0 → ⊥) → sheet_price (check_to u d text) (bands_on u d text) sum (outcome a) ≡ refusing (naming (outcome a) 0)
    unfound u n = price-unfound (check_to u d text) (bands_on u d text) sum (outcome a) (λ e. n (ap (λ x. x.number) (sym asked.0) ∙ e))

    local : Local text v d sum t quote
    unfolding price_to
    local u l s =
        let e : looked u v d ≡ a = asked.1.1.1.0 u l s in
        record {
          lookup = e ∙ asked.0;
          cells = ap (λ x. x.cells) e;
          refusal = λ n.
              ap (λ x. quoted (sheet_price (check_to u d text) (bands_on u d text) sum (outcome x)) x.cells) e
              ∙ ap (λ p. quoted p a.cells) (unfound u n ∙ sym (unfound t n));
          quote = λ same.
              ap (λ x. quoted (sheet_price (check_to u d text) (bands_on u d text) sum (outcome x)) x.cells) e
              ∙ ap (λ w. quoted (sheet_price w (bands_on u d text) sum (outcome a)) a.cells) (same_check t u l same d text)
              ∙ ap (λ bs. quoted (sheet_price (check_to t d text) bs sum (outcome a)) a.cells) (same-bands t u l same d text);
        }

    pub promised : (quote ≡ price_to t text v d sum)
        × (Gives (0 ∷ 7 ∷ 9 ∷ 12 ∷ 13 ∷ 14 ∷ 15 ∷ []) quote.answer
        × (Few 10 quote.answer
        × (Local text v d sum t quote
        × Right (λ ps. price_on ps text v d sum) t quote)))
    promised = (
      is,
      (
        price-numbers (check_to t d text) (bands_on t d text) sum (outcome a) asked.1.0 (check-numbers t d text),
        (
          asked.1.1.0,
          (
            local,
            λ ps p. ap price is ∙ price-right ps t text v d sum p,
          ),
        ),
      ),
    )

-- a quotation from the words of a sheet
module _ (sheet t : List ℕ) (v : ℕ) (sum : ℤ) (a : Answer) (asked : Rated t v (level_in sheet) a) (p : SheetPrice) (by : BySheet sheet sum (outcome a) p) where
  abbrev d : ℕ
  d = level_in sheet

  prices : (text : List ℕ) → (check_to t d text).number ≡ 0 → Checked sheet d (bands_on t d text) → p ≡ sheet_price (check_to t d text) (bands_on t d text) sum (outcome a)
  prices text ok checked = go (ℕ_discrete a.number 0)
    where
      go : Dec (a.number ≡ 0) → p ≡ sheet_price (check_to t d text) (bands_on t d text) sum (outcome a)
      go (yes e) = by.priced e d (bands_on t d text) checked ∙ sym (price-found (check_to t d text) (bands_on t d text) sum (outcome a) e ok)
      go (no n) = by.refusal n ∙ sym (price-unfound (check_to t d text) (bands_on t d text) sum (outcome a) n)

  abbrev among : List ℕ
  among = 0 ∷ 7 ∷ 9 ∷ 12 ∷ 14 ∷ []

  -- an offer's numbers, and the lookup's
  offered : Offer sum a.word p → Dec (nat_abs sum ≤ most_sum) → has among p.number ≡ true
  unfolding some?
  offered o (no h) = rw (o.outside (omega arith)) refl
  offered o (yes h) = go (o.inside h)
    where
      go : (p ≡ refusing (naming (gap a.word) (nat_abs sum))) ⊎ ((rate : ℕ) × (rate ≤ most_rate) × (p ≡ costing (accepted a.word) (premium sum rate))) → has among p.number ≡ true
      go (inl e) = rw e refl
      go (inr (rate, l, e)) = rw e refl

  numbers : has among p.number ≡ true
  unfolding times
  numbers = go (ℕ_discrete a.number 0)
    where
      go : Dec (a.number ≡ 0) → has among p.number ≡ true
      go (yes e) = offered (by.offer e) (dec_le (nat_abs sum) most_sum)
      go (no n) = rw (by.refusal n) (times-has among a.number (omega (arith, has-times (0 ∷ 7 ∷ 9 ∷ []) a.number asked.1.0)))

  found : (looked t v d).number ≡ 0 → a.number ≡ 0
  found e = ap (λ x. x.number) asked.0 ∙ e

  pub quotation : Quotation sheet v sum t (quoted p a.cells)
  quotation = record {
    prices = λ text e ok checked. go text e checked.level ok checked;
    banded = λ e bs checked. held e bs checked.level checked;
    numbers = numbers;
    few = asked.1.1.0;
    cells = ap (λ x. x.cells) asked.0;
    refusal = λ n. ap (λ x. quoted x a.cells) (by.refusal (λ e. n (sym (ap (λ x. x.number) asked.0) ∙ e))) ∙ ap (λ x. quoted (refusing (naming (outcome x) 0)) x.cells) asked.0;
    offer = λ e. rw (← ap (λ x. x.word) asked.0) (by.offer (found e));
  }
    where
      go : (text : List ℕ) (e : ℕ) → d ≡ e → (check_to t e text).number ≡ 0 → Checked sheet e (bands_on t e text) → quoted p a.cells ≡ price_to t text v e sum
      go text e q = rw (← q) (λ ok checked. ap (λ x. quoted x a.cells) (prices text ok checked) ∙ (promised t v d sum a text asked).0)

      held : (e : ℕ) (bs : List Band) → d ≡ e → Checked sheet e bs → (looked t v e).number ≡ 0 → p ≡ class_price bs sum (looked t v e).word
      held e bs q = rw (← q) (λ checked z. by.priced (found z) d bs checked ∙ ap (λ x. class_price bs sum x.word) asked.0)
