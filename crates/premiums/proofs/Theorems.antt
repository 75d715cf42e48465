-- What a premium question's price is: each case of it, when there is a premium, and the numbers. Assumes nothing.
use mathlib.Core.Path.{◌≡◌, refl, ap, ◌∙◌}
use mathlib.Core.Logic.{◌↔◌}
use mathlib.Core.Bool.{true}
use mathlib.Core.List.{List, [], ◌∷◌, ◌++◌}
use Prim.Native.Nat.{ℕ, ◌+◌, ◌≤◌, ◌<◌}
use native.Mathlib.Omega.{arith}
use native.Mathlib.Decide.{ℕ_discrete, dec_le, dec_lt}
use lib.ListN.{length, get_or}
use lib.IntN.{ℤ, pos, nat_abs}
use Rattle.base.specs.Lists.{has}
use Rattle.base.specs.Numbers.{Outcome, accepted}
use Rattle.base.specs.Amounts.{most_rate, most_sum}
use Rattle.base.proofs.Counts.{times, times-append}
use Rattle.base.proofs.Filters.{has-times, times-has}
use Rattle.base.specs.Limits.{top_mark}
use Rattle.tree.specs.Level.{RatingClass}
use Rattle.tree.specs.Faults.{Tree}
use Rattle.tree.specs.Questions.{rating_of}
use Rattle.tree.proofs.Meanings.{rating-class}
use Rattle.table.specs.Preparing.{Prepared}
use Rattle.answers.specs.Answers.{answer_to}
use Rattle.climbs.proofs.TableWords.{small, tree}
use Rattle.climbs.proofs.Questions.{rating-right}
use Rattle.money.specs.Premium.{premium}
use Rattle.money.specs.Prices.{costing}
use Rattle.money.specs.declared.Price.{Price}
use Rattle.money.proofs.Prices.{priced-over, priced-outside, priced-within}
use Rattle.premiums.specs.Quotes.{price_of, price, quote_to}
use Rattle.premiums.specs.Cases.{Rated, Case, unfound, past, over, outside, paid}
use Rattle.premiums.proofs.Pricing.{class-past, class-listed, price-unfound, price-found}

module _ (rates : List ℕ) (sum : ℤ) (o : Outcome) where
  -- every price comes by one of the cases
  pub cases : Case rates sum o (price_of rates sum o)
  cases = go (ℕ_discrete o.number 0) (dec_lt o.word (length rates)) (dec_le (get_or rates o.word 0) most_rate) (dec_le (nat_abs sum) most_sum)
    where
      go : Dec (o.number ≡ 0) → Dec (o.word < length rates) → Dec (get_or rates o.word 0 ≤ most_rate) → Dec (nat_abs sum ≤ most_sum) → Case rates sum o (price_of rates sum o)
      go (no n) l h k = rw (price-unfound rates sum o n) (unfound n)
      go (yes e) (no l) h k = let l : length rates ≤ o.word = omega arith in rw (price-found rates sum o e, class-past rates sum o.word l) (past e l)
      go (yes e) (yes l) (no h) k =
          let h : most_rate < get_or rates o.word 0 = omega arith in
          rw (price-found rates sum o e, class-listed rates sum o.word l, priced-over o.word _ sum h) (over e l h)
      go (yes e) (yes l) (yes h) (no k) =
          let k : most_sum < nat_abs sum = omega arith in
          rw (price-found rates sum o e, class-listed rates sum o.word l, priced-outside o.word _ sum h k) (outside (record { found = e; listed = l; limit = h }) k)
      go (yes e) (yes l) (yes h) (yes k) =
          rw (price-found rates sum o e, class-listed rates sum o.word l, priced-within o.word _ sum h k) (paid (record { found = e; listed = l; limit = h }) k)

  -- there is a premium just where a class is found and rated, and the sum is in its range
  paid-only : (p : Price) → Case rates sum o p → p.number ≡ 0 → Rated rates o × (nat_abs sum ≤ most_sum)
  paid-only p (unfound n) e = absurd (n e)
  paid-only p (past f l) e = absurd (omega (arith, e))
  paid-only p (over f l h) e = absurd (omega (arith, e))
  paid-only p (outside r k) e = absurd (omega (arith, e))
  paid-only p (paid r k) e = (r, k)

  -- it is then that of the class's rate
  pub paid-is : Rated rates o → nat_abs sum ≤ most_sum → price_of rates sum o ≡ costing (accepted o.word) (premium sum (get_or rates o.word 0))
  paid-is r k = price-found rates sum o r.found ∙ class-listed rates sum o.word r.listed ∙ priced-within o.word _ sum r.limit k

  pub paid-iff : (price_of rates sum o).number ≡ 0 ↔ (Rated rates o × (nat_abs sum ≤ most_sum))
  paid-iff = (paid-only (price_of rates sum o) cases, λ (r, k). ap (λ p. p.number) (paid-is r k))

  -- a refused price has no cents
  refused-free : (p : Price) → Case rates sum o p → (p.number ≡ 0 → ⊥) → p.cents.0 ≡ pos 0
  refused-free p (unfound n) e = refl
  refused-free p (past f l) e = refl
  refused-free p (over f l h) e = refl
  refused-free p (outside r k) e = refl
  refused-free p (paid r k) e = absurd (e refl)

  pub refused-cents : ((price_of rates sum o).number ≡ 0 → ⊥) → (price_of rates sum o).cents.0 ≡ pos 0
  refused-cents = refused-free (price_of rates sum o) cases

  -- the lookup's numbers, 11 and 12
  module _ (ns : List ℕ) (zero : has ns 0 ≡ true) (looked : has ns o.number ≡ true) where
    among : (x : ℕ) → 1 ≤ times x ns + times x (11 ∷ 12 ∷ []) → has (ns ++ (11 ∷ 12 ∷ [])) x ≡ true
    among x h = times-has (ns ++ (11 ∷ 12 ∷ [])) x (rw (times-append x ns (11 ∷ 12 ∷ [])) h)

    case-numbers : (p : Price) → Case rates sum o p → has (ns ++ (11 ∷ 12 ∷ [])) p.number ≡ true
    unfolding times
    case-numbers p (unfound n) = among o.number (omega (arith, has-times ns o.number looked))
    case-numbers p (past f l) = among 11 (omega arith)
    case-numbers p (over f l h) = among 11 (omega arith)
    case-numbers p (outside r k) = among 12 (omega arith)
    case-numbers p (paid r k) = among 0 (omega (arith, has-times ns 0 zero))

    pub price-numbers : has (ns ++ (11 ∷ 12 ∷ [])) (price_of rates sum o).number ≡ true
    price-numbers = case-numbers (price_of rates sum o) cases

-- on a prepared table the price is what it means on the list
pub premium-right : (ps t rates : List ℕ) (v d : ℕ) (sum : ℤ) → Prepared ps t → price (quote_to t rates v d sum) ≡ price_of rates sum (rating_of ps v d)
unfolding quote_to answer_to
premium-right ps t rates v d sum p = ap (price_of rates sum) (rating-right ps t p v d)

-- where the rate of the class u of an entry is legal, every legal sum has its premium, at u's rate
module _ (ps rates : List ℕ) (sum : ℤ) (v d u : ℕ) (listed : u < length rates) (limit : get_or rates u 0 ≤ most_rate) (legal : nat_abs sum ≤ most_sum) where
  pub rated-premium : length ps ≤ top_mark → Tree ps → RatingClass ps v d u → price_of rates sum (rating_of ps v d) ≡ costing (accepted u) (premium sum (get_or rates u 0))
  rated-premium small tree c = ap (price_of rates sum) (rating-class ps small tree v d u c) ∙ paid-is rates sum (accepted u) (record { found = refl; listed = listed; limit = limit }) legal

-- and so on a table prepared from the list
pub prepared-premium : (ps t rates : List ℕ) (sum : ℤ) (v d u : ℕ) → Prepared ps t → RatingClass ps v d u → u < length rates → get_or rates u 0 ≤ most_rate → nat_abs sum ≤ most_sum
    → price (quote_to t rates v d sum) ≡ costing (accepted u) (premium sum (get_or rates u 0))
prepared-premium ps t rates sum v d u p c h k s = premium-right ps t rates v d sum p ∙ rated-premium ps rates sum v d u h k s (small ps t p) (tree ps t p) c
