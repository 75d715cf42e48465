-- The promise of an accepted sheet, and the numbers of a price. Assumes nothing.
use mathlib.Core.Path.{◌≡◌, refl, ap, ◌∙◌}
use mathlib.Core.Bool.{true}
use mathlib.Core.List.{List, [], ◌∷◌}
use mathlib.Core.Option.{Option, none, some}
use Prim.Native.Nat.{ℕ, ◌≤◌, ◌<◌}
use native.Mathlib.Omega.{arith}
use native.Mathlib.Decide.{ℕ_discrete, dec_le}
use lib.ListN.{length}
use lib.IntN.{ℤ, nat_abs}
use Rattle.base.specs.Lists.{has, some?}
use Rattle.base.specs.Numbers.{Outcome, accepted}
use Rattle.base.specs.Limits.{top_mark}
use Rattle.base.specs.Amounts.{most_sum}
use Rattle.base.proofs.Counts.{times}
use Rattle.base.proofs.Filters.{has-times, times-has}
use Rattle.tree.specs.Faults.{Tree}
use Rattle.tree.specs.Questions.{rating_of}
use Rattle.tree.proofs.Meanings.{rating-class, rating-depth, has-class}
use Rattle.table.specs.Preparing.{Prepared}
use Rattle.answers.specs.Answers.{answer_to}
use Rattle.climbs.proofs.TableWords.{small, tree}
use Rattle.climbs.proofs.Questions.{rating-right}
use Rattle.bands.specs.Bands.{Band, band_of}
use Rattle.bands.proofs.Theorems.{accepted-band}
use Rattle.sheets.specs.Texts.{sheet_of, bands_in}
use Rattle.sheets.specs.Verdicts.{Verdict, verdict, depths_of, check_to, bands_on, Good}
use Rattle.sheets.proofs.Theorems.{good-verdict, check-right, checked-good, depths-right, covered-iff}
use Rattle.pricing.specs.Promises.{Priced}
use Rattle.pricing.specs.Quotes.{class_price, sheet_price, price, looked, price_to, price_on}
use Rattle.pricing.proofs.SheetPrices.{class-outside, class-unheld, class-held, price-unfound, price-refused, price-found}

-- on a prepared table the price is what it means on the list
pub price-right : (ps t text : List ℕ) (v d : ℕ) (sum : ℤ) → Prepared ps t → price (price_to t text v d sum) ≡ price_on ps text v d sum
unfolding price_to price_on answer_to
price-right ps t text v d sum p =
    ap (λ o. sheet_price (check_to t d text) (bands_on t d text) sum o) (rating-right ps t p v d)
    ∙ ap (λ w. sheet_price w (bands_on t d text) sum (rating_of ps v d)) (check-right ps t p d text)
    ∙ ap (λ l. sheet_price (verdict (depths_of ps) d text) (bands_in (sheet_of l d text)) sum (rating_of ps v d)) (depths-right ps t p)

-- by a good sheet an entry's price is that of its class by the sheet's bands
pub good-price : (ps text : List ℕ) (v d : ℕ) (sum : ℤ) (u : ℕ) (g : Good (depths_of ps) d text) → rating_of ps v d ≡ accepted u → price_on ps text v d sum ≡ class_price g.bands sum u
unfolding price_on
good-price ps text v d sum u g e =
    ap (sheet_price (verdict (depths_of ps) d text) (bands_in (sheet_of (depths_of ps) d text)) sum) e
    ∙ price-found (verdict (depths_of ps) d text) (bands_in (sheet_of (depths_of ps) d text)) sum (accepted u) refl (ap (λ w. w.number) (good-verdict (depths_of ps) d text g))
    ∙ ap (λ s. class_price (bands_in s) sum u) g.lines

-- so every entry and every legal sum has its price by a good sheet
pub good-prices : (ps text : List ℕ) (v d : ℕ) (sum : ℤ) → length ps ≤ top_mark → Tree ps → v < length ps → Good (depths_of ps) d text → nat_abs sum ≤ most_sum → Priced ps text v d sum (price_on ps text v d sum)
good-prices ps text v d sum small tree known g legal =
    let (u, c) = has-class ps small tree v d known in
    let covered = (covered-iff ps d u).1 (rating-depth ps small tree v d u c) in
    let (b, e, h) = accepted-band (depths_of ps) d g.bands g.once u covered (nat_abs sum) legal in
    record {
      class = u;
      rated = c;
      sheet = g;
      band = b;
      held = h;
      only = g.once.once u covered (nat_abs sum) legal;
      found = e;
      priced = good-price ps text v d sum u g (rating-class ps small tree v d u c) ∙ class-held g.bands sum u legal b e;
    }

-- and on a table prepared from the list, where the check accepts the sheet
pub accepted-prices : (ps t text : List ℕ) (v d : ℕ) (sum : ℤ) → Prepared ps t → v < length ps → (check_to t d text).number ≡ 0 → nat_abs sum ≤ most_sum → Priced ps text v d sum (price (price_to t text v d sum))
accepted-prices ps t text v d sum p known ok legal =
    rw (price-right ps t text v d sum p) (good-prices ps text v d sum (small ps t p) (tree ps t p) known ((checked-good ps t p d text).0 ok) legal)

-- the numbers
class-numbers : (bs : List Band) (sum : ℤ) (c : ℕ) → has (0 ∷ 12 ∷ 14 ∷ []) (class_price bs sum c).number ≡ true
unfolding some?
class-numbers bs sum c = go (dec_le (nat_abs sum) most_sum) (band_of bs c (nat_abs sum)) refl
  where
    go : Dec (nat_abs sum ≤ most_sum) → (o : Option Band) → band_of bs c (nat_abs sum) ≡ o → has (0 ∷ 12 ∷ 14 ∷ []) (class_price bs sum c).number ≡ true
    go (no h) o e = rw (class-outside bs sum c (omega arith))
    go (yes h) none e = rw (class-unheld bs sum c h e)
    go (yes h) (some b) e = rw (class-held bs sum c h b e)

module _ (w : Verdict) (bs : List Band) (sum : ℤ) (o : Outcome) where
  abbrev numbers : List ℕ
  numbers = 0 ∷ 7 ∷ 9 ∷ 12 ∷ 13 ∷ 14 ∷ 15 ∷ []

  pub price-numbers : has (0 ∷ 7 ∷ 9 ∷ []) o.number ≡ true → has (0 ∷ 9 ∷ 13 ∷ 14 ∷ 15 ∷ []) w.number ≡ true → has numbers (sheet_price w bs sum o).number ≡ true
  unfolding times
  price-numbers looked checked = go (ℕ_discrete o.number 0) (ℕ_discrete w.number 0)
    where
      go : Dec (o.number ≡ 0) → Dec (w.number ≡ 0) → has numbers (sheet_price w bs sum o).number ≡ true
      go (no n) z = rw (price-unfound w bs sum o n) (times-has numbers o.number (omega (arith, has-times (0 ∷ 7 ∷ 9 ∷ []) o.number looked)))
      go (yes e) (no z) = rw (price-refused w bs sum o e z) (times-has numbers w.number (omega (arith, has-times (0 ∷ 9 ∷ 13 ∷ 14 ∷ 15 ∷ []) w.number checked)))
      go (yes e) (yes z) =
          rw (price-found w bs sum o e z)
          (times-has numbers (class_price bs sum o.word).number (omega (arith, has-times (0 ∷ 12 ∷ 14 ∷ []) (class_price bs sum o.word).number (class-numbers bs sum o.word))))
