-- What a sum costs in a class and in the class renumbered, by rates and by bands renumbered alike. Assumes nothing.
use mathlib.Core.Path.{◌≡◌, refl, ap, ◌∙◌}
use mathlib.Core.List.{List, map}
use mathlib.Core.Bool.{Bool, true, false, cond}
use mathlib.Core.Option
use mathlib.Core.Option.{some}
use Prim.Native.Nat.{ℕ, ◌≤◌, ◌<◌}
use native.Mathlib.Omega.{arith}
use native.Mathlib.Decide.{ℕ_discrete, dec_le}
use lib.ListN.{get_or}
use lib.Dec.{leb}
use lib.IntN.{ℤ, nat_abs}
use Rattle.base.specs.Numbers.{Outcome, accepted, bad_rate, bad_sum}
use Rattle.base.specs.Amounts.{most_rate, most_sum, legal_sum}
use Rattle.money.specs.Premium.{premium}
use Rattle.money.specs.Prices.{costing, refused, priced}
use Rattle.premiums.specs.Quotes.{price_of}
use Rattle.premiums.proofs.Pricing.{class-listed, price-unfound, price-found}
use Rattle.base.proofs.Singles.{first_found}
use Rattle.bands.specs.Bands.{Band, holds, covers, band_of, SameBands}
use Rattle.sheets.specs.Verdicts.{naming}
use Rattle.pricing.specs.Quotes.{refusing, class_price}
use Rattle.pricing.proofs.SheetPrices.{class-outside, class-held}
use Rattle.renumbering.specs.Numbering.{Renumbering, SameRates}
use Rattle.renumbering.specs.Sheets.{renumbered}
use Rattle.renumbering.specs.Alike.{SamePrice, SameSheetPrice}
use Rattle.renumbering.proofs.Meanings.{renamed}
use Rattle.renumbering.proofs.Bands.{band-new}

-- what is refused alike, and what is paid for a class and its new number
pub refused-alike : (r : ℕ → ℕ) (o i : Outcome) → (o.number ≡ 0 → ⊥) → i.number ≡ o.number → i.word ≡ o.word → SamePrice r (refused o) (refused i)
refused-alike r o i n number word = record { premium = record { number = number; cents = refl; class = λ z. absurd (n z) }; refusal = λ z. word }

pub paid-alike : (r : ℕ → ℕ) (u : ℕ) (c : ℤ) → SamePrice r (costing (accepted u) c) (costing (accepted (r u)) c)
paid-alike r u c = record { premium = record { number = refl; cents = refl; class = λ z. refl }; refusal = λ z. absurd (z refl) }

pub priced-alike : (r : ℕ → ℕ) (u rate : ℕ) (sum : ℤ) → SamePrice r (priced u rate sum) (priced (r u) rate sum)
unfolding priced
priced-alike r u rate sum = go (leb rate most_rate) (legal_sum sum)
  where
    go : (a b : Bool)
        → SamePrice r (cond a (cond b (costing (accepted u) (premium sum rate)) (refused bad_sum)) (refused bad_rate)) (cond a (cond b (costing (accepted (r u)) (premium sum rate)) (refused bad_sum)) (refused bad_rate))
    go true true = paid-alike r u (premium sum rate)
    go true false = refused-alike r bad_sum bad_sum (λ z. omega (arith, z)) refl refl
    go false b = refused-alike r bad_rate bad_rate (λ z. omega (arith, z)) refl refl

-- by rates, behind a lookup of an entry's class, or of a number that is no entry's
pub rates-alike : (r : ℕ → ℕ) (n : ℕ) (rates others : List ℕ) → Renumbering n r → SameRates r n rates others → (sum : ℤ) (o : Outcome)
    → (o.number ≡ 0 → o.word < n) → ((o.number ≡ 0 → ⊥) → r o.word ≡ o.word) → SamePrice r (price_of rates sum o) (price_of others sum (renamed r o))
rates-alike r n rates others p same sum o entry stays = go (ℕ_discrete o.number 0)
  where
    go : Dec (o.number ≡ 0) → SamePrice r (price_of rates sum o) (price_of others sum (renamed r o))
    go (no z) = rw (price-unfound rates sum o z, price-unfound others sum (renamed r o) z) (refused-alike r o (renamed r o) z refl (stays z))
    go (yes z) =
        let u = o.word in
        let h : u < n = entry z in
        rw (price-found rates sum o z, class-listed rates sum u (omega (arith, same.size)), price-found others sum (renamed r o) z, class-listed others sum (r u) (omega (arith, same.other-size, p.within u h)), same.words u h)
        (priced-alike r u (get_or rates u 0) sum)

-- by bands, of a class whose amounts are each in one band
pub refusing-alike : (r : ℕ → ℕ) (o i : Outcome) → (o.number ≡ 0 → ⊥) → i.number ≡ o.number → i.word ≡ o.word → SameSheetPrice r (refusing (naming o 0)) (refusing (naming i 0))
refusing-alike r o i n number word = record { price = refused-alike r o i n number word; amount = refl }

pub bands-alike : (r : ℕ → ℕ) (n : ℕ) (p : Renumbering n r) (bs cs : List Band) → SameBands (map (renumbered r) bs) cs → (sum : ℤ) (u : ℕ)
    → ((a : ℕ) → a ≤ most_sum → covers bs u a ≡ 1) → SameSheetPrice r (class_price bs sum u) (class_price cs sum (r u))
unfolding covers band_of
bands-alike r n p bs cs same sum u once = go (dec_le (nat_abs sum) most_sum)
  where
    go : Dec (nat_abs sum ≤ most_sum) → SameSheetPrice r (class_price bs sum u) (class_price cs sum (r u))
    go (no h) =
        let outside : most_sum < nat_abs sum = omega arith in
        rw (class-outside bs sum u outside, class-outside cs sum (r u) outside) (refusing-alike r bad_sum bad_sum (λ z. omega (arith, z)) refl refl)
    go (yes h) =
        let (b, found, held) = first_found (holds u (nat_abs sum)) bs (omega (arith, once (nat_abs sum) h)) in
        let other : band_of cs (r u) (nat_abs sum) ≡ some (renumbered r b) = band-new n r p bs cs same u (nat_abs sum) (once (nat_abs sum) h) ∙ ap (Option.map (renumbered r)) found in
        rw (class-held bs sum u h b found, class-held cs sum (r u) h (renumbered r b) other) (record { price = paid-alike r u (premium sum b.rate); amount = refl })
