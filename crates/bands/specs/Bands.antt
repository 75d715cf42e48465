-- Sheets with bands (2026-02, 2026-04): which amounts of a class the bands of a sheet hold, and the lowest fault. Assumes nothing.
use Rattle.std.specs.Prelude.{◌≡◌, List, Bool, true, false, not, cond, ◌&&◌, ℕ, ◌+◌, length, get_or, eqb, leb, ltb}
use Rattle.std.proofs.Math.Option.{Option, none, some, map, bind}
use Rattle.base.specs.Lists.{below, first, keep}
use Rattle.base.specs.Numbers.{Outcome, gap, overlap}
use Rattle.base.specs.Amounts.{most_sum, most_rate}

-- a line of a sheet, `class,from,to,rate`: the rate of a class for the amounts from `from` to `to`, ends included
pub record Band : Type 0 where
  pub class : ℕ
  pub from : ℕ
  pub to : ℕ
  pub rate : ℕ

-- "each entry of depth d or less as a class of its own": whether a sheet of rating level d is to cover an entry of that depth
unfoldable pub is_covered : ℕ → ℕ → Bool
is_covered d depth = leb depth d

-- and whether it is to cover entry c, by the depths of all entries
unfoldable pub is_class : List ℕ → ℕ → ℕ → Bool
is_class depths d c = ltb c (length depths) && is_covered d (get_or depths c 0)

-- a band that a line may state: "unknown class or wrong depth, from above to, to or rate over its limit" are bad, and "only a deeper class has the wrong depth"
unfoldable pub is_band : List ℕ → ℕ → Band → Bool
is_band depths d b = is_class depths d b.class && (leb b.from b.to && (leb b.to most_sum && leb b.rate most_rate))

-- whether a band holds amount a of class c
unfoldable pub holds : ℕ → ℕ → Band → Bool
holds c a b = eqb b.class c && (leb b.from a && leb a b.to)

-- how many bands of a sheet hold amount a of class c
unfoldable pub covers : List Band → ℕ → ℕ → ℕ
covers bs c a = length (keep (holds c a) bs)

-- the band that holds amount a of class c
unfoldable pub band_of : List Band → ℕ → ℕ → Option Band
band_of bs c a = first (holds c a) bs

-- "in one band only": an amount that is not is faulty
unfoldable pub faulty : List Band → ℕ → ℕ → Bool
faulty bs c a = not (eqb (covers bs c a) 1)

-- a class's lowest faulty amount, of "every amount from 0 to 2,000,000,000"
unfoldable pub lowest_faulty : List Band → ℕ → Option ℕ
lowest_faulty bs c = first (faulty bs c) (below (most_sum + 1) (λ a. a))

-- a fault: 14 or 15 with the class, and the amount
pub record Fault : Type 0 where
  pub outcome : Outcome
  pub amount : ℕ

-- "whichever the named amount has, a gap (14) or an overlap (15)"
unfoldable pub fault_at : List Band → ℕ → ℕ → Fault
fault_at bs c a = record { outcome = cond (eqb (covers bs c a) 0) (gap c) (overlap c); amount = a }

unfoldable pub class_fault : List Band → ℕ → Option Fault
class_fault bs c = map (fault_at bs c) (lowest_faulty bs c)

abbrev pub is_some {ℓ} : {A : Type ℓ} → Option A → Bool
is_some none = false
is_some (some x) = true

-- "the lowest class at fault and its lowest faulty amount"
unfoldable pub sheet_fault : List ℕ → ℕ → List Band → Option Fault
sheet_fault depths d bs = bind (first (λ c. is_class depths d c && is_some (class_fault bs c)) (below (length depths) (λ c. c))) (class_fault bs)

-- the same bands in another order, each as often: as many pass any test
abbrev pub SameBands : List Band → List Band → Type 0
SameBands bs cs = (test : Band → Bool) → length (keep test cs) ≡ length (keep test bs)
