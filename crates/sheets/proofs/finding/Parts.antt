-- The band of an amount in a checked sheet, from the band in its keys and words. Assumes nothing.
use mathlib.Core.Path.{◌≡◌, sym, ◌∙◌}
use mathlib.Core.List.{List}
use mathlib.Core.Option.{Option}
use Prim.Native.Nat.{ℕ, ◌+◌, ◌≤◌}
use native.Mathlib.Omega.{arith}
use native.Mathlib.Decide.{ℕ_discrete, dec_le}
use lib.ListN.{get_or}
use Rattle.base.specs.Lists.{view}
use Rattle.base.specs.Amounts.{most_lines, most_sum}
use Rattle.sorting.specs.Orders.{Ascending}
use Rattle.bands.specs.Bands.{Band, covers, band_of}
use Rattle.bands.proofs.SameBands.{covers-same, band-same}
use Rattle.bands.proofs.Theorems.{no-band}
use Rattle.sheets.specs.Keys.{key_bands, Legal}
use Rattle.sheets.specs.Checked.{head_lines, keys_in, words_in, Single, Checked}
use Rattle.sheets.proofs.finding.Ranges.{past-covers}

-- what is found in keys and words
abbrev pub Finds : List ℕ → List ℕ → ℕ → ℕ → Option Band → Type 0
Finds keys words class amount o = Legal words keys → Ascending keys → Single (key_bands words keys) class → o ≡ band_of (key_bands words keys) class amount

module _ (sheet : List ℕ) (class amount : ℕ) where
  abbrev held : List Band
  held = key_bands (words_in sheet) (keys_in sheet)

  module _ (d : ℕ) (bs : List Band) (k : Checked sheet d bs) where
    same : (a : ℕ) → covers held class a ≡ covers bs class a
    same a = covers-same bs held k.bands class a

    at_most_one : Dec (amount ≤ most_sum) → covers bs class amount ≤ 1
    at_most_one (yes h) = k.single class amount h
    at_most_one (no h) = omega (arith, same amount, past-covers (words_in sheet) (keys_in sheet) k.legal class amount (omega arith))

    -- the same bands hold the same amounts
    bands-alike : Dec (covers bs class amount ≡ 1) → band_of held class amount ≡ band_of bs class amount
    bands-alike (yes o) = band-same bs held k.bands class amount o
    bands-alike (no o) =
        let z : covers bs class amount ≡ 0 = omega (arith, at_most_one (dec_le amount most_sum)) in
        no-band held class amount (same amount ∙ z) ∙ sym (no-band bs class amount z)

    found_in : (o : Option Band) → Finds (keys_in sheet) (words_in sheet) class amount o → o ≡ band_of bs class amount
    found_in o f = f k.legal k.ascending (λ a h. omega (arith, same a, k.single class a h)) ∙ bands-alike (ℕ_discrete (covers bs class amount) 1)

  pub checked-band : (m : ℕ) → m ≡ head_lines (get_or sheet 0 0) → (o : Option Band) → Finds (view 1 m sheet) (view (1 + most_lines) most_lines sheet) class amount o
      → (d : ℕ) (bs : List Band) → Checked sheet d bs → o ≡ band_of bs class amount
  unfolding keys_in words_in
  checked-band m e o f d bs k = found_in d bs k o (rw e at f)
