-- Whether a line may state a band, test by test. Assumes nothing.
use mathlib.Core.Path.{◌≡◌}
use mathlib.Core.List.{List}
use mathlib.Core.Bool.{true, false, and-false}
use Prim.Native.Nat.{ℕ, ◌≤◌, ◌<◌}
use lib.ListN.{length, get_or}
use lib.Dec.{leb, ltb}
use borrow.Author.Tests.{le-leb, lt-leb, lt-ltb, le-ltb}
use Rattle.base.specs.Amounts.{most_sum, most_rate}
use Rattle.bands.specs.Bands.{Band, is_covered, is_class, is_band}

module _ (depths : List ℕ) (d class from to rate : ℕ) where
  abbrev stated : Band
  stated = record { class = class; from = from; to = to; rate = rate }

  pub past-entries : length depths ≤ class → false ≡ is_band depths d stated
  unfolding is_band is_class
  past-entries h = rw (le-ltb class (length depths) h)

  pub not_covered : is_covered d (get_or depths class 0) ≡ false → false ≡ is_band depths d stated
  unfolding is_band is_class
  not_covered e = rw (e, and-false (ltb class (length depths)))

  pub falling : to < from → false ≡ is_band depths d stated
  unfolding is_band
  falling h = rw (lt-leb from to h, and-false (is_class depths d class))

  pub past-amounts : most_sum < to → false ≡ is_band depths d stated
  unfolding is_band
  past-amounts h = rw (lt-leb to most_sum h, and-false (leb from to), and-false (is_class depths d class))

  pub but-rate : class < length depths → is_covered d (get_or depths class 0) ≡ true → from ≤ to → to ≤ most_sum → leb rate most_rate ≡ is_band depths d stated
  unfolding is_band is_class
  but-rate h e f t = rw (lt-ltb class (length depths) h, e, le-leb from to f, le-leb to most_sum t)
