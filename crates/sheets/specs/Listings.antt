-- What the reading of a sheet's lines hands on. Assumes nothing.
use Rattle.std.specs.Prelude.{◌≡◌, List, [], ◌∷◌, ◌++◌, ℕ, suc, ◌+◌, ◌≤◌, length, Option, Some, None, Result, Ok, Err}
use Rattle.base.specs.Amounts.{most_lines}
use Rattle.bands.specs.Bands.{Band}
use Rattle.lines.specs.Text.{line_feed}
use Rattle.lines.specs.Results.{ReadTo, NoneTo}
use Rattle.sheets.specs.Texts.{Sheet, bad, whole, line_band}
use Rattle.sheets.specs.Keys.{Stored}
use Rattle.base.specs.declared.refusals.Refusal.{Refusal}
use Rattle.base.specs.declared.refusals.Refusal.TheVariants.{BadLine}

-- line k + 1, which begins at a place of a text, was read: its band is stored behind the others, or it has none
abbrev pub LineRead : List ℕ → ℕ → ℕ → List ℕ → ℕ → List ℕ → List ℕ → List ℕ → List ℕ → Option ℕ → Type 0
LineRead depths d k text at words keys words' keys' (Some next) =
    (b : Band) × ReadTo (line_band depths d (suc k)) text line_feed at b next × ((bs : List Band) → Stored words keys k bs → Stored words' keys' (k + 1) (bs ++ (b ∷ [])))
LineRead depths d k text at words keys words' keys' None = NoneTo (line_band depths d (suc k)) text line_feed at

-- the lines of a text were read: the first bad one, or how many they are, with their bands
abbrev pub ListingOf : Sheet → Result ℕ Refusal → List ℕ → List ℕ → Type 0
ListingOf s (Ok m) words keys = (bs : List Band) × (s ≡ whole bs) × (length bs ≡ m) × (m ≤ most_lines) × Stored words keys m bs
ListingOf s (Err refusal) words keys = (k : ℕ) × (refusal ≡ BadLine k) × (s ≡ bad k)
