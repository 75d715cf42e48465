-- A sheet is a text of lines `class,from,to,rate`: its bands, or its first bad line (2026-02). Assumes nothing.
use Rattle.std.specs.Prelude.{List, [], ◌∷◌, ◌++◌, cond, ℕ, suc, length, leb}
use Rattle.std.proofs.Math.Option.{Option, none, some, Option-elim, bind}
use Rattle.base.specs.Amounts.{most_lines}
use Rattle.bands.specs.Bands.{Band, is_band}
use Rattle.lines.specs.Text.{line_feed}
use Rattle.lines.specs.Fields.{parted}
use Rattle.lines.specs.Bands.{band_line}

-- the first bad line's number, from 1, or the bands of all lines
pub data Sheet : Type 0 where
  bad : ℕ → Sheet
  whole : List Band → Sheet

-- the band of line k of a sheet of level d, by the depths of all entries. There is none where the line is bad: "other form, .., unknown class or wrong depth, from above
-- to, to or rate over its limit, or a line past the 4,096th"
unfoldable pub line_band : List ℕ → ℕ → ℕ → List ℕ → Option Band
line_band depths d k line = cond (leb k most_lines) (bind (band_line line) (λ b. cond (is_band depths d b) (some b) none)) none

-- The text is given by its lines: what stands before each line feed, and last what stands behind the last one, a line that is cut short. bs are the bands of the lines
-- before these.
unfoldable pub reading : List ℕ → ℕ → List Band → List (List ℕ) → Sheet
reading depths d bs [] = whole bs
reading depths d bs ([] ∷ []) = whole bs
reading depths d bs ((x ∷ l) ∷ []) = bad (suc (length bs))
reading depths d bs (l ∷ m ∷ ls) = Option-elim (line_band depths d (suc (length bs)) l) (bad (suc (length bs))) (λ b. reading depths d (bs ++ (b ∷ [])) (m ∷ ls))

unfoldable pub sheet_of : List ℕ → ℕ → List ℕ → Sheet
sheet_of depths d text = reading depths d [] (parted line_feed text)

-- the bands of a sheet without a bad line
abbrev pub bands_in : Sheet → List Band
bands_in (bad k) = []
bands_in (whole bs) = bs
