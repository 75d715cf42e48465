-- Sheets with bands renumbered alike, in any order of their lines. Assumes nothing.
use Rattle.std.specs.Prelude.{◌≡◌, List, [], ◌∷◌, map, ℕ}
use Rattle.std.proofs.Math.Option
use Rattle.std.proofs.Math.Option.{Option, none, some, bind}
use Rattle.bands.specs.Bands.{Band, SameBands}
use Rattle.lines.specs.Text.{line_feed}
use Rattle.lines.specs.Fields.{parted}
use Rattle.lines.specs.Bands.{band_line}

-- the bands that lines state, in their order, given as in `sheets/specs/Texts`: what stands before each line feed, and last what stands behind the last one. There are none
-- where a line has another form or is cut short
unfoldable pub stated_by : List (List ℕ) → Option (List Band)
stated_by [] = some []
stated_by ([] ∷ []) = some []
stated_by ((x ∷ l) ∷ []) = none
stated_by (l ∷ m ∷ ls) = bind (band_line l) (λ b. Option.map (◌∷◌ b) (stated_by (m ∷ ls)))

unfoldable pub stated : List ℕ → Option (List Band)
stated text = stated_by (parted line_feed text)

-- a band of a class, with the class's new number
abbrev pub renumbered : (ℕ → ℕ) → Band → Band
renumbered r b = record { class = r b.class; from = b.from; to = b.to; rate = b.rate }

-- two texts are one sheet under a renumbering: the bands that one states are those of the other with new numbers, each as often, in any order
pub record SameSheets (r : ℕ → ℕ) (text other : List ℕ) : Type 0 where
  pub bands : List Band
  pub other-bands : List Band
  pub states : stated text ≡ some bands
  pub other-states : stated other ≡ some other-bands
  pub alike : SameBands (map (renumbered r) bands) other-bands
