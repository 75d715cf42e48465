-- A line of a sheet with bands, `class,from,to,rate` (2026-02): lines and numbers as the counter program reads them. Assumes nothing.
use Rattle.std.specs.Prelude.{List, [], ◌∷◌, ℕ}
use Rattle.std.proofs.Math.Option.{Option, none, map, bind}
use Rattle.bands.specs.Bands.{Band}
use Rattle.lines.specs.Fields.{fields, number}

-- the band of four fields that are numbers
unfoldable pub band_fields : List (List ℕ) → Option Band
band_fields [] = none
band_fields (c ∷ []) = none
band_fields (c ∷ f ∷ []) = none
band_fields (c ∷ f ∷ t ∷ []) = none
band_fields (c ∷ f ∷ t ∷ r ∷ []) =
    bind (number c) (λ class.
    bind (number f) (λ from.
    bind (number t) (λ to.
    map (λ rate. record { class = class; from = from; to = to; rate = rate }) (number r))))
band_fields (c ∷ f ∷ t ∷ r ∷ x ∷ fs) = none

unfoldable pub band_line : List ℕ → Option Band
band_line line = band_fields (fields line)
