-- Bands with new numbers: each amount of a class is in as many of them, and its band is the same but for the class's number. Assumes nothing.
use mathlib.Core.Path.{◌≡◌, refl, sym, ap, fun_ext, ◌∙◌}
use mathlib.Core.List.{List, map}
use mathlib.Core.Bool.{Bool, ◌&&◌}
use mathlib.Core.Option
use Prim.Native.Nat.{ℕ}
use lib.Dec.{leb}
use Rattle.base.proofs.Counting.{count, count_map}
use Rattle.base.proofs.Filters.{first-map}
use Rattle.bands.specs.Bands.{Band, holds, covers, band_of, SameBands}
use Rattle.bands.proofs.SameBands.{covers-same, band-same}
use Rattle.renumbering.specs.Numbering.{Renumbering}
use Rattle.renumbering.specs.Sheets.{renumbered}
use Rattle.renumbering.proofs.Numbers.{same_test, old, old-new}

-- how many bands with new numbers pass a test
pub count-renumbered : (r : ℕ → ℕ) (test old : Band → Bool) → ((b : Band) → test (renumbered r b) ≡ old b) → (bs : List Band) → count test (map (renumbered r) bs) ≡ count old bs
count-renumbered r test old alike bs = count_map test (renumbered r) bs ∙ ap (λ t. count t bs) (fun_ext alike)

module _ (n : ℕ) (r : ℕ → ℕ) (p : Renumbering n r) where
  holds-new : (c a : ℕ) (b : Band) → holds (r c) a (renumbered r b) ≡ holds c a b
  unfolding holds
  holds-new c a b = ap (λ t. t && (leb b.from a && leb a b.to)) (same_test n r p b.class c)

  module _ (bs cs : List Band) (same : SameBands (map (renumbered r) bs) cs) where
    pub covers_new : (c a : ℕ) → covers cs (r c) a ≡ covers bs c a
    unfolding covers
    covers_new c a = covers-same (map (renumbered r) bs) cs same (r c) a ∙ count-renumbered r (holds (r c) a) (holds c a) (holds-new c a) bs

    pub band-new : (c a : ℕ) → covers bs c a ≡ 1 → band_of cs (r c) a ≡ Option.map (renumbered r) (band_of bs c a)
    unfolding covers band_of
    band-new c a one =
        band-same (map (renumbered r) bs) cs same (r c) a (count-renumbered r (holds (r c) a) (holds c a) (holds-new c a) bs ∙ one)
        ∙ first-map (renumbered r) (holds c a) (holds (r c) a) (holds-new c a) bs

    -- and the way back leads to the bands as they were
    pub same_back : SameBands (map (renumbered (old n r p)) cs) bs
    same_back test =
        sym (count-renumbered (old n r p) test (λ b. test (renumbered (old n r p) b)) (λ b. refl) cs
        ∙ same (λ b. test (renumbered (old n r p) b))
        ∙ count-renumbered r (λ b. test (renumbered (old n r p) b)) test (λ b. ap (λ c. test (record { class = c; from = b.from; to = b.to; rate = b.rate })) (old-new n r p b.class)) bs)
