-- The same bands in any order cover alike, have the same fault, and each amount that is in one band is in the same one. Assumes nothing.
use mathlib.Core.Path.{◌≡◌, refl, sym, ap, ◌∙◌}
use mathlib.Core.List.{List}
use mathlib.Core.Bool.{Bool, true, not, ◌&&◌}
use mathlib.Core.Option.{Option, none, some, map, bind}
use Prim.Native.Nat.{ℕ, zero, suc, ◌+◌, ◌≤◌}
use native.Mathlib.Omega.{arith}
use lib.ListN.{length}
use lib.Dec.{eqb}
use borrow.Author.Tests.{eq-eqb, eqb-true}
use Rattle.base.specs.Lists.{each, below, first}
use Rattle.base.specs.Amounts.{most_sum}
use Rattle.base.proofs.Counting.{count}
use Rattle.base.proofs.Singles.{first_found, first-narrow, count-found}
use Rattle.bands.specs.Bands.{Band, is_class, holds, covers, band_of, faulty, lowest_faulty, fault_at, class_fault, is_some, sheet_fault, SameBands}
use Rattle.bands.proofs.Tests.{and_first, and_second}

pub covers-same : (bs cs : List Band) → SameBands bs cs → (c a : ℕ) → covers cs c a ≡ covers bs c a
unfolding covers
covers-same bs cs s c a = s (holds c a)

-- two tests that agree find the same
first-same : (f g : ℕ → Bool) (n i : ℕ) → ((v : ℕ) → f v ≡ g v) → first f (each n i (λ v. v)) ≡ first g (each n i (λ v. v))
unfolding first each
first-same f g zero i h = refl
first-same f g (suc n) i h = rw (h i, first-same f g n (suc i) h)

-- sheets that cover alike have the same faults
module _ (bs cs : List Band) (s : (c a : ℕ) → covers cs c a ≡ covers bs c a) where
  lowest-same : (c : ℕ) → lowest_faulty cs c ≡ lowest_faulty bs c
  unfolding lowest_faulty faulty
  lowest-same c = first-same (faulty cs c) (faulty bs c) (most_sum + 1) 0 (λ a. ap (λ x. not (eqb x 1)) (s c a))

  class_same : (c : ℕ) → class_fault cs c ≡ class_fault bs c
  unfolding class_fault fault_at
  class_same c = rw (lowest-same c) (go (lowest_faulty bs c))
    where
      go : (o : Option ℕ) → map (fault_at cs c) o ≡ map (fault_at bs c) o
      go none = refl
      go (some a) = rw (s c a)

  pub fault-same : (depths : List ℕ) (d : ℕ) → sheet_fault depths d cs ≡ sheet_fault depths d bs
  unfolding sheet_fault bind
  fault-same depths d =
      rw (first-same (λ c. is_class depths d c && is_some (class_fault cs c)) (λ c. is_class depths d c && is_some (class_fault bs c)) (length depths) 0 (λ c. ap (λ o. is_class depths d c && is_some o) (class_same c)))
      (go (first (λ c. is_class depths d c && is_some (class_fault bs c)) (below (length depths) (λ c. c))))
    where
      go : (o : Option ℕ) → bind o (class_fault cs) ≡ bind o (class_fault bs)
      go none = refl
      go (some c) = class_same c

-- whether two bands are the same
unfoldable pub same_band : Band → Band → Bool
same_band b d = eqb b.class d.class && (eqb b.from d.from && (eqb b.to d.to && eqb b.rate d.rate))

abbrev made : ℕ → ℕ → ℕ → ℕ → Band
made c f t r = record { class = c; from = f; to = t; rate = r }

pub same-band : (b d : Band) → same_band b d ≡ true → b ≡ d
unfolding same_band
same-band b d e =
    let x : b.class ≡ d.class = eqb-true _ _ (and_first (eqb b.class d.class) _ e) in
    let r = and_second (eqb b.class d.class) _ e in
    let y : b.from ≡ d.from = eqb-true _ _ (and_first (eqb b.from d.from) _ r) in
    let s = and_second (eqb b.from d.from) _ r in
    let z : b.to ≡ d.to = eqb-true _ _ (and_first (eqb b.to d.to) _ s) in
    let w : b.rate ≡ d.rate = eqb-true _ _ (and_second (eqb b.to d.to) _ s) in
    ap (λ v. made v b.from b.to b.rate) x ∙ ap (λ v. made d.class v b.to b.rate) y ∙ ap (λ v. made d.class d.from v b.rate) z ∙ ap (made d.class d.from d.to) w

pub band-self : (b : Band) → same_band b b ≡ true
unfolding same_band
band-self b = rw (eq-eqb b.class b.class refl, eq-eqb b.from b.from refl, eq-eqb b.to b.to refl, eq-eqb b.rate b.rate refl)

-- an amount in one band only is in the same band, in whatever order the bands stand
pub band-same : (bs cs : List Band) → SameBands bs cs → (c a : ℕ) → covers bs c a ≡ 1 → band_of cs c a ≡ band_of bs c a
unfolding covers band_of
band-same bs cs s c a o =
    let (b, e, f) = first_found (holds c a) bs (omega arith) in
    go b e f
  where
    go : (b : Band) → first (holds c a) bs ≡ some b → holds c a b ≡ true → first (holds c a) cs ≡ first (holds c a) bs
    go b e f =
        let mine : Band → Bool = λ x. holds c a x && same_band x b in
        let wide : (x : Band) → mine x ≡ true → holds c a x ≡ true = λ x. and_first (holds c a x) _ in
        let one-wide : count (holds c a) cs ≡ 1 = s (holds c a) ∙ o in
        let some-mine : 1 ≤ count mine bs = count-found mine (holds c a) bs b e (rw f (band-self b)) in
        let mine-cs : 1 ≤ count mine cs = omega (arith, s mine) in
        let (x, p, q) = first_found mine cs mine-cs in
        first-narrow (holds c a) mine wide cs one-wide mine-cs ∙ p ∙ ap some (same-band x b (and_second (holds c a x) _ q)) ∙ sym e
