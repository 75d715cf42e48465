-- A sheet is accepted just where it has no fault; its lowest fault; the one band of each amount. Assumes nothing.
use mathlib.Core.Path.{◌≡◌, refl, sym, ap, ◌∙◌}
use mathlib.Core.Logic.{◌↔◌}
use mathlib.Core.List.{List, [], ◌∷◌}
use mathlib.Core.Bool.{Bool, true, false, cond, ◌&&◌}
use mathlib.Core.Option.{Option, none, some, bind, none-ne-some}
use Prim.Native.Nat.{ℕ, ◌≤◌, ◌<◌}
use native.Mathlib.Omega.{arith}
use lib.ListN.{length}
use Rattle.base.specs.Lists.{below, first, every, has}
use Rattle.base.specs.Amounts.{most_sum}
use Rattle.base.proofs.Lists.{clash, first-is, first-none, first_some, none_first}
use Rattle.base.proofs.Counts.{one}
use Rattle.base.proofs.Counting.{count, count-nil, count-cons}
use Rattle.base.proofs.Singles.{first_found, first-narrow, first_passes, count-found}
use Rattle.bands.specs.Bands.{Band, is_class, is_band, holds, covers, band_of, class_fault, is_some, Fault, sheet_fault}
use Rattle.bands.specs.Accepted.{Accepted}
use Rattle.bands.proofs.Tests.{and_first, and_second, nothing, class-says, band-says, holds-says, says_holds}
use Rattle.bands.proofs.Faults.{fine-is, fine-once, class-numbered}
use Rattle.bands.proofs.SameBands.{same_band, same-band, band-self}

module _ (depths : List ℕ) (d : ℕ) (bs : List Band) where
  abbrev pub at_fault : ℕ → Bool
  at_fault c = is_class depths d c && is_some (class_fault bs c)

  -- the lowest class at fault
  pub fault-is : (c : ℕ) → c < length depths → at_fault c ≡ true → ((v : ℕ) → v < c → at_fault v ≡ false) → sheet_fault depths d bs ≡ class_fault bs c
  unfolding sheet_fault bind
  fault-is c h e fine = rw (first-is at_fault (length depths) 0 c (omega arith) (omega arith) e (λ v p q. fine v q))

  pub faultless : ((v : ℕ) → v < length depths → at_fault v ≡ false) → sheet_fault depths d bs ≡ none
  unfolding sheet_fault bind
  faultless fine = rw (none_first at_fault (length depths) 0 (λ v p q. fine v (omega arith)))

  fault-none : Accepted depths d bs → sheet_fault depths d bs ≡ none
  fault-none f = faultless (λ c h. go c (is_class depths d c) refl)
    where
      go : (c : ℕ) (t : Bool) → is_class depths d c ≡ t → (t && is_some (class_fault bs c)) ≡ false
      go c true e = ap is_some (fine-is bs c (f.once c e))
      go c false e = refl

  no-fault : sheet_fault depths d bs ≡ none → Accepted depths d bs
  unfolding sheet_fault bind
  no-fault e = record { once = λ c own. fine-once bs c (go c own (first at_fault (below (length depths) (λ v. v))) refl e) }
    where
      go : (c : ℕ) → is_class depths d c ≡ true → (o : Option ℕ) → first at_fault (below (length depths) (λ v. v)) ≡ o → bind o (class_fault bs) ≡ none → class_fault bs c ≡ none
      go c own none e z = nothing _ (rw own at (first-none at_fault (length depths) 0 e c (omega arith) (omega (arith, (class-says depths d c own).0))))
      go c own (some v) e z = clash (ap is_some (sym z) ∙ and_second (is_class depths d v) _ (first_some at_fault (length depths) 0 v e).2)

  -- a fault has a number: 14 or 15
  pub fault-at : (f : Fault) → sheet_fault depths d bs ≡ some f → (c : ℕ) × (class_fault bs c ≡ some f)
  unfolding sheet_fault bind
  fault-at f e = go (first at_fault (below (length depths) (λ v. v))) e
    where
      go : (o : Option ℕ) → bind o (class_fault bs) ≡ some f → (c : ℕ) × (class_fault bs c ≡ some f)
      go none e = absurd (none-ne-some f e)
      go (some c) e = (c, e)

  pub fault-numbered : (f : Fault) → sheet_fault depths d bs ≡ some f → has (14 ∷ 15 ∷ []) f.outcome.number ≡ true
  fault-numbered f e = let (c, q) = fault-at f e in class-numbered bs c f q

  -- no fault, just where each class has each amount in one band only
  pub accepted-iff : sheet_fault depths d bs ≡ none ↔ Accepted depths d bs
  accepted-iff = (no-fault, fault-none)

  -- that band is what `band_of` gives
  pub accepted-band : Accepted depths d bs → (c : ℕ) → is_class depths d c ≡ true → (a : ℕ) → a ≤ most_sum → (b : Band) × (band_of bs c a ≡ some b) × (holds c a b ≡ true)
  unfolding covers band_of
  accepted-band f c own a h = first_found (holds c a) bs (omega (arith, f.once c own a h))

-- a sheet of bands of its classes has no band of any other entry: so no amount of an accepted one is in two
module _ (depths : List ℕ) (d c a : ℕ) where
  covers-other : is_class depths d c ≡ false → (bs : List Band) → every (is_band depths d) bs ≡ true → covers bs c a ≡ 0
  unfolding covers every
  covers-other o [] e = count-nil (holds c a)
  covers-other o (b ∷ bs) e = go (is_band depths d b) refl e (holds c a b) refl (covers-other o bs)
    where
      go : (t : Bool) → is_band depths d b ≡ t → cond t (every (is_band depths d) bs) false ≡ true → (h : Bool) → holds c a b ≡ h → (every (is_band depths d) bs ≡ true → count (holds c a) bs ≡ 0) → count (holds c a) (b ∷ bs) ≡ 0
      go true t e false h ih = omega (arith, count-cons (holds c a) b bs, ap one h, ih e)
      go true t e true h ih = clash (sym o ∙ ap (is_class depths d) (sym (holds-says c a b h).0) ∙ (band-says depths d b t).class)
      go false t e h q ih = clash e

  pub single-bands : (bs : List Band) → every (is_band depths d) bs ≡ true → Accepted depths d bs → a ≤ most_sum → covers bs c a ≤ 1
  single-bands bs e f h = go (is_class depths d c) refl
    where
      go : (t : Bool) → is_class depths d c ≡ t → covers bs c a ≤ 1
      go true t = omega (arith, f.once c t a h)
      go false t = omega (arith, covers-other t bs e)

-- an amount in no band has none
pub no-band : (bs : List Band) (c a : ℕ) → covers bs c a ≡ 0 → band_of bs c a ≡ none
unfolding covers band_of
no-band bs c a z = go (first (holds c a) bs) refl
  where
    go : (o : Option Band) → first (holds c a) bs ≡ o → o ≡ none
    go none e = refl
    go (some b) e = absurd (omega (arith, count-found (holds c a) (holds c a) bs b e (first_passes (holds c a) bs b e)))

-- an amount in one band only, and a band of the sheet that holds it
pub only-band : (bs : List Band) (c a : ℕ) (b : Band) → covers bs c a ≡ 1 → 1 ≤ count (λ x. holds c a x && same_band x b) bs → band_of bs c a ≡ some b
unfolding covers band_of
only-band bs c a b o h =
    let mine : Band → Bool = λ x. holds c a x && same_band x b in
    let (x, p, q) = first_found mine bs h in
    first-narrow (holds c a) mine (λ y. and_first (holds c a y) _) bs o h ∙ p ∙ ap some (same-band x b (and_second (holds c a x) _ q))

-- the band of an amount holds it, and is the band of every other amount that it holds: so the next amount in another band is `to` + 1, and the last before is `from` - 1
module _ (bs : List Band) (c x : ℕ) (b : Band) (found : band_of bs c x ≡ some b) where
  pub band-holds : holds c x b ≡ true
  unfolding band_of
  band-holds = first_passes (holds c x) bs b found

  pub band-through : (y : ℕ) → covers bs c y ≡ 1 → b.from ≤ y → y ≤ b.to → band_of bs c y ≡ some b
  unfolding band_of
  band-through y o f t =
      let own : holds c y b ≡ true = says_holds c y b (holds-says c x b band-holds).0 f t in
      only-band bs c y b o (count-found (λ z. holds c y z && same_band z b) (holds c x) bs b found (rw own (band-self b)))
