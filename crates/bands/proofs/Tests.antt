-- What the tests of bands say, as facts. Assumes nothing.
use mathlib.Core.Path.{◌≡◌, refl, sym}
use mathlib.Core.Logic.{◌↔◌}
use mathlib.Core.List.{List}
use mathlib.Core.Bool.{Bool, true, false, ◌&&◌}
use mathlib.Core.Option.{Option, none, some, map, some-ne-none}
use Prim.Native.Nat.{ℕ, ◌≤◌, ◌<◌}
use lib.ListN.{length, get_or}
use lib.Dec.{eqb, leb, ltb}
use borrow.Author.Tests.{eq-eqb, eqb-true, le-leb, leb-true, lt-ltb, ltb-true}
use Rattle.base.specs.Amounts.{most_sum, most_rate}
use Rattle.base.proofs.Lists.{clash}
use Rattle.bands.specs.Bands.{Band, is_covered, is_class, is_band, holds, is_some}

pub and_first : (p q : Bool) → (p && q) ≡ true → p ≡ true
and_first true q e = refl
and_first false q e = e

pub and_second : (p q : Bool) → (p && q) ≡ true → q ≡ true
and_second true q e = e
and_second false q e = clash e

pub nothing : {A : Type 0} (o : Option A) → is_some o ≡ false → o ≡ none
nothing none e = refl
nothing (some x) e = clash (sym e)

pub unmapped {ℓ κ} : {A : Type ℓ} {B : Type κ} (f : A → B) (o : Option A) → map f o ≡ none → o ≡ none
unmapped f none e = refl
unmapped f (some x) e = absurd (some-ne-none (f x) e)

-- a class is an entry of depth d or less
pub covered-depth : (d depth : ℕ) → (is_covered d depth ≡ true) ↔ (depth ≤ d)
unfolding is_covered
covered-depth d depth = (leb-true depth d, le-leb depth d)

module _ (depths : List ℕ) (d c : ℕ) where
  pub class-says : is_class depths d c ≡ true → (c < length depths) × (is_covered d (get_or depths c 0) ≡ true)
  unfolding is_class
  class-says e = (ltb-true _ _ (and_first (ltb c (length depths)) _ e), and_second (ltb c (length depths)) _ e)

  pub class-is : c < length depths → is_class depths d c ≡ is_covered d (get_or depths c 0)
  unfolding is_class
  class-is h = rw (lt-ltb c (length depths) h)

-- a band that a line may state
pub record Sound (depths : List ℕ) (d : ℕ) (b : Band) : Type 0 where
  pub class : is_class depths d b.class ≡ true
  pub ordered : b.from ≤ b.to
  pub within : b.to ≤ most_sum
  pub limit : b.rate ≤ most_rate

module _ (depths : List ℕ) (d : ℕ) (b : Band) where
  pub band-says : is_band depths d b ≡ true → Sound depths d b
  unfolding is_band
  band-says e =
      let r = and_second (is_class depths d b.class) _ e in
      let s = and_second (leb b.from b.to) _ r in
      record {
        class = and_first (is_class depths d b.class) _ e;
        ordered = leb-true _ _ (and_first (leb b.from b.to) _ r);
        within = leb-true _ _ (and_first (leb b.to most_sum) _ s);
        limit = leb-true _ _ (and_second (leb b.to most_sum) _ s);
      }

-- what holding an amount says
module _ (c a : ℕ) (b : Band) where
  pub holds-says : holds c a b ≡ true → (b.class ≡ c) × (b.from ≤ a) × (a ≤ b.to)
  unfolding holds
  holds-says e =
      let r = and_second (eqb b.class c) _ e in
      (eqb-true _ _ (and_first (eqb b.class c) _ e), leb-true _ _ (and_first (leb b.from a) _ r), leb-true _ _ (and_second (leb b.from a) _ r))

  pub says_holds : b.class ≡ c → b.from ≤ a → a ≤ b.to → holds c a b ≡ true
  unfolding holds
  says_holds e f t = rw (eq-eqb b.class c e, le-leb b.from a f, le-leb a b.to t)
