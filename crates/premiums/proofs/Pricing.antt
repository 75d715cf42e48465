-- The price of a class by its rate in the list, and behind a lookup. Assumes nothing.
use mathlib.Core.Path.{◌≡◌, ap, ◌∙◌}
use mathlib.Core.List.{List}
use Prim.Native.Nat.{ℕ, ◌≤◌, ◌<◌}
use lib.ListN.{length, get_or}
use lib.IntN.{ℤ}
use native.Mathlib.Omega.{arith}
use borrow.Author.Tests.{lt-ltb, le-ltb, eq-eqb, ne_eqb}
use Rattle.std.specs.Prelude.{Some, None, slice_get}
use Rattle.std.proofs.lemmas.Option.{slice_get-get_or, slice_get_within, get_or_from_slice_get}
use Rattle.base.specs.Numbers.{Outcome, bad_rate}
use Rattle.money.specs.Prices.{refused, priced}
use Rattle.premiums.specs.Quotes.{class_price, price_of}

module _ (rates : List ℕ) (sum : ℤ) where
  pub class-past : (class : ℕ) → length rates ≤ class → class_price rates sum class ≡ refused bad_rate
  unfolding class_price
  class-past class h = simp (le-ltb class (length rates) h)

  pub class-listed : (class : ℕ) → class < length rates → class_price rates sum class ≡ priced class (get_or rates class 0) sum
  unfolding class_price
  class-listed class h = simp (lt-ltb class (length rates) h)

  -- the same by a rate of the list, if it has one
  pub class-unlisted : (class : ℕ) → slice_get rates class ≡ None → class_price rates sum class ≡ refused bad_rate
  class-unlisted class e =
      let none : class < length rates → ⊥ = λ h. let q = slice_get-get_or rates class 0 h in cc in
      class-past class (omega arith)

  pub class-rated : (class rate : ℕ) → slice_get rates class ≡ Some rate → class_price rates sum class ≡ priced class rate sum
  class-rated class rate e =
      class-listed class (slice_get_within rates class rate e) ∙ ap (λ x. priced class x sum) (get_or_from_slice_get rates class rate 0 e)

  pub price-unfound : (o : Outcome) → (o.number ≡ 0 → ⊥) → price_of rates sum o ≡ refused o
  unfolding price_of
  price-unfound o n = simp (ne_eqb o.number 0 n)

  pub price-found : (o : Outcome) → o.number ≡ 0 → price_of rates sum o ≡ class_price rates sum o.word
  unfolding price_of
  price-found o e = simp (eq-eqb o.number 0 e)
