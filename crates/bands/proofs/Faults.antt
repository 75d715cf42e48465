-- The fault of a class, from how many bands hold each amount. Assumes nothing.
use mathlib.Core.Path.{◌≡◌, refl, sym, ap, ◌∙◌}
use mathlib.Core.List.{List, [], ◌∷◌}
use mathlib.Core.Bool.{Bool, true, false, cond}
use mathlib.Core.Option.{Option, none, some, map, none-ne-some, some-injective}
use Prim.Native.Nat.{ℕ, ◌+◌, ◌≤◌, ◌<◌}
use native.Mathlib.Omega.{arith}
use lib.Dec.{eqb}
use borrow.Author.Tests.{eq-eqb, ne_eqb, eqb-true, not-false}
use Rattle.base.specs.Lists.{has, some?}
use Rattle.base.specs.Numbers.{gap, overlap}
use Rattle.base.specs.Amounts.{most_sum}
use Rattle.base.proofs.Lists.{first-is, none_first, first-none}
use Rattle.bands.specs.Bands.{Band, covers, faulty, lowest_faulty, Fault, fault_at, class_fault}
use Rattle.bands.proofs.Tests.{unmapped}

module _ (bs : List Band) (c : ℕ) where
  sound : (a : ℕ) → covers bs c a ≡ 1 → faulty bs c a ≡ false
  unfolding faulty
  sound a e = rw (eq-eqb (covers bs c a) 1 e)

  unsound : (a : ℕ) → (covers bs c a ≡ 1 → ⊥) → faulty bs c a ≡ true
  unfolding faulty
  unsound a e = rw (ne_eqb (covers bs c a) 1 e)

  lowest-is : (e : ℕ) → e ≤ most_sum → (covers bs c e ≡ 1 → ⊥) → ((a : ℕ) → a < e → covers bs c a ≡ 1) → lowest_faulty bs c ≡ some e
  unfolding lowest_faulty
  lowest-is e h f g = first-is (faulty bs c) (most_sum + 1) 0 e (omega arith) (omega arith) (unsound e f) (λ a p q. sound a (g a q))

  none-faulty : ((a : ℕ) → a ≤ most_sum → covers bs c a ≡ 1) → lowest_faulty bs c ≡ none
  unfolding lowest_faulty
  none-faulty g = none_first (faulty bs c) (most_sum + 1) 0 (λ a p q. sound a (g a (omega arith)))

  all_once : lowest_faulty bs c ≡ none → (a : ℕ) → a ≤ most_sum → covers bs c a ≡ 1
  unfolding lowest_faulty faulty
  all_once e a h = eqb-true _ 1 (not-false _ (first-none (faulty bs c) (most_sum + 1) 0 e a (omega arith) (omega arith)))

  -- the lowest amount that is in no band, or in two
  pub gap_is : (e : ℕ) → e ≤ most_sum → covers bs c e ≡ 0 → ((a : ℕ) → a < e → covers bs c a ≡ 1) → class_fault bs c ≡ some (record { outcome = gap c; amount = e })
  unfolding class_fault fault_at
  gap_is e h z g = rw (lowest-is e h (λ q. omega arith) g, z)

  pub overlap-is : (e : ℕ) → e ≤ most_sum → 2 ≤ covers bs c e → ((a : ℕ) → a < e → covers bs c a ≡ 1) → class_fault bs c ≡ some (record { outcome = overlap c; amount = e })
  unfolding class_fault fault_at
  overlap-is e h z g = rw (lowest-is e h (λ q. omega arith) g, ne_eqb (covers bs c e) 0 (λ q. omega arith))

  -- a class has no fault just where each amount is in one band
  pub fine-is : ((a : ℕ) → a ≤ most_sum → covers bs c a ≡ 1) → class_fault bs c ≡ none
  unfolding class_fault
  fine-is g = rw (none-faulty g)

  pub fine-once : class_fault bs c ≡ none → (a : ℕ) → a ≤ most_sum → covers bs c a ≡ 1
  unfolding class_fault
  fine-once e = all_once (unmapped (fault_at bs c) (lowest_faulty bs c) e)

  -- a fault's number is 14 or 15
  pub class-numbered : (f : Fault) → class_fault bs c ≡ some f → has (14 ∷ 15 ∷ []) f.outcome.number ≡ true
  unfolding class_fault fault_at some?
  class-numbered f e = go (lowest_faulty bs c) e
    where
      number : (b : Bool) → has (14 ∷ 15 ∷ []) (cond b (gap c) (overlap c)).number ≡ true
      number true = refl
      number false = refl

      go : (o : Option ℕ) → map (fault_at bs c) o ≡ some f → has (14 ∷ 15 ∷ []) f.outcome.number ≡ true
      go none e = absurd (none-ne-some f e)
      go (some a) e = ap (λ g. has (14 ∷ 15 ∷ []) g.outcome.number) (sym (some-injective _ f e)) ∙ number (eqb (covers bs c a) 0)

-- "a class without lines lacks amount 0"
pub no_lines : (bs : List Band) (c : ℕ) → covers bs c 0 ≡ 0 → class_fault bs c ≡ some (record { outcome = gap c; amount = 0 })
no_lines bs c z = gap_is bs c 0 (omega arith) z (λ a h. absurd (omega arith))
