-- Halving a list in increasing order. Assumes nothing.
use mathlib.Core.Path.{◌≡◌, ap, ◌∙◌}
use mathlib.Core.List.{List}
use Prim.Native.Nat.{ℕ, ◌+◌, ◌*◌, ◌-◌, ◌/◌, ◌%◌, ◌≤◌, ◌<◌}
use native.Mathlib.Omega.{arith}
use native.Mathlib.Nat.{mul-one, mul-zero, mul-le-mul_left}
use native.Mathlib.Decide.{dec_lt}
use lib.ListN.{length, get_or}
use Rattle.sorting.specs.Orders.{Ascending}
use Rattle.sheets.specs.Parts.{Low}

-- the answer lies from low to high
pub record Bracket (l : List ℕ) (x low high : ℕ) : Type 0 where
  pub order : low ≤ high
  pub within : high ≤ length l
  pub below : (i : ℕ) → i < low → get_or l i 0 < x
  pub above : (i : ℕ) → high ≤ i → i < length l → x ≤ get_or l i 0

module _ (l : List ℕ) (x : ℕ) (asc : Ascending l) where
  module _ (low high mid : ℕ) (b : Bracket l x low high) (h : mid < high) where
    pub bracket-up : get_or l mid 0 < x → (end : ℕ) → end ≡ high → Bracket l x mid end
    bracket-up g end e = record { order = omega arith; within = omega (arith, b.within); below = λ i a. omega (arith, asc i mid (omega arith) (omega (arith, b.within))); above = λ i a. b.above i (omega arith) }

    pub bracket-down : x ≤ get_or l mid 0 → (end : ℕ) → low ≤ end → mid ≤ end → end ≤ high → Bracket l x low end
    bracket-down g end p q r = record { order = p; within = omega (arith, b.within); below = b.below; above = λ i a c. omega (arith, asc mid i (omega arith) c) }

  -- the half that a bit picks
  pub bracket-turn : (low size bit : ℕ) → Low l → x ≤ 9223372036854775808 → 1 < size → bit ≡ (9223372036854775807 + x - get_or l (low + size / 2) 0 % 9223372036854775808) / 9223372036854775808
      → Bracket l x low (low + size) → Bracket l x (low + size / 2 * bit) (low + size / 2 * bit + (size - size / 2))
  bracket-turn low size bit small top h e b = go (dec_lt (get_or l (low + size / 2) 0) x)
    where
      go : Dec (get_or l (low + size / 2) 0 < x) → Bracket l x (low + size / 2 * bit) (low + size / 2 * bit + (size - size / 2))
      go (yes k) =
          let z : bit ≡ 1 = omega (arith, small (low + size / 2) (omega (arith, b.within))) in
          let o : size / 2 * bit ≡ size / 2 = ap (λ n. size / 2 * n) z ∙ mul-one (size / 2) in
          rw o (bracket-up low (low + size) (low + size / 2) b (omega arith) k (low + size / 2 + (size - size / 2)) (omega arith))
      go (no k) =
          let z : bit ≡ 0 = omega (arith, small (low + size / 2) (omega (arith, b.within))) in
          let o : size / 2 * bit ≡ 0 = ap (λ n. size / 2 * n) z ∙ mul-zero (size / 2) in
          let w : low + 0 ≡ low = omega arith in
          rw (o, w) (bracket-down low (low + size) (low + size / 2) b (omega arith) (omega arith) (low + (size - size / 2)) (omega arith) (omega arith) (omega arith))

pub half-most : (h bit : ℕ) → bit ≤ 1 → h * bit ≤ h
half-most h bit b = omega (arith, mul-le-mul_left {m = bit} {n = 1} h b, mul-one h)
