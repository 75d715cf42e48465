-- How many entries a search tries. Assumes nothing.
use mathlib.Core.Path.{◌≡◌}
use Prim.Native.Nat.{ℕ, ◌+◌, ◌*◌, ◌^◌, ◌≤◌, ◌<◌}
use native.Mathlib.Omega.{arith}
use native.Mathlib.Decide.{dec_le}
use lib.Pow.{pow-add}
use Rattle.base.specs.Limits.{most_entries}
use Rattle.common_ancestors.specs.Parts.{first_tries, most_tries}

-- so many were tried, and so many numbers of climbs are left to choose from
pub record Few (tries left : ℕ) : Type 0 where
  pub most : tries ≤ most_tries
  pub all : left < most_entries
  pub halved : (e : ℕ) → tries + e ≡ most_tries → first_tries ≤ tries → left < 2 ^ e

pub few-start : (left : ℕ) → left < most_entries → Few 0 left
few-start left h = record { most = omega arith; all = h; halved = λ e q c. absurd (omega arith) }

module _ (tries left : ℕ) (f : Few tries left) (some_left : 1 ≤ left) where
  pub few-more : tries < most_tries
  few-more = go (dec_le most_tries tries)
    where
      go : Dec (most_tries ≤ tries) → tries < most_tries
      go (yes h) = absurd (omega (arith, f.halved 0 (omega (arith, f.most)) (omega arith)))
      go (no h) = omega arith

  pub few-next : (rest : ℕ) → rest ≤ left → (first_tries ≤ tries → 2 * rest ≤ left) → Few (tries + 1) rest
  few-next rest r half = record { most = omega (arith, few-more); all = omega (arith, f.all); halved = λ e q c. go e q c (dec_le first_tries tries) }
    where
      go : (e : ℕ) → tries + 1 + e ≡ most_tries → first_tries ≤ tries + 1 → Dec (first_tries ≤ tries) → rest < 2 ^ e
      go e q b (yes c) = omega (arith, half c, f.halved (e + 1) (omega arith) c, pow-add 2 e 1)
      go e q b (no c) = let z : e ≡ 20 = omega arith in rw z (omega (arith, f.all))
