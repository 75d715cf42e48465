-- The laws of a loop that reads a string of downs and ups from its last step back. Assumes nothing.
use mathlib.Core.Path.{◌≡◌, refl, sym, ◌∙◌}
use mathlib.Core.Bool.{false}
use Prim.Native.Nat.{ℕ, zero, suc, ◌+◌, ◌-◌, ◌/◌, ◌%◌, ◌≤◌, ◌<◌}
use native.Mathlib.Numerals.{add-one}
use native.Mathlib.Omega.{arith}
use borrow.Author.Tests.{le-leb, lt-leb, eq-eqb, ne_eqb}
use lib.Dec.{eqb}
use Rattle.plain_steps.specs.Strings.{steps_back, closes, goes_round}

-- of a string `rest` is to be read, with so many ups open
pub record Left (string rest ups : ℕ) : Type 0 where
  pub steps : ℕ
  pub enough : rest ≤ steps
  pub few : ups + rest < 8192
  pub same : closes (steps_back steps rest) ups ≡ goes_round string

pub start : (string : ℕ) → string < 8192 → Left string string 0
start string h = record { steps = string; enough = omega arith; few = omega arith; same = refl }

-- one step back, where m more are left at most
module _ (m rest : ℕ) (h : 1 < rest) where
  back-up : (ups : ℕ) → rest % 2 ≡ 1 → closes (steps_back (suc m) rest) ups ≡ closes (steps_back m (rest / 2)) (ups + 1)
  unfolding closes steps_back
  back-up ups e = rw (lt-leb rest 1 h, eq-eqb _ _ e, add-one)

  back-down : (ups : ℕ) → (rest % 2 ≡ 1 → ⊥) → (ups ≡ 0 → ⊥) → closes (steps_back (suc m) rest) ups ≡ closes (steps_back m (rest / 2)) (ups - 1)
  unfolding closes steps_back
  back-down zero e z = absurd (z refl)
  back-down (suc ups) e z =
      let k : suc ups - 1 ≡ ups = omega arith in
      rw (lt-leb rest 1 h, ne_eqb _ _ e, k)

  back_none : (ups : ℕ) → (rest % 2 ≡ 1 → ⊥) → ups ≡ 0 → closes (steps_back (suc m) rest) ups ≡ false
  unfolding closes steps_back
  back_none ups e z = rw (z, lt-leb rest 1 h, ne_eqb _ _ e)

read : (m rest ups : ℕ) → rest ≤ 1 → closes (steps_back m rest) ups ≡ eqb ups 0
unfolding closes steps_back
read zero rest ups h = refl
read (suc m) rest ups h = rw (le-leb rest 1 h)

module _ (string rest ups : ℕ) (l : Left string rest ups) where
  pub ended : rest ≤ 1 → eqb ups 0 ≡ goes_round string
  ended h = sym (read l.steps rest ups h) ∙ l.same

  module _ (h : 1 < rest) where
    more : suc (l.steps - 1) ≡ l.steps
    more = omega (arith, l.enough)

    pub up : rest % 2 ≡ 1 → Left string (rest / 2) (ups + 1)
    up e = record {
      steps = l.steps - 1;
      enough = omega (arith, l.enough);
      few = omega (arith, l.few);
      same = sym (back-up (l.steps - 1) rest h ups e) ∙ rw more l.same;
    }

    pub down : (rest % 2 ≡ 1 → ⊥) → (ups ≡ 0 → ⊥) → Left string (rest / 2) (ups - 1)
    down e z = record {
      steps = l.steps - 1;
      enough = omega (arith, l.enough);
      few = omega (arith, l.few);
      same = sym (back-down (l.steps - 1) rest h ups e z) ∙ rw more l.same;
    }

    pub none : (rest % 2 ≡ 1 → ⊥) → ups ≡ 0 → false ≡ goes_round string
    none e z = sym (back_none (l.steps - 1) rest h ups e z) ∙ rw more l.same
