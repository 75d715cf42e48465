-- The exponent of a 32-bit number: the one e with 2^e ≤ x < 2^(e+1), and none for 0 alone. Assumes nothing.
use mathlib.Core.Path.{◌≡◌, refl, sym, ◌∙◌}
use mathlib.Core.Logic.{◌↔◌}
use mathlib.Core.Bool.{Bool, true, false, ◌&&◌}
use mathlib.Core.Option.{none, some, none-ne-some}
use Prim.Native.Nat.{ℕ, suc, ◌+◌, ◌^◌, ◌≤◌, ◌<◌}
use native.Mathlib.Omega.{arith}
use native.Mathlib.Nat.{le_of_suc-le-suc, lt_of_not-le}
use native.Mathlib.Decide.{ℕ_discrete, dec_lt}
use lib.Count.{leading_top}
use lib.Dec.{leb, ltb}
use lib.Pow.{pow_mono, pow_pos}
use borrow.Author.Tests.{leb-true, ltb-true, le-leb, lt-leb, lt-ltb, le-ltb}
use Rattle.base.specs.Powers.{exponent}
use Rattle.base.proofs.Lists.{clash, first_some, first-is, none_first}

-- the test of an exponent
abbrev fits : ℕ → ℕ → Bool
fits x e = leb (2 ^ e) x && ltb x (2 ^ suc e)

fits-true : (x e : ℕ) → fits x e ≡ true → (2 ^ e ≤ x) × (x < 2 ^ suc e)
fits-true x e t = go (leb (2 ^ e) x) refl t
  where
    go : (b : Bool) → leb (2 ^ e) x ≡ b → (b && ltb x (2 ^ suc e)) ≡ true → (2 ^ e ≤ x) × (x < 2 ^ suc e)
    go true b t = (leb-true (2 ^ e) x b, ltb-true x (2 ^ suc e) t)
    go false b t = clash t

fits_below : (x e v : ℕ) → 2 ^ e ≤ x → v < e → fits x v ≡ false
fits_below x e v h b = rw (le-ltb x (2 ^ suc v) (omega (arith, pow_mono {i = suc v} {j = e} b))) (go (leb (2 ^ v) x))
  where
    go : (b : Bool) → (b && false) ≡ false
    go true = refl
    go false = refl

pub exponent-iff : (x e : ℕ) → x < 2 ^ 32 → (exponent x ≡ some e) ↔ ((2 ^ e ≤ x) × (x < 2 ^ suc e))
unfolding exponent
exponent-iff x e small = (
  λ q. fits-true x e (first_some (fits x) 32 0 e q).2,
  λ h. first-is (fits x) 32 0 e (omega arith) (low (dec_lt e 32) h) (rw (le-leb (2 ^ e) x h.0, lt-ltb x (2 ^ suc e) h.1)) (λ v a b. fits_below x e v h.0 b),
)
  where
    low : Dec (e < 32) → (2 ^ e ≤ x) × (x < 2 ^ suc e) → e < 0 + 32
    low (yes b) h = omega arith
    low (no b) h = absurd (omega (arith, pow_mono {i = 32} {j = e} (omega arith), h.0))

pub exponent-some : (x : ℕ) → 1 ≤ x → x < 2 ^ 32 → (e : ℕ) × (exponent x ≡ some e)
exponent-some x h small =
    let (e, b, lo, hi) = leading_top 32 x h small in
    (e, (exponent-iff x e small).1 (lo, hi))

pub exponent-none : (x : ℕ) → x < 2 ^ 32 → (exponent x ≡ none) ↔ (x ≡ 0)
unfolding exponent
exponent-none x small = (
  λ q. zero_of q (ℕ_discrete x 0),
  λ z. none_first (fits x) 32 0 (λ v a b. rw (lt-leb (2 ^ v) x (omega (arith, pow_pos v)))),
)
  where
    zero_of : exponent x ≡ none → Dec (x ≡ 0) → x ≡ 0
    zero_of q (yes z) = z
    zero_of q (no z) =
        let (e, s) = exponent-some x (omega arith) small in
        absurd (none-ne-some e (sym q ∙ s))

-- the powers not above a number are those up to its exponent
pub exponent-largest : (x e k : ℕ) → x < 2 ^ 32 → exponent x ≡ some e → (k ≤ e) ↔ (2 ^ k ≤ x)
exponent-largest x e k small q =
    let (lo, hi) = (exponent-iff x e small).0 q in
    (λ h. omega (arith, pow_mono {i = k} {j = e} h), λ h. le_of_suc-le-suc (lt_of_not-le (λ b. omega (arith, pow_mono {i = suc e} {j = k} b))))

-- the power is not above the number, and the exponent of a number below 2^k is below k
pub exponent-low : (k x e : ℕ) → k ≤ 32 → x < 2 ^ k → exponent x ≡ some e → (e < k) × (2 ^ e ≤ x)
exponent-low k x e b h q =
    let small : x < 2 ^ 32 = omega (arith, pow_mono {i = k} {j = 32} b) in
    (lt_of_not-le (λ c. omega (arith, (exponent-largest x e k small q).0 c)), (exponent-largest x e e small q).0 (omega arith))
