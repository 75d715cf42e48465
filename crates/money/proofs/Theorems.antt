-- What the premium is, over the whole numbers. Assumes nothing.
use mathlib.Core.Path.{◌≡◌, refl, sym, ap, ◌∙◌}
use mathlib.Core.Logic.{◌↔◌}
use mathlib.Core.Bool.{Bool, true, false, ◌&&◌}
use Prim.Native.Nat.{ℕ, zero, suc, ◌+◌, ◌*◌, ◌≤◌, ◌<◌}
use native.Mathlib.Nat.{mul-le-mul_right}
use native.Mathlib.Omega.{arith}
use lib.Dec.{leb, leb-suc-suc, leb→le, le→leb}
use lib.IntN.{ℤ, pos, negsuc, neg_ℤ, nat_abs, ◌-ℤ◌, ◌*ℤ◌, neg_ℤ-neg_ℤ, neg_ℤ-+ℤ}
use lib.Signed.{le_z, ◌≤ℤ◌}
use Rattle.base.specs.Amounts.{cent_parts, most_rate, most_sum, legal_sum}
use Rattle.money.specs.Premium.{half_rule, nearest, negative, premium}
use Rattle.money.specs.Distance.{NearestCents}
use Rattle.money.proofs.Halves.{nearest-near, nearest-side, nearest-only, nearest-rises, nearest-none, nearest-most}
use Rattle.money.proofs.Differences.{size-neg, size-sign, times-neg, difference, difference-neg}

-- "25 at rate 1,000 is 3 cents, −25 is −3"
pub examples : (premium (pos 25) 1000 ≡ pos 3) × (premium (negsuc 24) 1000 ≡ negsuc 2)
unfolding premium nearest half_rule
examples = (refl, refl)

-- the range of a sum, by the order of the whole numbers
and-true : (b : Bool) → b && true ≡ b
and-true true = refl
and-true false = refl

pub legal-range : (s : ℤ) → legal_sum s ≡ (le_z (negsuc 1999999999) s && le_z s (pos 2000000000))
legal-range (pos n) = refl
legal-range (negsuc n) = leb-suc-suc n 1999999999 ∙ sym (and-true (leb n 1999999999))

-- ---- the nearest cents, and no others
-- c cents are the nearest to z parts: as `NearestCents`, of the product
abbrev Close : ℤ → ℤ → Type 0
Close z c = (2 * nat_abs (pos cent_parts *ℤ c -ℤ z) ≤ cent_parts) × (2 * nat_abs (pos cent_parts *ℤ c -ℤ z) ≡ cent_parts → nat_abs z < cent_parts * nat_abs c)

close-pos : (x : ℕ) → Close (pos x) (pos (nearest x))
close-pos x =
    let d = difference (cent_parts * nearest x) x in
    (rw d (nearest-near x), λ e. nearest-side x (rw d at e))

-- cents below zero are farther off
far : (c x : ℕ) → nat_abs (pos cent_parts *ℤ negsuc c -ℤ pos x) ≡ cent_parts * suc c + x
far c x = ap nat_abs (sym (neg_ℤ-+ℤ (pos (cent_parts * suc c)) (pos x))) ∙ size-neg (pos (cent_parts * suc c + x))

only-pos : (x : ℕ) (c : ℤ) → Close (pos x) c → c ≡ pos (nearest x)
only-pos x (pos c) (h, t) = let d = difference (cent_parts * c) x in ap pos (nearest-only x c (rw d at h) (rw d at t))
only-pos x (negsuc c) (h, t) = let k : 2 * (cent_parts * suc c + x) ≤ cent_parts = rw (far c x) at h in absurd (omega arith)

close-neg : (z c : ℤ) → Close z c → Close (neg_ℤ z) (neg_ℤ c)
close-neg z c (h, t) =
    let e : nat_abs (pos cent_parts *ℤ neg_ℤ c -ℤ neg_ℤ z) ≡ nat_abs (pos cent_parts *ℤ c -ℤ z) =
    ap (λ w. nat_abs (w -ℤ neg_ℤ z)) (times-neg cent_parts c) ∙ difference-neg (pos cent_parts *ℤ c) z in
    (rw e h, rw (e, size-neg z, size-neg c) t)

only-neg : (x : ℕ) (c : ℤ) → Close (neg_ℤ (pos x)) c → c ≡ neg_ℤ (pos (nearest x))
only-neg x c h =
    let k : Close (pos x) (neg_ℤ c) = rw (neg_ℤ-neg_ℤ (pos x)) at (close-neg (neg_ℤ (pos x)) c h) in
    sym (neg_ℤ-neg_ℤ c) ∙ ap neg_ℤ (only-pos x (neg_ℤ c) k)

pub premium-iff : (s : ℤ) (r : ℕ) (c : ℤ) → c ≡ premium s r ↔ NearestCents s r c
unfolding premium
premium-iff (pos n) r c = (
  λ e. let q : Close (pos (n * r)) c = rw e (close-pos (n * r)) in record { near = q.0; side = q.1 },
  λ p. only-pos (n * r) c (p.near, p.side),
)
premium-iff (negsuc n) r c = (
  λ e. let q : Close (neg_ℤ (pos (suc n * r))) c = rw e (close-neg (pos (suc n * r)) (pos (nearest (suc n * r))) (close-pos (suc n * r))) in record { near = q.0; side = q.1 },
  λ p. only-neg (suc n * r) c (p.near, p.side),
)

-- ---- a sum taken off costs what the sum costs, with the other sign
pub premium-neg : (s : ℤ) (r : ℕ) → premium (neg_ℤ s) r ≡ neg_ℤ (premium s r)
unfolding premium
premium-neg (pos zero) r = let z : 0 * r ≡ 0 = omega arith in rw (z, nearest-none)
premium-neg (pos (suc n)) r = refl
premium-neg (negsuc n) r = sym (neg_ℤ-neg_ℤ (pos (nearest (suc n * r))))

-- ---- of two sums at one rate the larger has no smaller premium
below-plus : (x y : ℕ) → neg_ℤ (pos x) ≤ℤ pos y
below-plus zero y = record { le = le→leb 0 y (omega arith) }
below-plus (suc x) y = record { le = tt }

below-minus : (x y : ℕ) → y ≤ x → neg_ℤ (pos x) ≤ℤ neg_ℤ (pos y)
below-minus x zero h = below-plus x 0
below-minus zero (suc y) h = absurd (omega arith)
below-minus (suc x) (suc y) h = record { le = le→leb y x (omega arith) }

pub premium-rises : (s t : ℤ) (r : ℕ) → s ≤ℤ t → premium s r ≤ℤ premium t r
unfolding premium
premium-rises (pos a) (pos b) r h = record { le = le→leb _ _ (nearest-rises (a * r) (b * r) (mul-le-mul_right r (leb→le a b h.le))) }
premium-rises (pos a) (negsuc b) r h = absurd h.le
premium-rises (negsuc a) (pos b) r h = below-plus (nearest (suc a * r)) (nearest (b * r))
premium-rises (negsuc a) (negsuc b) r h =
    below-minus (nearest (suc a * r)) (nearest (suc b * r))
    (nearest-rises (suc b * r) (suc a * r) (mul-le-mul_right r (let k : b ≤ a = leb→le b a h.le in omega arith)))

-- ---- rate 0 costs nothing
pub premium-free : (s : ℤ) → premium s 0 ≡ pos 0
unfolding premium
premium-free (pos n) = let z : n * 0 ≡ 0 = omega arith in rw (z, nearest-none)
premium-free (negsuc n) = let z : suc n * 0 ≡ 0 = omega arith in rw (z, nearest-none)

-- ---- at most 200,000,000,000 cents
pub premium-most : (s : ℤ) (r : ℕ) → nat_abs s ≤ most_sum → r ≤ most_rate → nat_abs (premium s r) ≤ 200000000000
unfolding premium
premium-most s r h k = rw (size-sign (negative s) (nearest (nat_abs s * r))) (nearest-most (nat_abs s) r h k)
