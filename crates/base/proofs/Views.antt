-- Parts of one slice, as lists of their own: what a store does to each. Assumes nothing.
use mathlib.Core.Path.{◌≡◌, refl, sym, ap, ◌∙◌}
use mathlib.Core.List.{List, [], ◌∷◌, ◌++◌, append_assoc}
use Prim.Native.Nat.{ℕ, suc, ◌+◌, ◌-◌, ◌≤◌, ◌<◌}
use native.Mathlib.Omega.{arith}
use native.Mathlib.Numerals.{add-one}
use lib.ListN.{length, get_or, take, drop, set, replicate, length-replicate, get_or-replicate, length-append, length-set, length-take, length-drop, take-append-drop}
use lib.Seq.{get_or-take, get_or-drop, take-set-le, take-set-lt, drop-set-lt, drop-set-add, take-suc-set, drop-append-le, take-append-le, drop_at, take_at, drop-cons, set-append_seam, get_or-set_same}
use Rattle.base.specs.Lists.{view}

module _ (a c : ℕ) (l : List ℕ) where
  pub view-length : a + c ≤ length l → length (view a c l) ≡ c
  unfolding view
  view-length h = simp (length-take, length-drop) (omega arith)

  pub view-at : (v k : ℕ) → v < c → k ≡ a + v → get_or l k 0 ≡ get_or (view a c l) v 0
  unfolding view
  view-at v k h e = rw (e, get_or-take c (drop a l) v 0 h, get_or-drop a l v 0)

  -- a store in the part, before it, and behind it
  pub view-set : (j k x : ℕ) → j < c → k ≡ a + j → view a c (set l k x) ≡ set (view a c l) j x
  unfolding view
  view-set j k x h e = rw (e, drop-set-add a l j x, take-set-lt c (drop a l) j x h)

  pub view-before : (k x : ℕ) → k < a → view a c (set l k x) ≡ view a c l
  unfolding view
  view-before k x h = rw (drop-set-lt a l k x h)

  pub view-past : (k x : ℕ) → a + c ≤ k → view a c (set l k x) ≡ view a c l
  unfolding view
  view-past k x h =
      let e : k ≡ a + (k - a) = omega arith in
      ap (λ q. take c (drop a (set l q x))) e ∙ rw (drop-set-add a l (k - a) x, take-set-le c (drop a l) (k - a) x (omega arith))

  -- a store right behind it lengthens it
  pub view-more : (k x : ℕ) → k < length l → k ≡ a + c → view a (c + 1) (set l k x) ≡ view a c l ++ x ∷ []
  unfolding view
  view-more k x h e = rw (e, drop-set-add a l c x, add-one, take-suc-set (drop a l) c x (simp length-drop (omega arith)))

  pub view-none : view a 0 l ≡ []
  unfolding view
  view-none = refl

-- a part up to m as a stack that grows down: a push, and a pop
pub view-push : (j k m : ℕ) (l : List ℕ) (x : ℕ) → suc j ≡ k → k ≤ m → j < length l → view j (m - j) (set l j x) ≡ x ∷ view k (m - k) l
unfolding view
view-push j k m l x e h b =
    let z : m - j ≡ suc (m - k) = omega arith in
    rw (z, drop-cons (set l j x) j 0 (simp length-set b), get_or-set_same l j x 0 b, drop-set-lt (suc j) l j x (omega arith), e)

pub view-pop : (j m : ℕ) (l : List ℕ) → j < m → j < length l → view j (m - j) l ≡ get_or l j 0 ∷ view (j + 1) (m - (j + 1)) l
unfolding view
view-pop j m l h b =
    let z : m - j ≡ suc (m - suc j) = omega arith in
    rw (add-one, z, drop-cons l j 0 b)

-- a part that was lent is back: the part itself, and one that lies before it
pub view-front : (b c : ℕ) (p r : List ℕ) → b + c ≤ length p → view b c (p ++ r) ≡ view b c p
unfolding view
view-front b c p r h = rw (drop-append-le b p r (omega arith)) (take-append-le c (drop b p) r (simp length-drop (omega arith)))

pub view-back : (a k : ℕ) (xs ys r : List ℕ) → a ≤ length xs → length ys ≡ k → view a k (take a xs ++ (ys ++ r)) ≡ ys
unfolding view
view-back a k xs ys r h e = rw (drop_at (take a xs) (ys ++ r) a (simp length-take (omega arith))) (take_at ys r k e)

pub view-other : (a b c : ℕ) (xs r : List ℕ) → b + c ≤ a → a ≤ length xs → view b c (take a xs ++ r) ≡ view b c xs
view-other a b c xs r h k =
    view-front b c (take a xs) r (simp length-take (omega arith))
    ∙ sym (view-front b c (take a xs) (drop a xs) (simp length-take (omega arith)))
    ∙ ap (view b c) (take-append-drop a xs)

-- `new` is `old` with its first words replaced by w, and n is how many
pub record Laid (old w new : List ℕ) (n : ℕ) : Type 0 where
  pub size : length w ≡ n
  pub fits : n ≤ length old
  pub is : new ≡ w ++ drop n old

pub laid_none : (old : List ℕ) → Laid old [] old 0
laid_none old = record { size = refl; fits = omega arith; is = refl }

pub laid-length : {old w new : List ℕ} {n : ℕ} → Laid old w new n → length new ≡ length old
laid-length {old} {w} {new} {n} l = ap length l.is ∙ simp (length-append, length-drop) (omega (arith, l.size, l.fits))

pub laid_more : {old w new : List ℕ} {n : ℕ} (x : ℕ) → n < length old → Laid old w new n → Laid old (w ++ x ∷ []) (set new n x) (n + 1)
laid_more {old} {w} {new} {n} x h l =
    let e : n + 1 ≡ suc n = omega arith in
    record {
      size = omega (arith, length-append w (x ∷ []), l.size);
      fits = omega arith;
      is = rw (e, l.is, drop-cons old n 0 h, ← l.size, set-append_seam, append_assoc);
    }

-- what stands in a part that was filled
pub filled_at : (l : List ℕ) (n x v : ℕ) → l ≡ replicate n x → v < length l → get_or l v 0 ≡ x
filled_at l n x v e h = rw e (get_or-replicate n v x 0 (omega (arith, ap length e, length-replicate n x)))
