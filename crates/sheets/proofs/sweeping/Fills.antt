-- The sweep of one class, over bands given by their class, `from` and `to` at each place. Assumes nothing.
use mathlib.Core.Path.{◌≡◌, ◌∙◌}
use mathlib.Core.Bool.{◌&&◌, and-false}
use Prim.Native.Nat.{ℕ, ◌+◌, ◌≤◌, ◌<◌}
use native.Mathlib.Omega.{arith}
use native.Mathlib.Decide.{ℕ_discrete, dec_lt, dec_le}
use lib.Dec.{eqb, leb}
use borrow.Author.Tests.{eq-eqb, ne_eqb, le-leb, lt-leb}
use Rattle.base.proofs.Counts.{one, sum}
use Rattle.base.proofs.Counting.{sum_more, sum-none, sum-rest, sum-part}

-- 1 where a band from f to t of class k holds amount a of class c, else 0
unfoldable pub hit : ℕ → ℕ → ℕ → ℕ → ℕ → ℕ
hit k f t c a = one (eqb k c && (leb f a && leb a t))

module _ (k f t c a : ℕ) where
  pub hit-in : k ≡ c → f ≤ a → a ≤ t → hit k f t c a ≡ 1
  unfolding hit
  hit-in e p q = rw (eq-eqb k c e, le-leb f a p, le-leb a t q)

  pub hit_other : (k ≡ c → ⊥) → hit k f t c a ≡ 0
  unfolding hit
  hit_other e = rw (ne_eqb k c e)

  pub hit-under : a < f → hit k f t c a ≡ 0
  unfolding hit
  hit-under h = rw (lt-leb f a h, and-false (eqb k c))

  pub hit-over : t < a → hit k f t c a ≡ 0
  unfolding hit
  hit-over h = rw (lt-leb a t h, and-false (leb f a), and-false (eqb k c))

  -- what a hit says
  pub hit-says : 1 ≤ hit k f t c a → (k ≡ c) × (f ≤ a) × (a ≤ t)
  hit-says h = (own (ℕ_discrete k c), low (dec_le f a), high (dec_le a t))
    where
      own : Dec (k ≡ c) → k ≡ c
      own (yes e) = e
      own (no e) = absurd (omega (arith, hit_other e))

      low : Dec (f ≤ a) → f ≤ a
      low (yes e) = e
      low (no e) = absurd (omega (arith, hit-under (omega arith)))

      high : Dec (a ≤ t) → a ≤ t
      high (yes e) = e
      high (no e) = absurd (omega (arith, hit-over (omega arith)))

module _ (class from to : ℕ → ℕ) where
  -- how many of the first j bands hold amount a of class c
  abbrev pub over : ℕ → ℕ → ℕ → ℕ
  over c a j = sum j (λ i. hit (class i) (from i) (to i) c a)

  -- of class c, the first j bands hold each amount below x once, and no other
  pub record Filled (c j x : ℕ) : Type 0 where
    pub once : (a : ℕ) → a < x → over c a j ≡ 1
    pub free : (a : ℕ) → x ≤ a → over c a j ≡ 0

  pub filled_none : (c j : ℕ) → ((i : ℕ) → i < j → class i < c) → Filled c j 0
  filled_none c j h = record {
    once = λ a b. absurd (omega arith);
    free = λ a b. sum-none j _ (λ i k. hit_other (class i) (from i) (to i) c a (λ e. omega (arith, h i k)));
  }

  -- a band of another class, and one that begins where the others end
  pub filled-other : (c j x : ℕ) → (class j ≡ c → ⊥) → Filled c j x → Filled c (j + 1) x
  filled-other c j x h s = record {
    once = λ a b. sum_more j _ ∙ omega (arith, s.once a b, hit_other (class j) (from j) (to j) c a h);
    free = λ a b. sum_more j _ ∙ omega (arith, s.free a b, hit_other (class j) (from j) (to j) c a h);
  }

  pub filled_more : (c j x : ℕ) → class j ≡ c → from j ≡ x → x ≤ to j → Filled c j x → Filled c (j + 1) (to j + 1)
  filled_more c j x e f h s = record {
    once = λ a b. sum_more j _ ∙ go a b (dec_lt a x);
    free = λ a b. sum_more j _ ∙ omega (arith, s.free a (omega arith), hit-over (class j) (from j) (to j) c a (omega arith));
  }
    where
      go : (a : ℕ) → a < to j + 1 → Dec (a < x) → over c a j + hit (class j) (from j) (to j) c a ≡ 1
      go a b (yes d) = omega (arith, s.once a d, hit-under (class j) (from j) (to j) c a (omega arith))
      go a b (no d) = omega (arith, s.free a (omega arith), hit-in (class j) (from j) (to j) c a e (omega arith) (omega arith))

  -- from place j on no band of class c begins below y: then no more bands hold what lies below y
  pub rest_over : (c j m y : ℕ) → j ≤ m → ((k : ℕ) → j ≤ k → k < m → class k ≡ c → y ≤ from k) → (a : ℕ) → a < y → over c a m ≡ over c a j
  rest_over c j m y h later a b = sum-rest m j _ h (λ k p q. go k p q (ℕ_discrete (class k) c))
    where
      go : (k : ℕ) → j ≤ k → k < m → Dec (class k ≡ c) → hit (class k) (from k) (to k) c a ≡ 0
      go k p q (yes e) = hit-under (class k) (from k) (to k) c a (omega (arith, later k p q e))
      go k p q (no e) = hit_other (class k) (from k) (to k) c a e

  -- two of the first j + 1 hold the start of a band that begins too low
  pub twice-over : (c j m x : ℕ) → j < m → class j ≡ c → from j < x → from j ≤ to j → Filled c j x → 2 ≤ over c (from j) m
  twice-over c j m x h e f g s =
      omega (
        arith,
        sum-part m (j + 1) (λ i. hit (class i) (from i) (to i) c (from j)) (omega arith),
        sum_more j (λ i. hit (class i) (from i) (to i) c (from j)),
        s.once (from j) f,
        hit-in (class j) (from j) (to j) c (from j) e (omega arith) g,
      )
