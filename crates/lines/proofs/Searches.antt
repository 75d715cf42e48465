-- A search for the next place of a byte. Assumes nothing.
use mathlib.Core.Path.{◌≡◌, sym, ap, ◌∙◌}
use mathlib.Core.List.{List}
use Prim.Native.Nat.{ℕ, zero, suc, ◌+◌, ◌≤◌, ◌<◌}
use native.Mathlib.Omega.{arith}
use native.Mathlib.Decide.{ℕ_discrete, dec_lt}
use lib.ListN.{length, get_or}
use Rattle.lines.specs.Results.{NextByte}

-- no such byte stands from a place on before i
pub record Free (bytes : List ℕ) (byte from i : ℕ) : Type 0 where
  pub behind : from ≤ i
  pub within : from ≤ length bytes → i ≤ length bytes
  pub others : (k : ℕ) → from ≤ k → k < i → get_or bytes k 0 ≡ byte → ⊥

module _ (bytes : List ℕ) (byte from : ℕ) where
  pub free-none : Free bytes byte from from
  free-none = record { behind = omega arith; within = λ h. h; others = λ k a b. absurd (omega arith) }

  module _ (i : ℕ) (p : Free bytes byte from i) where
    pub free_more : i < length bytes → (get_or bytes i 0 ≡ byte → ⊥) → Free bytes byte from (i + 1)
    free_more h n = record { behind = omega (arith, p.behind); within = λ a. omega arith; others = λ k a b. go k a b (ℕ_discrete k i) }
      where
        go : (k : ℕ) → from ≤ k → k < i + 1 → Dec (k ≡ i) → get_or bytes k 0 ≡ byte → ⊥
        go k a b (yes e) q = n (ap (λ j. get_or bytes j 0) (sym e) ∙ q)
        go k a b (no e) q = p.others k a (omega arith) q

    -- the search ends at the byte, or past the end
    pub free-next : (i < length bytes → get_or bytes i 0 ≡ byte) → NextByte bytes byte from i
    free-next e = record { behind = p.behind; within = p.within; others = p.others; there = e }

    -- the byte is met no earlier
    pub free-least : (place : ℕ) → NextByte bytes byte from place → place < length bytes → i ≤ place
    free-least place next h = go (dec_lt place i)
      where
        go : Dec (place < i) → i ≤ place
        go (yes k) = absurd (p.others place next.behind k (next.there h))
        go (no k) = omega arith

  -- there is no more than one next place of it in the list
  next-least : (place : ℕ) → NextByte bytes byte from place → (k : ℕ) → from ≤ k → get_or bytes k 0 ≡ byte → place ≤ k
  next-least place next k h e = go (dec_lt k place)
    where
      go : Dec (k < place) → place ≤ k
      go (yes l) = absurd (next.others k h l e)
      go (no l) = omega arith

  pub next-same : (p q : ℕ) → NextByte bytes byte from p → p < length bytes → NextByte bytes byte from q → q < length bytes → p ≡ q
  next-same p q m h n k = omega (arith, next-least p m q n.behind (n.there k), next-least q n p m.behind (m.there h))

  -- there is a next place of any byte
  pub next_place : (place : ℕ) × NextByte bytes byte from place
  next_place = search (length bytes) from free-none (omega arith)
    where
      search : (m i : ℕ) → Free bytes byte from i → length bytes ≤ i + m → (place : ℕ) × NextByte bytes byte from place
      search zero i p h = (i, free-next i p (λ k. absurd (omega arith)))
      search (suc m) i p h = go (dec_lt i (length bytes)) (ℕ_discrete (get_or bytes i 0) byte) (λ q. search m (i + 1) q (omega arith))
        where
          go : Dec (i < length bytes) → Dec (get_or bytes i 0 ≡ byte) → (Free bytes byte from (i + 1) → (place : ℕ) × NextByte bytes byte from place) → (place : ℕ) × NextByte bytes byte from place
          go (no k) d later = (i, free-next i p (λ l. absurd (k l)))
          go (yes k) (yes e) later = (i, free-next i p (λ l. e))
          go (yes k) (no n) later = later (free_more i p k n)
