-- An answer in words, there and back. Assumes nothing.
use mathlib.Core.Path.{◌≡◌, refl, sym, ap, ◌∙◌}
use mathlib.Core.List.{List, [], ◌∷◌, ◌++◌}
use Prim.Native.Nat.{ℕ}
use native.Mathlib.Omega.{arith}
use lib.ListN.{length, get_or, take, drop, length-append}
use lib.Seq.{ext_get_or, take_at, get_or_at}
use Rattle.base.specs.Lists.{below}
use Rattle.base.proofs.Lists.{each-length, below_at}
use Rattle.answers.specs.Answers.{answer_words}
use Rattle.answers.specs.declared.Answer.{Answer}

-- the n words of a list, one by one
pub one_by_one : (n : ℕ) (l : List ℕ) → length l ≡ n → below n (λ i. get_or l i 0) ≡ l
one_by_one n l e = ext_get_or 0 (below n (λ i. get_or l i 0)) l (each-length n 0 _ ∙ sym e) (λ k h. below_at n (λ i. get_or l i 0) 0 k (omega (arith, each-length n 0 (λ i. get_or l i 0))))

-- two lists with a word behind each
last-same : (l m : List ℕ) (x y : ℕ) → l ++ (x ∷ []) ≡ m ++ (y ∷ []) → (l ≡ m) × (x ≡ y)
last-same l m x y e =
    let n : length l ≡ length m = omega (arith, ap length e, length-append l (x ∷ []), length-append m (y ∷ [])) in (
      sym (take_at l (x ∷ []) (length m) n) ∙ ap (take (length m)) e ∙ take_at m (y ∷ []) (length m) refl,
      sym (get_or_at l x [] 0 (length m) n) ∙ ap (λ k. get_or k (length m) 0) e ∙ get_or_at m y [] 0 (length m) refl,
    )

-- no two answers have the same words
pub words_same : (a b : Answer) → answer_words a ≡ answer_words b → a ≡ b
unfolding answer_words
words_same a b e =
    let number : a.number ≡ b.number = ap (λ l. get_or l 0 0) e in
    let word : a.word ≡ b.word = ap (λ l. get_or l 1 0) e in
    let cells = last-same a.cells.at b.cells.at a.cells.count b.cells.count (ap (drop 2) e) in
    λ i. record { number = number i; word = word i; cells = record { at = cells.0 i; count = cells.1 i } }
