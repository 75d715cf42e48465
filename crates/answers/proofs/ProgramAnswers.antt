-- A program's answer, built up cell by cell, is its outcome with its cells; and what holds of every program's answer: few cells, locality.
-- Assumes nothing.
use mathlib.Core.Path.{◌≡◌, refl, sym, ap, ◌∙◌}
use mathlib.Core.List.{List, [], ◌∷◌, ◌++◌, append_assoc, append-nil}
use Prim.Native.Nat.{ℕ, suc, ◌+◌, ◌-◌, ◌≤◌, ◌<◌}
use native.Mathlib.Nat.{zero-lt-suc}
use native.Mathlib.Omega.{arith}
use lib.ListN.{length, get_or, take, set, replicate, length-append, get_or-append}
use lib.Seq.{set-append_seam, take_at}
use borrow.Author.Tests.{lt-ltb}
use Rattle.base.specs.Lists.{padded}
use Rattle.base.specs.Numbers.{Outcome}
use Rattle.answers.specs.Reading.{Reading, done, read, and_then, word_at, run, trace, Within, Agree}
use Rattle.answers.specs.Answers.{pushed, pushed_all, listed, answer_to, answer_from, SameAt}
use Rattle.answers.specs.declared.Cells.{Cells}
use Rattle.answers.proofs.Locality.{local-run, local-trace, within-trace}

-- what is left of a program adds its cells, and ends with its outcome
pub from_is : (t : List ℕ) (cs : Cells) (p : Reading) → answer_from t cs p ≡ record { number = (run t p).number; word = (run t p).word; cells = pushed_all cs (trace t p) }
unfolding answer_from run trace pushed_all
from_is t cs (done o) = refl
from_is t cs (read cell k) = from_is t (pushed cs cell) (k (word_at t cell))

-- one cell more, at the first unused place
pad-set : (k : ℕ) (xs : List ℕ) (cell : ℕ) → length xs < k → set (padded k xs) (length xs) cell ≡ padded k (xs ++ (cell ∷ []))
unfolding padded
pad-set k xs cell h =
    let m : k - length xs ≡ suc (k - length (xs ++ (cell ∷ []))) = omega (arith, length-append xs (cell ∷ [])) in
    rw m (set-append_seam xs 0 (replicate (k - length (xs ++ (cell ∷ []))) 0) cell ∙ sym (append_assoc xs (cell ∷ []) _))

push-listed : (xs : List ℕ) (cell : ℕ) → length xs < 15 → pushed (listed xs) cell ≡ listed (xs ++ (cell ∷ []))
unfolding pushed listed
push-listed xs cell h = simp (lt-ltb (length xs) 15 h, length-append, pad-set 15 xs cell h)

pub push-all-listed : (xs ys : List ℕ) → length xs + length ys ≤ 15 → pushed_all (listed xs) ys ≡ listed (xs ++ ys)
unfolding pushed_all
push-all-listed xs [] h = ap listed (sym (append-nil xs))
push-all-listed xs (y ∷ ys) h =
    ap (λ cs. pushed_all cs ys) (push-listed xs y (omega arith))
    ∙ push-all-listed (xs ++ (y ∷ [])) ys (omega (arith, length-append xs (y ∷ [])))
    ∙ ap listed (append_assoc xs (y ∷ []) ys)

-- the cells that an answer carries, as a list
pub listed_at : (xs : List ℕ) (i : ℕ) → i < length xs → get_or (listed xs).at i 0 ≡ get_or xs i 0
unfolding listed padded
listed_at xs i h = get_or-append xs (replicate (15 - length xs) 0) 0 i h

agree : (t u xs : List ℕ) → ((i : ℕ) → i < length xs → word_at t (get_or xs i 0) ≡ word_at u (get_or xs i 0)) → Agree t u xs
agree t u [] e = tt
agree t u (x ∷ xs) e = (e 0 (zero-lt-suc (length xs)), agree t u xs (λ i h. e (suc i) (omega arith)))

module _ (t : List ℕ) (b : ℕ) (p : Reading) (i : Within b p) where
  -- from the start, within fifteen cells, it is the program's answer
  pub whole : b ≤ 15 → answer_from t (listed []) p ≡ answer_to t p
  unfolding answer_to
  whole h = from_is t (listed []) p ∙ rw (push-all-listed [] (trace t p) (omega (arith, within-trace t b p i)))

  pub few : (answer_to t p).cells.count ≤ b
  unfolding answer_to listed
  few = within-trace t b p i

  -- any table with the same words in the cells listed gives the same answer
  pub locality : (u : List ℕ) → SameAt (answer_to t p) t u → answer_to u p ≡ answer_to t p
  unfolding answer_to listed
  locality u e =
      let same = agree t u (trace t p) (λ j h. (rw (listed_at (trace t p) j h) at (e j h))) in
      rw (local-run t u p same, local-trace t u p same)

-- the cells that an answer carries are those that its program read
pub cells-listed : (t : List ℕ) (p : Reading) → take (answer_to t p).cells.count (answer_to t p).cells.at ≡ trace t p
unfolding answer_to listed padded
cells-listed t p = take_at (trace t p) (replicate (15 - length (trace t p)) 0) (length (trace t p)) refl

-- a program, and then what is made of its outcome
pub then_is : (t : List ℕ) (cs : Cells) (p : Reading) (f : Outcome → Reading) → answer_from t cs (and_then p f) ≡ answer_from t (pushed_all cs (trace t p)) (f (run t p))
unfolding and_then answer_from run trace pushed_all
then_is t cs (done o) f = refl
then_is t cs (read cell k) f = then_is t (pushed cs cell) (k (word_at t cell)) f
