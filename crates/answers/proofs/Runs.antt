-- What a program answers, one step at a time: a test whose side is known, a cell whose word is known. Assumes nothing.
use mathlib.Core.Path.{◌≡◌, refl}
use mathlib.Core.List.{List}
use mathlib.Core.Option.{Option, some, Option-elim}
use Prim.Native.Nat.{ℕ, ◌≤◌, ◌<◌}
use borrow.Author.Tests.{le-leb, lt-leb, lt-ltb, le-ltb, eq-eqb, ne_eqb}
use Rattle.base.specs.Numbers.{Outcome}
use Rattle.answers.specs.Reading.{Reading, done, read, if_le, if_lt, if_eq, if_none, and_then, word_at, run}

module _ (t : List ℕ) (o : Outcome) where
  pub run-done : run t (done o) ≡ o
  unfolding run
  run-done = refl

  pub run-read : (cell w : ℕ) (k : ℕ → Reading) → word_at t cell ≡ w → run t (k w) ≡ o → run t (read cell k) ≡ o
  unfolding run
  run-read cell w k e h = rw e h

  pub run-some : (x : Option ℕ) (e : ℕ) (p : Reading) (q : ℕ → Reading) → x ≡ some e → run t (q e) ≡ o → run t (if_none x p q) ≡ o
  unfolding if_none Option-elim
  run-some x e p q s h = rw s h

  module _ (a b : ℕ) (p q : Reading) where
    pub run-le : a ≤ b → run t p ≡ o → run t (if_le a b p q) ≡ o
    unfolding if_le
    run-le h e = rw (le-leb a b h) e

    pub run-not-le : b < a → run t q ≡ o → run t (if_le a b p q) ≡ o
    unfolding if_le
    run-not-le h e = rw (lt-leb a b h) e

    pub run-lt : a < b → run t p ≡ o → run t (if_lt a b p q) ≡ o
    unfolding if_lt
    run-lt h e = rw (lt-ltb a b h) e

    pub run-not-lt : b ≤ a → run t q ≡ o → run t (if_lt a b p q) ≡ o
    unfolding if_lt
    run-not-lt h e = rw (le-ltb a b h) e

    pub run-eq : a ≡ b → run t p ≡ o → run t (if_eq a b p q) ≡ o
    unfolding if_eq
    run-eq h e = rw (eq-eqb a b h) e

    pub run-not-eq : (a ≡ b → ⊥) → run t q ≡ o → run t (if_eq a b p q) ≡ o
    unfolding if_eq
    run-not-eq h e = rw (ne_eqb a b h) e

-- a program, and then what f makes of its outcome
pub run-then : (t : List ℕ) (p : Reading) (f : Outcome → Reading) → run t (and_then p f) ≡ run t (f (run t p))
unfolding and_then run
run-then t (done o) f = refl
run-then t (read cell k) f = run-then t (k (word_at t cell)) f

pub ruleset runs = (run-done, run-read, run-some, run-le, run-not-le, run-lt, run-not-lt, run-eq, run-not-eq)
