-- A program answers by the words in the cells that it lists, and by nothing else: once for every program. Assumes nothing.
use mathlib.Core.Path.{◌≡◌, refl, ap, ◌∙◌}
use mathlib.Core.List.{List, ◌∷◌}
use Prim.Native.Nat.{ℕ, zero, suc, ◌≤◌, zero-le, suc-le-suc}
use lib.ListN.{length}
use Rattle.answers.specs.Reading.{Reading, done, read, word_at, run, trace, Within, Agree}

-- on two tables with the same words in the cells read on one of them, a program gives the same outcome and reads the same cells
pub local-run : (t u : List ℕ) (p : Reading) → Agree t u (trace t p) → run t p ≡ run u p
unfolding run trace
local-run t u (done o) h = refl
local-run t u (read cell k) h = local-run t u (k (word_at t cell)) h.1 ∙ ap (λ (w : ℕ). run u (k w)) h.0

pub local-trace : (t u : List ℕ) (p : Reading) → Agree t u (trace t p) → trace t p ≡ trace u p
unfolding trace
local-trace t u (done o) h = refl
local-trace t u (read cell k) h =
    ap (λ (l : List ℕ). cell ∷ l) (local-trace t u (k (word_at t cell)) h.1 ∙ ap (λ (w : ℕ). trace u (k w)) h.0)

-- a bound on the reads is one on the cells listed
pub within-trace : (t : List ℕ) (b : ℕ) (p : Reading) → Within b p → length (trace t p) ≤ b
unfolding trace Within
within-trace t b (done o) h = zero-le
within-trace t zero (read cell k) h = absurd h
within-trace t (suc b) (read cell k) h = suc-le-suc (within-trace t b (k (word_at t cell)) (h (word_at t cell)))
