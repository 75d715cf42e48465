-- One tree under a renumbering (2026-06): "A branch office types the same tree with its entries numbered in another order." In words of parents alone. Assumes nothing.
use Rattle.std.specs.Prelude.{◌≡◌, List, ℕ, ◌≤◌, ◌<◌, length, get_or}
use Rattle.tree.specs.Parents.{word}

-- r v is the new number of v: one to one, from 0 to n − 1 onto itself. A number of n or more is no entry's, and stays: the top mark, a stray word
pub record Renumbering (n : ℕ) (r : ℕ → ℕ) : Type 0 where
  pub within : (v : ℕ) → v < n → r v < n
  pub one-one : (u v : ℕ) → u < n → v < n → r u ≡ r v → u ≡ v
  pub onto : (w : ℕ) → w < n → (v : ℕ) × (v < n) × (r v ≡ w)
  pub others : (v : ℕ) → n ≤ v → r v ≡ v

-- "two lists describe one tree under a renumbering": they are of one length, and the word of each entry's new number is the new number of its word. Any list of words has
-- its renumbered ones; no tree is supposed
pub record Renumbered (r : ℕ → ℕ) (ps qs : List ℕ) : Type 0 where
  pub numbers : Renumbering (length ps) r
  pub size : length qs ≡ length ps
  pub words : (v : ℕ) → v < length ps → word qs (r v) ≡ r (word ps v)

-- "rate lists of n rates" renumbered alike: the rate of each entry's new number is its rate
pub record SameRates (r : ℕ → ℕ) (n : ℕ) (rates others : List ℕ) : Type 0 where
  pub size : length rates ≡ n
  pub other-size : length others ≡ n
  pub words : (v : ℕ) → v < n → get_or others (r v) 0 ≡ get_or rates v 0
