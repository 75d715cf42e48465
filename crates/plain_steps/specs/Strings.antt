-- The shapes as strings of downs and ups. A string is a number: a leading one, then its steps, 0 for down and 1 for up. Assumes nothing.
use Rattle.std.specs.Prelude.{List, [], ◌∷◌, ◌++◌, Bool, true, false, cond, ℕ, zero, suc, ◌/◌, ◌%◌, eqb, leb}

-- the steps of a string, the last first, m at most: whether each is up
unfoldable pub steps_back : ℕ → ℕ → List Bool
steps_back zero string = []
steps_back (suc m) string = let before = steps_back m (string / 2) in cond (leb string 1) [] (eqb (string % 2) 1 ∷ before)

-- each down ends an up, and none is left, where so many ups are open
unfoldable pub closes : List Bool → ℕ → Bool
closes [] ups = eqb ups 0
closes (true ∷ l) ups = closes l (suc ups)
closes (false ∷ l) zero = false
closes (false ∷ l) (suc ups) = closes l ups

-- whether a string goes round a group; it has fewer steps than its number says
abbrev pub goes_round : ℕ → Bool
goes_round string = closes (steps_back string string) 0

-- those up to a number that go round a group, in increasing order
unfoldable pub strings : ℕ → List ℕ
strings zero = []
strings (suc n) = strings n ++ cond (goes_round (suc n)) (suc n ∷ []) []
