-- Bytes as they are printed. Assumes nothing.
use Rattle.std.specs.Prelude.{List, [], ◌∷◌, ◌++◌, cond, ℕ, zero, suc, ◌+◌, ◌/◌, ◌%◌, ltb}

abbrev pub comma : ℕ
comma = 44

abbrev pub dash : ℕ
dash = 45

abbrev pub line_feed : ℕ
line_feed = 10

-- the last m decimal digits of x, without leading zeros
unfoldable pub digits : ℕ → ℕ → List ℕ
digits zero x = []
digits (suc m) x = cond (ltb x 10) ((48 + x) ∷ []) (digits m (x / 10) ++ ((48 + x % 10) ∷ []))

-- a number in decimal, of up to twenty digits: every number of 64 bits
abbrev pub decimal : ℕ → List ℕ
decimal x = digits 20 x

-- fields parted by commas, with a line feed at the end
unfoldable pub row : List (List ℕ) → List ℕ
row [] = line_feed ∷ []
row (f ∷ []) = f ++ (line_feed ∷ [])
row (f ∷ g ∷ fs) = f ++ (comma ∷ row (g ∷ fs))
