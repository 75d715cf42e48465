-- The fields of a text, each with a comma (44) behind it. Assumes nothing.
use Rattle.std.specs.Prelude.{ℕ, zero, suc, cond, List, [], ◌∷◌, ◌==◌}

-- what stands behind so many commas
unfoldable pub behind_commas : ℕ → List ℕ → List ℕ
behind_commas zero l = l
behind_commas (suc k) [] = []
behind_commas (suc k) (x ∷ l) = cond (x == 44) (behind_commas k l) (behind_commas (suc k) l)

-- what stands up to the first comma, with it: all, where there is none
unfoldable pub to_comma : List ℕ → List ℕ
to_comma [] = []
to_comma (x ∷ l) = x ∷ cond (x == 44) [] (to_comma l)
