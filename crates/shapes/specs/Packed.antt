-- How the shape table is packed: a shape as one word, with the path from each local number up to the root and the climbs out of the group, and the climbs along a path as one word. Assumes nothing.
use Rattle.std.specs.Prelude.{◌≡◌, List, [], ◌∷◌, cond, ℕ, zero, suc, ◌*◌, ◌/◌, ◌%◌, ◌^◌, eqb, ltb, get_or}
use Rattle.base.specs.Limits.{group_limit, local_span}
use Rattle.base.specs.Lists.{below}
use Rattle.shapes.specs.Climbs.{reached, climbs_out, mark}

-- the byte of a word at a place, the lowest first
abbrev pub byte : ℕ → ℕ → ℕ
byte word i = word / 2 ^ (8 * i) % 256

-- the local numbers up to n on a path, from the greatest down to the root: a bit for each but the root, the lowest for 1
abbrev pub upward : ℕ → ℕ → List ℕ
upward zero path = 0 ∷ []
upward (suc n) path = cond (eqb (path / 2 ^ n % 2) 1) (suc n ∷ upward n path) (upward n path)

-- the first n of a list, and 255 past its end
abbrev pub filled : ℕ → List ℕ → List ℕ
filled zero l = []
filled (suc n) [] = 255 ∷ filled n []
filled (suc n) (x ∷ l) = x ∷ filled n l

-- the row of climbs along a path; 64 and more are no path
unfoldable pub path_row : ℕ → List ℕ
path_row path = cond (ltb path 64) (filled group_limit (upward 6 path)) (filled group_limit [])

-- the field of a shape's word for local number l, nine bits each, the lowest nine for 0: the lowest three say how many climbs lead out of the group, 0 where the shape
-- has no such local number; the six above them are the path
abbrev pub field : ℕ → ℕ → ℕ
field word l = word / 2 ^ (9 * l) % 512

abbrev pub out_in : ℕ → ℕ
out_in f = f % 8

-- the row of climbs by a field, and the local number that k climbs reach in it, 255 where there is none
unfoldable pub field_row : ℕ → List ℕ
field_row f = cond (eqb (out_in f) 0) (filled group_limit []) (path_row (f / 8 % 64))

unfoldable pub cell_in : ℕ → ℕ → ℕ
cell_in f k = get_or (field_row f) k 255

-- the rows of a shape's word, and the climbs that lead out: of each local number that KIND can name
unfoldable pub field_rows : ℕ → List (List ℕ)
field_rows word = below local_span (λ l. field_row (field word l))

unfoldable pub field_outs : ℕ → List ℕ
field_outs word = below local_span (λ l. out_in (field word l))

-- a field has the row of local number l of shape s, and the climbs that lead out
pub record Packs (s l f : ℕ) : Type 0 where
  pub cells : (k : ℕ) → cell_in f k ≡ mark (reached group_limit s l k)
  pub out : out_in f ≡ climbs_out group_limit s l
