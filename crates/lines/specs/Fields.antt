-- What a line says: its fields in fixed order, parted by commas. Assumes nothing.
use Rattle.std.specs.Prelude.{List, [], ◌∷◌, Bool, cond, ◌&&◌, ℕ, ◌+◌, ◌*◌, ◌-◌, length, eqb, leb}
use Rattle.std.proofs.Math.Option.{Option, none, some, map, bind}
use Rattle.base.specs.Lists.{every}
use Rattle.base.specs.Limits.{top_mark}
use Rattle.lines.specs.Text.{comma, dash}

-- the parts of a list between the places where a byte stands: one more than there are such places
onto : ℕ → List (List ℕ) → List (List ℕ)
onto b [] = (b ∷ []) ∷ []
onto b (f ∷ fs) = (b ∷ f) ∷ fs

unfoldable pub parted : ℕ → List ℕ → List (List ℕ)
unfolding onto
parted sep [] = [] ∷ []
parted sep (b ∷ l) = cond (eqb b sep) ([] ∷ parted sep l) (onto b (parted sep l))

abbrev pub fields : List ℕ → List (List ℕ)
fields line = parted comma line

-- "up to ten digits, leading zeros allowed, at most 4,294,967,295"
abbrev pub is_digit : ℕ → Bool
is_digit b = leb 48 b && leb b 57

abbrev pub most_digits : ℕ
most_digits = 10

abbrev pub most_number : ℕ
most_number = 4294967295

unfoldable pub value : ℕ → List ℕ → ℕ
value acc [] = acc
value acc (b ∷ l) = value (10 * acc + (b - 48)) l

unfoldable pub is_number : List ℕ → Bool
is_number f = leb 1 (length f) && (leb (length f) most_digits && (every is_digit f && leb (value 0 f) most_number))

unfoldable pub number : List ℕ → Option ℕ
number f = cond (is_number f) (some (value 0 f)) none

-- the fields behind a first field that is one stated letter
unfoldable pub tagged : ℕ → List (List ℕ) → Option (List (List ℕ))
tagged letter [] = none
tagged letter ([] ∷ fs) = none
tagged letter ((b ∷ []) ∷ fs) = cond (eqb b letter) (some fs) none
tagged letter ((b ∷ c ∷ f) ∷ fs) = none

-- the one field, where there is just one
unfoldable pub single : List (List ℕ) → Option (List ℕ)
single [] = none
single (f ∷ []) = some f
single (f ∷ g ∷ fs) = none

-- `N,count`
unfoldable pub count_of : List ℕ → Option ℕ
count_of line = bind (tagged 78 (fields line)) (λ fs. bind (single fs) number)

-- `P,parent`, or `P,-` for the top
unfoldable pub parent_field : List ℕ → Option ℕ
parent_field [] = none
parent_field (b ∷ []) = cond (eqb b dash) (some top_mark) (number (b ∷ []))
parent_field (b ∷ c ∷ f) = number (b ∷ c ∷ f)

unfoldable pub parent_of : List ℕ → Option ℕ
parent_of line = bind (tagged 80 (fields line)) (λ fs. bind (single fs) parent_field)

-- `Q,entry,depth`
pub record Question : Type 0 where
  pub entry : ℕ
  pub depth : ℕ

unfoldable pub asked : List (List ℕ) → Option Question
asked [] = none
asked (f ∷ []) = none
asked (f ∷ g ∷ []) = bind (number f) (λ v. map (λ d. record { entry = v; depth = d }) (number g))
asked (f ∷ g ∷ h ∷ fs) = none

unfoldable pub question_of : List ℕ → Option Question
question_of line = bind (tagged 81 (fields line)) asked
