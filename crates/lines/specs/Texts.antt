-- A text by value. Assumes nothing.
use Rattle.std.specs.Prelude.{◌≡◌, List, ◌++◌, ℕ, ◌-◌, ◌≤◌, length, take, drop, replicate}
use Rattle.std.proofs.Common.{◌∙◌, sym, ap, subst, length-take-le, take-append-drop}
use Rattle.base.specs.Lists.{padded}

-- the bytes of a text: the first of an array, as many as its count
abbrev pub said : List ℕ → ℕ → List ℕ
said bytes count = take count bytes

-- a row has at most so many bytes
abbrev pub row_room : ℕ
row_room = 64

-- past its bytes a text's array is zero, so that its bytes give it back
pub record Filled (bytes : List ℕ) (count : ℕ) : Type 0 where
  pub fits : count ≤ row_room
  pub size : length bytes ≡ row_room
  pub rest : drop count bytes ≡ replicate (row_room - count) 0

-- the fields of such a text, from its bytes
module _ {bytes : List ℕ} {count : ℕ} (f : Filled bytes count) where
  pub count-back : length (said bytes count) ≡ count
  count-back = length-take-le count bytes (subst (λ n. count ≤ n) (sym f.size) f.fits)

  pub bytes-back : padded row_room (said bytes count) ≡ bytes
  unfolding padded
  bytes-back =
      ap (λ n. said bytes count ++ replicate (row_room - n) 0) count-back ∙ ap (λ r. said bytes count ++ r) (sym f.rest) ∙ take-append-drop count bytes
