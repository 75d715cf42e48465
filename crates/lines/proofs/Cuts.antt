-- A list parted at the next place of a separator. Assumes nothing.
use mathlib.Core.Path.{◌≡◌, sym, ap, ◌∙◌}
use mathlib.Core.List.{List, [], ◌∷◌, ◌++◌}
use Prim.Native.Nat.{ℕ, suc, ◌+◌, ◌-◌, ◌≤◌, ◌<◌}
use native.Mathlib.Omega.{arith}
use lib.ListN.{length, get_or, take, drop, length-take, length-drop}
use lib.Seq.{length-take-le, take_all, split_at, take-append-add, get_or-take, get_or-drop, drop-drop}
use Rattle.lines.specs.Fields.{parted}
use Rattle.lines.specs.Results.{NextByte, part}
use Rattle.lines.proofs.Parts.{Plain, parted-plain, parted-join}

-- how long a part is, and the bytes in it
module _ (l : List ℕ) (from e : ℕ) where
  pub part_length : e ≤ length l → length (part from e l) ≡ e - from
  part_length h = length-take-le (e - from) (drop from l) (omega (arith, length-drop from l))

  pub part-byte : (k : ℕ) → from ≤ k → k < e → get_or (part from e l) (k - from) 0 ≡ get_or l k 0
  part-byte k a b =
      let z : from + (k - from) ≡ k = omega arith in
      get_or-take (e - from) (drop from l) (k - from) 0 (omega arith) ∙ get_or-drop from l (k - from) 0 ∙ ap (λ j. get_or l j 0) z

-- a list without a byte at any of its places
plain_of : (sep : ℕ) (l : List ℕ) → ((k : ℕ) → k < length l → get_or l k 0 ≡ sep → ⊥) → Plain sep l
plain_of sep [] h = tt
plain_of sep (b ∷ l) h = (h 0 (omega arith), plain_of sep l (λ k i. h (suc k) (omega arith)))

module _ (sep : ℕ) (l : List ℕ) (from place : ℕ) (next : NextByte l sep from place) where
  -- up to the place there is no separator
  front-plain : (e : ℕ) → e ≤ place → Plain sep (part from e l)
  front-plain e h =
      plain_of sep (part from e l)
      (λ k i q.
      let b : k < e - from = omega (arith, length-take (e - from) (drop from l)) in
      next.others (from + k) (omega arith) (omega arith) (sym (get_or-take (e - from) (drop from l) k 0 b ∙ get_or-drop from l k 0) ∙ q))

  module _ (h : place < length l) where
    cut : drop from l ≡ part from place l ++ (sep ∷ drop (place + 1) l)
    cut =
        let z : from + (place - from) ≡ place = omega (arith, next.behind) in
        let y : from + suc (place - from) ≡ place + 1 = omega (arith, next.behind) in
        split_at (drop from l) (place - from) 0 (omega (arith, length-drop from l, next.behind))
        ∙ ap (λ b. part from place l ++ (b ∷ drop (suc (place - from)) (drop from l))) (get_or-drop from l (place - from) 0 ∙ ap (λ k. get_or l k 0) z ∙ next.there h)
        ∙ ap (λ g. part from place l ++ (sep ∷ g)) (drop-drop (suc (place - from)) from l ∙ ap (λ k. drop k l) y)

    -- a separator ends a part
    pub parted-next : parted sep (drop from l) ≡ part from place l ∷ parted sep (drop (place + 1) l)
    parted-next = ap (parted sep) cut ∙ parted-join sep (part from place l) (drop (place + 1) l) (front-plain place (omega arith))

    -- also in what stands up to a later place
    pub part-next : (e : ℕ) → place < e → parted sep (part from e l) ≡ part from place l ∷ parted sep (part (place + 1) e l)
    part-next e k =
        let z : e - from ≡ length (part from place l) + suc (e - (place + 1)) = omega (arith, part_length l from place (omega arith), next.behind) in
        ap (parted sep) (ap (take (e - from)) cut ∙ ap (λ n. take n (part from place l ++ (sep ∷ drop (place + 1) l))) z ∙ take-append-add (part from place l) (sep ∷ drop (place + 1) l) (suc (e - (place + 1))))
        ∙ parted-join sep (part from place l) (part (place + 1) e l) (front-plain place (omega arith))

  -- without one all that is left is one part
  pub part-last : (e : ℕ) → e ≤ place → parted sep (part from e l) ≡ part from e l ∷ []
  part-last e h = parted-plain sep (part from e l) (front-plain e h)

  pub parted-last : length l ≤ place → parted sep (drop from l) ≡ drop from l ∷ []
  parted-last h =
      let whole : part from place l ≡ drop from l = take_all (place - from) (drop from l) (omega (arith, length-drop from l)) in
      ap (parted sep) (sym whole) ∙ part-last place (omega arith) ∙ ap (λ f. f ∷ []) whole
