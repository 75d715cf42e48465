-- What a line says, by its letter and by the parts behind it. Assumes nothing.
use mathlib.Core.Path.{◌≡◌, refl, sym, ap, ◌∙◌}
use mathlib.Core.List.{List, [], ◌∷◌, ◌++◌}
use mathlib.Core.Bool.{Bool, true, false, cond}
use mathlib.Core.Option.{Option, none, some, bind}
use Prim.Native.Nat.{ℕ, ◌-◌}
use native.Mathlib.Omega.{arith}
use lib.ListN.{length, get_or, take, drop, length-drop}
use lib.Seq.{take_all}
use lib.Dec.{eqb}
use borrow.Author.Tests.{eq-eqb, ne_eqb}
use Rattle.std.specs.Cmp.Lexicographic.{pointwise}
use Rattle.base.specs.Limits.{top_mark}
use Rattle.lines.specs.Text.{comma, dash}
use Rattle.lines.specs.Fields.{is_number, number, single, count_of, parent_field, parent_of}
use Rattle.lines.specs.Results.{headed, part}
use Rattle.lines.proofs.Digits.{number-comma}
use Rattle.lines.proofs.Parts.{single-read, headed-read, headed-prefix}

-- all that is left of a line
pub part-rest : (a : ℕ) (line : List ℕ) → part a (length line) line ≡ drop a line
part-rest a line = take_all (length line - a) (drop a line) (omega (arith, length-drop a line))

-- `N,count`
pub count-is : (line : List ℕ) → count_of line ≡ cond (headed 78 line) (number (drop 2 line)) none
unfolding count_of single bind
count-is line =
    headed-read 78 (λ e. omega arith) (λ fs. bind (single fs) number) refl line
    ∙ ap (λ o. cond (headed 78 line) o none) (single-read number number-comma (drop 2 line))

-- a line that begins otherwise than with a letter and a comma, or what stands behind these
abbrev pub Begins : ℕ → List ℕ → Bool → Type 0
Begins letter line t = pointwise eqb (take 2 line) (letter ∷ comma ∷ []) ≡ t

pub head-is : (letter : ℕ) (line : List ℕ) (t : Bool) → Begins letter line t → headed letter line ≡ t
head-is letter line t h = sym (headed-prefix letter line) ∙ h

pub count_none : (line : List ℕ) → Begins 78 line false → none ≡ count_of line
count_none line h = rw (count-is line, head-is 78 line false h)

pub count-read : (line : List ℕ) → Begins 78 line true → (field : List ℕ) → field ≡ drop 2 line → (o : Option ℕ) → o ≡ number field → o ≡ count_of line
count-read line h field e o q = rw (q, count-is line, head-is 78 line true h, e)

-- `P,parent`: a field that is a dash alone, or not
parent-dash : (line : List ℕ) → length line ≡ 3 → get_or line 2 0 ≡ dash → parent_field (drop 2 line) ≡ some top_mark
unfolding parent_field
parent-dash [] e q = absurd (omega arith)
parent-dash (a ∷ []) e q = absurd (omega arith)
parent-dash (a ∷ b ∷ []) e q = absurd (omega arith)
parent-dash (a ∷ b ∷ c ∷ []) e q = rw (eq-eqb c dash q)
parent-dash (a ∷ b ∷ c ∷ d ∷ l) e q = absurd (omega arith)

parent-plain : (field : List ℕ) → (field ≡ dash ∷ [] → ⊥) → parent_field field ≡ number field
unfolding parent_field number is_number
parent-plain [] n = refl
parent-plain (b ∷ []) n = rw (ne_eqb b dash (λ q. n (ap (λ x. x ∷ []) q)))
parent-plain (b ∷ c ∷ f) n = refl

parent-comma : (f g : List ℕ) → parent_field (f ++ (comma ∷ g)) ≡ none
unfolding parent_field
parent-comma [] [] = number-comma [] []
parent-comma [] (b ∷ g) = number-comma [] (b ∷ g)
parent-comma (b ∷ []) g = number-comma (b ∷ []) g
parent-comma (b ∷ c ∷ f) g = number-comma (b ∷ c ∷ f) g

pub parent_is : (line : List ℕ) → parent_of line ≡ cond (headed 80 line) (parent_field (drop 2 line)) none
unfolding parent_of single bind
parent_is line =
    headed-read 80 (λ e. omega arith) (λ fs. bind (single fs) parent_field) refl line
    ∙ ap (λ o. cond (headed 80 line) o none) (single-read parent_field parent-comma (drop 2 line))

pub parent-none : (line : List ℕ) → Begins 80 line false → none ≡ parent_of line
parent-none line h = rw (parent_is line, head-is 80 line false h)

module _ (line : List ℕ) (h : Begins 80 line true) (field : List ℕ) (e : field ≡ drop 2 line) where
  behind : parent_of line ≡ parent_field field
  behind = rw (parent_is line, head-is 80 line true h, e)

  -- a field that is a dash alone, or not
  pub parent-top : field ≡ dash ∷ [] → some top_mark ≡ parent_of line
  unfolding parent_field
  parent-top d = sym (behind ∙ ap parent_field d)

  pub parent-read : (field ≡ dash ∷ [] → ⊥) → (o : Option ℕ) → o ≡ number field → o ≡ parent_of line
  parent-read n o q = q ∙ sym (behind ∙ parent-plain field n)
