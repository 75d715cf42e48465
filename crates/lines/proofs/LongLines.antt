-- A line that is longer than any known form says nothing, whatever follows it. Assumes nothing.
use mathlib.Core.Path.{◌≡◌, refl, sym, ap, ◌∙◌}
use mathlib.Core.Logic.{◌⊎◌, inl, inr}
use mathlib.Core.List.{List, [], ◌∷◌, ◌++◌}
use mathlib.Core.Bool.{Bool, true, false, cond}
use mathlib.Core.Option.{Option, none, bind, Option-elim}
use Prim.Native.Nat.{ℕ, suc, ◌+◌, ◌<◌}
use native.Mathlib.Omega.{arith}
use native.Mathlib.Decide.{dec_lt}
use lib.ListN.{length, drop, length-drop, length-append}
use Rattle.lines.specs.Text.{comma, line_feed}
use Rattle.lines.specs.Fields.{parted, fields, number, count_of, parent_field, parent_of, asked, question_of}
use Rattle.lines.specs.Results.{headed}
use Rattle.lines.specs.Counter.{bad_line, answering, listing, opening}
use Rattle.lines.specs.Stages.{Stage, counting, parenting, asking, ended, remaining, on_end, most_bytes}
use Rattle.lines.proofs.Digits.{read-long}
use Rattle.lines.proofs.Parts.{Plain, Join, plain-or, parted-some, parted-onto}
use Rattle.lines.proofs.LineFields.{count-is, parent_is}
use Rattle.lines.proofs.Questions.{both, both-none, asked-plain, asked-join, question-is}

-- a number has at most ten bytes, and so has the field of a parent
number-overlong : (f : List ℕ) → 10 < length f → number f ≡ none
number-overlong f h = sym (read-long f h)

parent_field-overlong : (f : List ℕ) → 10 < length f → parent_field f ≡ none
unfolding parent_field
parent_field-overlong [] h = refl
parent_field-overlong (b ∷ []) h = absurd (omega arith)
parent_field-overlong (b ∷ c ∷ f) h = number-overlong (b ∷ c ∷ f) h

-- two numbers and the comma between them have at most twenty-one
asked-overlong : (f : List ℕ) → 21 < length f → asked (fields f) ≡ none
unfolding bind
asked-overlong f h = go (plain-or comma f)
  where
    halves : (a b : List ℕ) → Dec (10 < length a) → 21 < length a + suc (length b) → both (number a) (number b) ≡ none
    halves a b (yes k) i = ap (λ o. both o (number b)) (number-overlong a k)
    halves a b (no k) i = ap (both (number a)) (number-overlong b (omega arith)) ∙ both-none (number a)

    go : Plain comma f ⊎ Join comma f → asked (fields f) ≡ none
    go (inl p) = asked-plain f p
    go (inr j) =
        let i : length f ≡ length j.front + suc (length j.back) = ap length j.is ∙ length-append j.front (comma ∷ j.back) in
        ap (λ l. asked (fields l)) j.is
        ∙ asked-join j.front j.back j.plain
        ∙ halves j.front j.back (dec_lt 10 (length j.front)) (omega (arith, i))

cond-none : {A : Type 0} (o : Option A) (t : Bool) → o ≡ none → cond t o none ≡ none
cond-none o true e = e
cond-none o false e = refl

-- a line has two bytes more: its letter, and the comma behind it
pub count-overlong : (l : List ℕ) → 12 < length l → count_of l ≡ none
count-overlong l h = count-is l ∙ cond-none (number (drop 2 l)) (headed 78 l) (number-overlong (drop 2 l) (omega (arith, length-drop 2 l)))

pub parent-overlong : (l : List ℕ) → 12 < length l → parent_of l ≡ none
parent-overlong l h = parent_is l ∙ cond-none (parent_field (drop 2 l)) (headed 80 l) (parent_field-overlong (drop 2 l) (omega (arith, length-drop 2 l)))

pub question-overlong : (l : List ℕ) → 23 < length l → question_of l ≡ none
question-overlong l h = question-is l ∙ cond-none (asked (fields (drop 2 l))) (headed 81 l) (asked-overlong (drop 2 l) (omega (arith, length-drop 2 l)))

-- no stage takes the overlong first piece of the input: as the last piece it is cut short, else no reader takes it
module _ (l : List ℕ) (long : most_bytes < length l) where
  long-count : (t : List (List ℕ)) → opening (l ∷ t) ≡ bad_line 1
  unfolding opening Option-elim
  long-count [] = refl
  long-count (r ∷ ls) = rw (count-overlong l (omega arith))

  long-parent : (m : ℕ) (ps : List ℕ) (k : ℕ) (t : List (List ℕ)) → listing (suc m) ps k (l ∷ t) ≡ bad_line k
  unfolding listing Option-elim
  long-parent m ps k [] = refl
  long-parent m ps k (r ∷ ls) = rw (parent-overlong l (omega arith))

long-question : (l : List ℕ) → most_bytes < length l → (table : List ℕ) (k : ℕ) (t : List (List ℕ)) → answering table k (l ∷ t) ≡ bad_line k
unfolding answering Option-elim
long-question [] h table k t = absurd (omega arith)
long-question (b ∷ l) h table k [] = refl
long-question (b ∷ l) h table k (r ∷ ls) = rw (question-overlong (b ∷ l) h)

-- bytes without a line feed that are too many for a line, whatever follows: as if the input ended there
pub long-text : (l rest : List ℕ) → Plain line_feed l → most_bytes < length l → (s : Stage) → remaining s (l ++ rest) ≡ on_end s l
unfolding remaining on_end
long-text l rest p h s = go s
  where
    first : List ℕ
    first = l ++ (parted-some line_feed rest).0

    others : List (List ℕ)
    others = (parted-some line_feed rest).1

    are : parted line_feed (l ++ rest) ≡ first ∷ others
    are = parted-onto line_feed l rest (parted-some line_feed rest).0 others p (parted-some line_feed rest).2

    long : most_bytes < length first
    long = omega (arith, length-append l (parted-some line_feed rest).0)

    cut : (l : List ℕ) → most_bytes < length l → (table : List ℕ) (k : ℕ) → bad_line k ≡ on_end (asking table k) l
    cut [] h table k = absurd (omega arith)
    cut (b ∷ l) h table k = refl

    go : (s : Stage) → remaining s (l ++ rest) ≡ on_end s l
    go counting = ap opening are ∙ long-count first long others
    go (parenting m ps k) = ap (listing (suc m) ps k) are ∙ long-parent first long m ps k others
    go (asking table k) = ap (answering table k) are ∙ long-question first long table k others ∙ cut l h table k
    go ended = refl
