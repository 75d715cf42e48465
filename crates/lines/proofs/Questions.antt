-- What a line of a question says. Assumes nothing.
use mathlib.Core.Path.{◌≡◌, refl, sym, ap, ◌∙◌}
use mathlib.Core.List.{List, [], ◌∷◌, ◌++◌}
use mathlib.Core.Bool.{true, false, cond}
use mathlib.Core.Option.{Option, none, some, map, bind}
use Prim.Native.Nat.{ℕ, ◌+◌, ◌-◌, ◌<◌}
use native.Mathlib.Omega.{arith}
use lib.ListN.{length, take, drop}
use Rattle.lines.specs.Text.{comma}
use Rattle.lines.specs.Fields.{fields, number, single, Question, asked, question_of}
use Rattle.lines.specs.Results.{headed, NextByte, part}
use Rattle.lines.proofs.Digits.{number-comma}
use Rattle.lines.proofs.Parts.{Plain, single-read, parted-plain, parted-join, headed-read}
use Rattle.lines.proofs.LineFields.{Begins, head-is, part-rest}
use Rattle.lines.proofs.Cuts.{parted-next, parted-last}

-- the question of an entry and a depth that were read
abbrev pub both : Option ℕ → Option ℕ → Option Question
both a b = bind a (λ v. map (λ d. record { entry = v; depth = d }) b)

pub both-none : (a : Option ℕ) → both a none ≡ none
unfolding bind
both-none none = refl
both-none (some v) = refl

pub asked-plain : (f : List ℕ) → Plain comma f → asked (fields f) ≡ none
unfolding asked
asked-plain f h = rw (parted-plain comma f h)

-- the second field is all that is left, for a number has no comma in it
asked-single : (f : List ℕ) (fs : List (List ℕ)) → asked (f ∷ fs) ≡ both (number f) (bind (single fs) number)
unfolding asked single bind
asked-single f [] = sym (both-none (number f))
asked-single f (g ∷ []) = refl
asked-single f (g ∷ h ∷ fs) = sym (both-none (number f))

asked-last : (f g : List ℕ) → asked (f ∷ fields g) ≡ both (number f) (number g)
asked-last f g = asked-single f (fields g) ∙ ap (both (number f)) (single-read number number-comma g)

pub asked-join : (f g : List ℕ) → Plain comma f → asked (fields (f ++ (comma ∷ g))) ≡ both (number f) (number g)
asked-join f g h = ap asked (parted-join comma f g h) ∙ asked-last f g

pub question-is : (line : List ℕ) → question_of line ≡ cond (headed 81 line) (asked (fields (drop 2 line))) none
unfolding question_of asked
question-is line = headed-read 81 (λ e. omega arith) asked refl line

pub question-none : (line : List ℕ) → Begins 81 line false → none ≡ question_of line
question-none line h = rw (question-is line, head-is 81 line false h)

module _ (line : List ℕ) (h : Begins 81 line true) (rest : List ℕ) (e : rest ≡ drop 2 line) where
  behind : question_of line ≡ asked (fields rest)
  behind = rw (question-is line, head-is 81 line true h, e)

  -- no comma stands behind the letter's, or the first one at c
  pub question-short : NextByte rest comma 0 (length rest) → none ≡ question_of line
  unfolding asked
  question-short next = sym (behind ∙ ap asked (parted-last comma rest 0 (length rest) next (omega arith)))

  module _ (c : ℕ) (next : NextByte rest comma 0 c) (within : c < length rest) where
    abbrev first : Option ℕ
    first = number (take c rest)

    abbrev second : Option ℕ
    second = number (part (c + 1) (length rest) rest)

    two : question_of line ≡ both first second
    two =
        behind
        ∙ ap asked (parted-next comma rest 0 c next within)
        ∙ asked-last (part 0 c rest) (drop (c + 1) rest)
        ∙ ap (λ k. both (number (take k rest)) (number (drop (c + 1) rest))) z
        ∙ ap (λ l. both first (number l)) (sym (part-rest (c + 1) rest))
      where
        z : c - 0 ≡ c
        z = omega arith

    pub question-first : none ≡ first → none ≡ question_of line
    unfolding bind
    question-first n = rw (two, sym n)

    pub question-second : none ≡ second → none ≡ question_of line
    unfolding bind
    question-second n = rw (two, sym n, both-none first)

    pub question-read : (v d : ℕ) → some v ≡ first → some d ≡ second → some (record { entry = v; depth = d }) ≡ question_of line
    unfolding bind
    question-read v d m n = rw (two, sym m, sym n)
