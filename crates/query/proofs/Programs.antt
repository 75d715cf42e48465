-- How a program's answer goes on over a test, a read and an end: `steps` has `search` walk a program by these. Assumes nothing.
use Rattle.std.proofs.Common.{◌≡◌, ℕ, ◌+◌, ◌<◌, ◌≤◌, List, [], ◌∷◌, ◌++◌, length, take, sym, refl, ap, ◌∙◌, arith, length-append, le-ltb, lt-ltb, eq-eqb, ne_eqb, le-leb}
use mathlib.Core.Option.{Option, none, some, Option-elim}
use borrow.Author.Tests.{lt-leb}
use lib.Seq.{take-append_seam}
use Rattle.base.specs.Lists.{padded}
use Rattle.base.specs.Numbers.{Outcome}
use Rattle.answers.specs.Reading.{Reading, done, read, if_le, if_lt, if_eq, if_none}
use Rattle.answers.specs.Answers.{pushed, pushed_all, listed, answer_from, answer_words}
use Rattle.answers.specs.declared.Cells.{Cells}
use Rattle.answers.specs.declared.Answer.{Answer}
use Rattle.answers.proofs.ProgramAnswers.{push-all-listed}
use Rattle.query.specs.Reads.{Held, Reads}

module _ (r : Answer) (t : List ℕ) (cs : Cells) where
  pub ends : (o : Outcome) → r ≡ record { number = o.number; word = o.word; cells = cs } → r ≡ answer_from t cs (done o)
  unfolding answer_from
  ends o e = e

  pub reads : (cell : ℕ) (k : ℕ → Reading) (word : ℕ) (more : Cells) → Reads t cell cs word more → r ≡ answer_from t more (k word) → r ≡ answer_from t cs (read cell k)
  unfolding answer_from
  reads cell k word more e h = rw (e.word-is, e.more-is) at h

  module _ (a b : ℕ) (p q : Reading) where
    pub le_yes : a ≤ b → r ≡ answer_from t cs p → r ≡ answer_from t cs (if_le a b p q)
    unfolding if_le
    le_yes h e = simp (le-leb a b h) e

    pub le-no : b < a → r ≡ answer_from t cs q → r ≡ answer_from t cs (if_le a b p q)
    unfolding if_le
    le-no h e = simp (lt-leb a b h) e

    pub lt_yes : a < b → r ≡ answer_from t cs p → r ≡ answer_from t cs (if_lt a b p q)
    unfolding if_lt
    lt_yes h e = simp (lt-ltb a b h) e

    pub lt_no : b ≤ a → r ≡ answer_from t cs q → r ≡ answer_from t cs (if_lt a b p q)
    unfolding if_lt
    lt_no h e = simp (le-ltb a b h) e

    pub eq_yes : a ≡ b → r ≡ answer_from t cs p → r ≡ answer_from t cs (if_eq a b p q)
    unfolding if_eq
    eq_yes h e = simp (eq-eqb a b h) e

    pub eq_no : (a ≡ b → ⊥) → r ≡ answer_from t cs q → r ≡ answer_from t cs (if_eq a b p q)
    unfolding if_eq
    eq_no h e = simp (ne_eqb a b h) e

  module _ (o : Option ℕ) (p : Reading) (q : ℕ → Reading) where
    pub is_none : o ≡ none → r ≡ answer_from t cs p → r ≡ answer_from t cs (if_none o p q)
    unfolding if_none Option-elim
    is_none h e = rw h e

    pub is_some : (x : ℕ) → o ≡ some x → r ≡ answer_from t cs (q x) → r ≡ answer_from t cs (if_none o p q)
    unfolding if_none Option-elim
    is_some x h e = rw h e

-- the words of an answer, by what the answer is
pub written : (words : List ℕ) (a b : Answer) → words ≡ answer_words a → a ≡ b → words ≡ answer_words b
written words a b e h = e ∙ ap answer_words h

pub ruleset steps = (written, le_yes, le-no, lt_yes, lt_no, eq_yes, eq_no, is_none, is_some, reads, ends)

-- a list of k cells
pub record Listing (k : ℕ) (cs : Cells) : Type 0 where
  pub list : List ℕ
  pub long : length list ≡ k
  pub is : cs ≡ listed list

pub listing : (k : ℕ) (cs : Cells) → Held k cs → Listing k cs
unfolding listed
listing k cs h = record { list = take k cs.at; long = h.0; is = λ i. record { at = h.2 i; count = (h.1 ∙ sym h.0) i } }

pub listing-held : (xs : List ℕ) → Held (length xs) (listed xs)
unfolding listed padded
listing-held xs = let t : take (length xs) (padded 15 xs) ≡ xs = take-append_seam xs _ in (ap length t, refl, rw t refl)

-- with one cell more
pub pushed-held : (cell : ℕ) (cs : Cells) (k j : ℕ) → Held k cs → k < 15 → j ≡ k + 1 → Held j (pushed cs cell)
unfolding pushed_all
pushed-held cell cs k j h low e =
    let l = listing k cs h in
    let n = length-append l.list (cell ∷ []) in
    let m : length (l.list ++ (cell ∷ [])) ≡ j = omega (arith, l.long) in
    let is : pushed cs cell ≡ listed (l.list ++ (cell ∷ [])) = ap (λ b. pushed b cell) l.is ∙ push-all-listed l.list (cell ∷ []) (omega (arith, l.long)) in
    rw (is, ← m) (listing-held (l.list ++ (cell ∷ [])))
