-- The cells of step 4 are told from unused places: none of them is cell 0. Assumes nothing.
use Rattle.std.proofs.Common.{◌≡◌, ℕ, zero, suc, ◌+◌, ◌<◌, ◌≤◌, Bool, true, false, cond, ltb, leb, List, [], ◌∷◌, length, get_or, refl, ap, ◌∙◌, arith, lit<, ne_eqb}
use mathlib.Core.Option.{Option, none, some, Option-elim}
use Rattle.base.specs.Lists.{padded}
use Rattle.base.specs.Numbers.{Outcome}
use Rattle.answers.specs.Reading.{Reading, done, read, if_le, if_lt, if_none, trace, word_at}
use Rattle.answers.specs.Answers.{listed, answer_to, answer_from}
use Rattle.answers.specs.Steps.{after_class, after_ladpos, after_ancestor, read_ancestor, after_jump_depth, from_jump}
use Rattle.answers.specs.declared.Answer.{Answer}
use Rattle.answers.specs.declared.Cells.{Cells}
use Rattle.answers.proofs.ProgramAnswers.{listed_at}
use Rattle.query.specs.Parts.{JumpCells, one_of}
use Rattle.query.proofs.Programs.{listing}
use Rattle.query.proofs.joining.Joins.{jump-answer, jump-four, jump-held}

-- a program that does not read cell 0
unfoldable WithoutFirst : Reading → Type 0
WithoutFirst (done o) = Unit
WithoutFirst (read cell k) = (0 < cell) × ((w : ℕ) → WithoutFirst (k w))

without-done : (o : Outcome) → WithoutFirst (done o)
unfolding WithoutFirst
without-done o = tt

without-read : (cell : ℕ) (k : ℕ → Reading) → 0 < cell → ((w : ℕ) → WithoutFirst (k w)) → WithoutFirst (read cell k)
unfolding WithoutFirst
without-read cell k h i = (h, i)

module _ (x y : ℕ) (p q : Reading) (h : WithoutFirst p) (i : WithoutFirst q) where
  without-cond : (b : Bool) → WithoutFirst (cond b p q)
  without-cond true = h
  without-cond false = i

  without-le : WithoutFirst (if_le x y p q)
  unfolding if_le
  without-le = without-cond (leb x y)

  without-lt : WithoutFirst (if_lt x y p q)
  unfolding if_lt
  without-lt = without-cond (ltb x y)

without-none : (o : Option ℕ) (p : Reading) (q : ℕ → Reading) → WithoutFirst p → ((e : ℕ) → WithoutFirst (q e)) → WithoutFirst (if_none o p q)
unfolding if_none Option-elim
without-none none p q h i = h
without-none (some e) p q h i = i e

jump-without : (n d jump : ℕ) → WithoutFirst (from_jump n d jump)
unfolding from_jump after_jump_depth read_ancestor after_ancestor after_ladpos after_class
jump-without n d jump =
    without-le _ _ _ _ (without-done _)
    (without-read _ _ (omega arith) (λ depth.
    without-le _ _ _ _ (without-done _)
    (without-lt _ _ _ _ (without-done _)
    (without-none _ _ _ (without-done _) (λ e.
    without-read _ _ (omega arith) (λ w.
    without-le _ _ _ _ (without-done _)
    (without-read _ _ (omega arith) (λ index.
    without-lt _ _ _ _ (without-done _)
    (without-le _ _ _ _ (without-done _)
    (without-read _ _ (omega arith) (λ class. without-le _ _ _ _ (without-done _) (without-done _))))))))))))

trace-without : (t : List ℕ) (p : Reading) → WithoutFirst p → (i : ℕ) → i < length (trace t p) → 0 < get_or (trace t p) i 0
unfolding trace WithoutFirst
trace-without t (done o) h i b = absurd (omega arith)
trace-without t (read cell k) h zero b = h.0
trace-without t (read cell k) h (suc i) b = trace-without t (k (word_at t cell)) (h.1 (word_at t cell)) i (omega arith)

jump-used : (t : List ℕ) (n d jump i : ℕ) → i < (answer_to t (from_jump n d jump)).cells.count → 0 < get_or (answer_to t (from_jump n d jump)).cells.at i 0
unfolding answer_to listed
jump-used t n d jump i b = rw (listed_at (trace t (from_jump n d jump)) i b) (trace-without t (from_jump n d jump) (jump-without n d jump) i b)

pub jump-cells : (t : List ℕ) (n d jump : ℕ) (a : Answer) → a ≡ answer_from t (listed []) (from_jump n d jump) → JumpCells a.cells
jump-cells t n d jump a e = record { held = jump-held t n d jump a e; four = jump-four t n d jump a e; used = rw (jump-answer t n d jump a e) (jump-used t n d jump) }

-- the places that are used are the cells
one-used : (cell : ℕ) → 0 < cell → one_of cell ≡ 1
one-used cell h = simp (ne_eqb cell 0 (λ z. absurd (omega arith)))

abbrev pub ones : Cells → ℕ
ones cs = one_of (get_or cs.at 0 0) + one_of (get_or cs.at 1 0) + one_of (get_or cs.at 2 0) + one_of (get_or cs.at 3 0)

count-is : (xs : List ℕ) → length xs ≤ 4 → ((i : ℕ) → i < length xs → 0 < get_or xs i 0) → ones (listed xs) ≡ length xs
unfolding listed padded
count-is [] h u = refl
count-is (a ∷ []) h u = rw (one-used a (u 0 (lit< tt))) refl
count-is (a ∷ b ∷ []) h u = rw (one-used a (u 0 (lit< tt)), one-used b (u 1 (lit< tt))) refl
count-is (a ∷ b ∷ c ∷ []) h u = rw (one-used a (u 0 (lit< tt)), one-used b (u 1 (lit< tt)), one-used c (u 2 (lit< tt))) refl
count-is (a ∷ b ∷ c ∷ d ∷ []) h u = rw (one-used a (u 0 (lit< tt)), one-used b (u 1 (lit< tt)), one-used c (u 2 (lit< tt)), one-used d (u 3 (lit< tt))) refl
count-is (a ∷ b ∷ c ∷ d ∷ e ∷ xs) h u = absurd (omega arith)

pub recount : (cs : Cells) → JumpCells cs → ones cs ≡ cs.count
recount cs j =
    let held = listing cs.count cs j.held in
    let xs = held.list in
    let is = held.is in
    let long = held.long in
    ap ones is ∙ count-is xs (omega (arith, long, j.four)) (λ i b. rw (← (listed_at xs i b), ← is) (j.used i (omega (arith, long)))) ∙ long
