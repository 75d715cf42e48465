-- The rating lookup is the level lookup at the smaller of the rating level and the entry's depth. Assumes nothing.
use mathlib.Core.Path.{◌≡◌, refl, sym, ap, ◌∙◌}
use mathlib.Core.List.{List, [], ◌∷◌}
use mathlib.Core.Bool.{Bool, true, false, cond}
use Prim.Native.Nat.{ℕ, ◌≤◌, min}
use native.Mathlib.Nat.{min-eq_right}
use native.Mathlib.Omega.{arith}
use lib.Dec.{leb, ltb, eqb}
use borrow.Author.Tests.{le-ltb, eq-eqb}
use Rattle.base.specs.Numbers.{Outcome, accepted, too_deep}
use Rattle.base.specs.Limits.{most_entries, entries_of, table_words, depth_cell, kind_cell}
use Rattle.answers.specs.Reading.{Reading, done, read, if_le, if_lt, if_eq, word_at, run, trace}
use Rattle.answers.specs.Answers.{listed, answer_to}
use Rattle.answers.specs.Promises.{depth_word}
use Rattle.answers.specs.Steps.{after_count, opened, after_kind, ancestor_at, after_depth, from_entry, from_rated, level, rating}

module _ (t : List ℕ) where
  -- two programs with one outcome and the same cells
  abbrev Same : Reading → Reading → Type 0
  Same p q = (run t p ≡ run t q) × (trace t p ≡ trace t q)

  same-else : (b : Bool) (p q r : Reading) → Same q r → Same (cond b p q) (cond b p r)
  same-else true p q r s = (refl, refl)
  same-else false p q r s = s

  same_read : (cell : ℕ) (j k : ℕ → Reading) → Same (j (word_at t cell)) (k (word_at t cell)) → Same (read cell j) (read cell k)
  unfolding run trace
  same_read cell j k (o, cells) = (o, ap (◌∷◌ cell) cells)

  -- a program that finds an answer has listed these cells
  abbrev Lists : List ℕ → Reading → Type 0
  Lists cells p = (run t p).number ≡ 0 → trace t p ≡ cells

  lists-else : (b : Bool) (cells : List ℕ) (o : Outcome) (q : Reading) → 1 ≤ o.number → Lists cells q → Lists cells (cond b (done o) q)
  unfolding run
  lists-else true cells o q refused h e = absurd (omega (arith, e))
  lists-else false cells o q refused h e = h e

  lists-read : (cell : ℕ) (cells : List ℕ) (k : ℕ → Reading) → Lists cells (k (word_at t cell)) → Lists (cell ∷ cells) (read cell k)
  unfolding run trace
  lists-read cell cells k h e = ap (◌∷◌ cell) (h e)

  module _ (len v d : ℕ) where
    abbrev n : ℕ
    n = entries_of (word_at t 0)

    abbrev w : ℕ
    w = depth_word t v

    same-lookup : Same (rating len v d) (level len v (min d w))
    unfolding rating level opened after_count from_rated from_entry if_lt if_eq if_le
    same-lookup =
        same-else (ltb len 4) _ _ _
        (same_read 0 _ _
        (same-else (eqb n 0) _ _ _
        (same-else (ltb most_entries n) _ _ _
        (same-else (ltb len (table_words n)) _ _ _
        (same-else (leb n v) _ _ _
        (same_read (depth_cell n v) _ _ (refl, refl)))))))

    pub rating-smaller : answer_to t (rating len v d) ≡ answer_to t (level len v (min d w))
    unfolding answer_to
    rating-smaller = rw (same-lookup.0, same-lookup.1)

    -- a rating that is found for an entry of depth d or less has read cell 0 and its DEPTH
    own-cells : Lists (0 ∷ depth_cell n v ∷ []) (level len v w)
    unfolding level opened after_count from_entry after_depth ancestor_at if_lt if_eq if_le trace
    own-cells =
        lists-else (ltb len 4) _ _ _ (omega arith)
        (lists-read 0 _ _
        (lists-else (eqb n 0) _ _ _ (omega arith)
        (lists-else (ltb most_entries n) _ _ _ (omega arith)
        (lists-else (ltb len (table_words n)) _ _ _ (omega arith)
        (lists-else (leb n v) _ _ _ (omega arith)
        (lists-read (depth_cell n v) _ _
        (lists-else (leb n w) _ _ _ (omega arith) found)))))))
      where
        found : Lists [] (cond (ltb w w) (done (too_deep v)) (cond (eqb w w) (done (accepted v)) (read (kind_cell n v) (after_kind n w w))))
        found = rw (le-ltb w w (omega arith), eq-eqb w w refl) (λ e. refl)

    pub two_cells : w ≤ d → (run t (rating len v d)).number ≡ 0 → (answer_to t (rating len v d)).cells ≡ listed (0 ∷ depth_cell n v ∷ [])
    unfolding answer_to
    two_cells h e = ap listed (same-lookup.1 ∙ ap (λ x. trace t (level len v x)) (min-eq_right h) ∙ own-cells (sym (ap (λ x. (run t (level len v x)).number) (min-eq_right h)) ∙ sym (ap (λ o. o.number) same-lookup.0) ∙ e))
