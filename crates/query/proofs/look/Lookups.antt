-- The lookups from the depth of v on. Assumes nothing.
use Rattle.std.proofs.Common.{◌≡◌, ℕ, ◌+◌, ◌-◌, ◌<◌, ◌≤◌, min, List, [], length, leb, Option, Some, None, IfSome, is_some, sym, refl, ap, ◌∙◌, arith, lit≤, le-leb, leb-true, leb-false}
use Rattle.std.specs.Bool.{then_some}
use native.Mathlib.Decide.{dec_le}
use borrow.Author.Tests.{lt-leb}
use Rattle.base.specs.Limits.{kind_cell}
use Rattle.base.specs.Numbers.{accepted, too_deep}
use Rattle.answers.specs.Reading.{Reading, done, read, if_lt}
use Rattle.answers.specs.Answers.{listed, answer_of, answer_from, answer_to}
use Rattle.answers.specs.Steps.{level, climbing, rating, from_entry, from_rated, after_depth, ancestor_at, after_kind}
use Rattle.answers.specs.declared.Cells.{Cells}
use Rattle.answers.proofs.Bounds.{level-within, climbing-within, rating-within}
use Rattle.answers.proofs.ProgramAnswers.{whole}
use Rattle.query.specs.Parts.{finding, climbed}
use Rattle.query.proofs.Programs.{ends, lt_yes, lt_no, eq_yes, eq_no}

-- where x is asked of v, and the answer is at depth d
abbrev pub asked : ℕ → ℕ → ℕ → ℕ → ℕ → Reading
asked v x d n depth = if_lt depth x (done (too_deep v)) (ancestor_at n v d depth)

abbrev pub at_level : ℕ → ℕ → ℕ → ℕ → Reading
at_level v d n depth = asked v d d n depth

abbrev pub at_climb : ℕ → ℕ → ℕ → ℕ → Reading
at_climb v k n depth = asked v k (depth - k) n depth

abbrev pub at_rating : ℕ → ℕ → ℕ → ℕ → Reading
at_rating v d n depth = asked v (min d depth) (min d depth) n depth

module _ (t : List ℕ) (v x : ℕ) where
  pub whole-level : answer_from t (listed []) (finding (length t) v (at_level v x)) ≡ answer_to t (level (length t) v x)
  unfolding level from_entry after_depth finding
  whole-level = whole t 10 (level (length t) v x) (level-within (length t) v x) (lit≤ tt)

  pub whole-climb : answer_from t (listed []) (finding (length t) v (at_climb v x)) ≡ answer_to t (climbing (length t) v x)
  unfolding climbing from_entry after_depth finding
  whole-climb = whole t 10 (climbing (length t) v x) (climbing-within (length t) v x) (lit≤ tt)

  pub whole-rating : answer_from t (listed []) (finding (length t) v (at_rating v x)) ≡ answer_to t (rating (length t) v x)
  unfolding rating from_rated after_depth finding
  whole-rating = whole t 10 (rating (length t) v x) (rating-within (length t) v x) (lit≤ tt)

-- from the depth of v on by its climbs
module _ (t : List ℕ) (cs : Cells) (n v x depth : ℕ) where
  pub too-deep : depth < x → (d : ℕ) → answer_from t cs (climbed n v depth None) ≡ answer_from t cs (asked v x d n depth)
  too-deep h d = lt_yes _ _ _ _ _ _ _ h refl

  pub level-climbed : x ≤ depth → answer_from t cs (climbed n v depth (Some (depth - x))) ≡ answer_from t cs (at_level v x n depth)
  level-climbed h = let e : depth - (depth - x) ≡ x = omega arith in lt_no _ _ _ _ _ _ _ h (rw e refl)

  pub climb-climbed : x ≤ depth → answer_from t cs (climbed n v depth (Some x)) ≡ answer_from t cs (at_climb v x n depth)
  climb-climbed h = lt_no _ _ _ _ _ _ _ h refl

  pub rating-climbed : answer_from t cs (climbed n v depth (Some (depth - x))) ≡ answer_from t cs (at_rating v x n depth)
  rating-climbed = let e : depth - (depth - x) ≡ min x depth = omega arith in lt_no _ _ _ _ _ _ _ (omega arith) (rw e refl)

  -- as the code has the climbs
  pub level-by : (o : Option ℕ) → is_some o ≡ leb x depth → IfSome o (λ k. k ≡ depth - x) → answer_from t cs (climbed n v depth o) ≡ answer_from t cs (at_level v x n depth)
  level-by None e h = too-deep (omega (arith, leb-false x depth (sym e))) x
  level-by (Some k) e h = rw h (level-climbed (leb-true x depth (sym e)))

  pub climb-by : (o : Option ℕ) → o ≡ then_some (leb x depth) x → answer_from t cs (climbed n v depth o) ≡ answer_from t cs (at_climb v x n depth)
  climb-by o e = go (dec_le x depth)
    where
      go : Dec (x ≤ depth) → answer_from t cs (climbed n v depth o) ≡ answer_from t cs (at_climb v x n depth)
      go (yes h) = let s : o ≡ Some x = e ∙ ap (λ b. then_some b x) (le-leb x depth h) in rw s (climb-climbed h)
      go (no h) = let s : o ≡ None = e ∙ ap (λ b. then_some b x) (lt-leb x depth (omega arith)) in rw s (too-deep (omega arith) (depth - x))

-- v itself, after no climbs, and KIND of v
module _ (t : List ℕ) (cs : Cells) (n v d depth : ℕ) where
  pub own : depth ≡ d → answer_of (accepted v) cs ≡ answer_from t cs (ancestor_at n v d depth)
  unfolding ancestor_at
  own e = eq_yes _ _ _ _ _ _ _ e (ends _ _ _ _ refl)

  pub onward : (climbs cell : ℕ) → 0 < climbs → d + climbs ≡ depth → cell ≡ kind_cell n v → answer_from t cs (read cell (after_kind n d (d + climbs))) ≡ answer_from t cs (ancestor_at n v d depth)
  unfolding ancestor_at
  onward climbs cell b s e = eq_no _ _ _ _ _ _ _ (λ z. absurd (omega arith)) (rw (s, e) refl)
