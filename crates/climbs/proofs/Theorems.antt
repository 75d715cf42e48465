-- Demands 2 and 3 of the level lookup, and every rating of an entry, on every table that is prepared from a list. Assumes nothing.
use mathlib.Core.Path.{◌≡◌, refl, ap, ◌∙◌}
use mathlib.Core.List.{List, [], ◌∷◌}
use Prim.Native.Nat.{ℕ, ◌≤◌, ◌<◌}
use native.Mathlib.Omega.{arith}
use lib.ListN.{length, take}
use Rattle.base.specs.Numbers.{accepted}
use Rattle.base.specs.Limits.{depth_cell}
use Rattle.tree.specs.Parents.{depth}
use Rattle.tree.specs.Level.{RatingClass}
use Rattle.tree.specs.Questions.{class_of}
use Rattle.tree.proofs.Meanings.{rating-class, has-class, own-class}
use Rattle.table.specs.Preparing.{Prepared}
use Rattle.answers.specs.Reading.{run, trace}
use Rattle.answers.specs.Answers.{answer_to, outcome, SameAt}
use Rattle.answers.specs.Answers.{listed as listed_cells}
use Rattle.answers.specs.Promises.{RatedEntry}
use Rattle.answers.specs.Steps.{level, rating}
use Rattle.answers.specs.declared.Answer.{Answer}
use Rattle.answers.specs.declared.Cells.{Cells}
use Rattle.answers.proofs.Bounds.{level-within, rating-within}
use Rattle.answers.proofs.ProgramAnswers.{cells-listed, locality}
use Rattle.answers.proofs.ProgramAnswers.{few as at_most}
use Rattle.answers.proofs.Ratings.{two_cells}
use Rattle.climbs.proofs.TableWords.{small, tree}
use Rattle.climbs.proofs.Questions.{level-right, depth-stated, rating-right}

-- an answer's cells are those of a trace, at most ten, and a table of the same length with the same words there gives the same answer
pub record Traced (t : List ℕ) (v d : ℕ) (r : Answer) : Type 0 where
  pub listed : take r.cells.count r.cells.at ≡ trace t (level (length t) v d)
  pub counted : r.cells.count ≡ length (trace t (level (length t) v d))
  pub few : r.cells.count ≤ 10
  pub local : (u : List ℕ) → length u ≡ length t → SameAt r t u → answer_to u (level (length u) v d) ≡ r

module _ (ps t : List ℕ) (p : Prepared ps t) (v d : ℕ) where
  pub demand-2 : outcome (answer_to t (level (length t) v d)) ≡ class_of ps v d
  unfolding answer_to listed_cells
  demand-2 = level-right ps t p v d

  pub demand-3 : Traced t v d (answer_to t (level (length t) v d))
  unfolding answer_to listed_cells
  demand-3 = record {
    listed = cells-listed t (level (length t) v d);
    counted = refl;
    few = at_most t 10 (level (length t) v d) (level-within (length t) v d);
    local = λ u l s. rw l (locality t 10 (level (length t) v d) (level-within (length t) v d) u s);
  }

abbrev answer : ℕ → ℕ → Cells → Answer
answer number word cells = record { number = number; word = word; cells = cells }

-- every rating of an entry is an answer, for at most ten cells: "the class at depth d, or the entry where its depth is less than d"
pub rating-answers : (ps t : List ℕ) (p : Prepared ps t) (v d : ℕ) → v < length ps → RatedEntry ps v d (answer_to t (rating (length t) v d))
unfolding answer_to listed_cells
rating-answers ps t p v d h =
    let (u, c) = has-class ps (small ps t p) (tree ps t p) v d h in
    let e = rated u c in
    record {
      found = ap (λ o. o.number) e;
      class = rw (ap (λ o. o.word) e) c;
      few = at_most t 10 (rating (length t) v d) (rating-within (length t) v d);
      own = λ low. own low (rated v (own-class ps (small ps t p) (tree ps t p) v d h low));
    }
  where
    rated : (u : ℕ) → RatingClass ps v d u → run t (rating (length t) v d) ≡ accepted u
    rated u c = rating-right ps t p v d ∙ rating-class ps (small ps t p) (tree ps t p) v d u c

    own : depth ps v ≤ d → run t (rating (length t) v d) ≡ accepted v
        → answer_to t (rating (length t) v d) ≡ record { number = 0; word = v; cells = listed_cells (0 ∷ depth_cell (length ps) v ∷ []) }
    own low e =
        let cells = two_cells t (length t) v d (omega (arith, depth-stated ps t p v h)) (ap (λ o. o.number) e) in
        ap (λ o. answer o.number o.word (listed_cells (trace t (rating (length t) v d)))) e ∙ ap (answer 0 v) cells
