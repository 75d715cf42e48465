-- `finding::band_in` meets its contract. Assumes nothing.
use mathlib.Core.Path.{ap, ◌∙◌}
use Prim.Native.Nat.{ℕ, ◌-◌}
use native.Mathlib.Omega.{arith}
use lib.ListN.{get_or}
use Rattle.sheets.specs.Parts.{range_at}
use Rattle.sheets.proofs.finding.Ranges.{past-classes, past-amounts, none_below, found-is, low-keys}
use Rattle.sheets.proofs.finding.band_in.Goals as goal

pub returns-then-end-eq0 : goal.returns-then-end-eq0
returns-then-end-eq0 c =
    record {
      found = λ legal asc single.
          none_below _ _ legal _ _ asc single (omega arith) c.below-end.result c.below-end.ensures.0 (c.below-end.ensures.1 asc (low-keys _ _ legal)) c.if-end-eq0.true;
      limit = tt;
    }

pub returns : goal.returns
returns c =
    record {
      found = λ legal asc single.
          c.range_of.ensures.0
          ∙ ap (λ (i : ℕ). range_at (get_or c.args.keys.now (c.below-end.result - 1) 0) (get_or c.args.words.now i 0) c.args.class.0 c.args.amount) c.line_of.ensures
          ∙ found-is _ _ legal _ _ asc single (omega arith) c.below-end.result c.below-end.ensures.0 (c.below-end.ensures.1 asc (low-keys _ _ legal)) (omega arith);
      limit = c.range_of.ensures.1;
    }

pub returns-then-wanted-ge-MOST_ENTRIES : goal.returns-then-wanted-ge-MOST_ENTRIES
returns-then-wanted-ge-MOST_ENTRIES c =
    record { found = λ legal asc single. past-classes _ _ legal _ _ c.if-wanted-ge-MOST_ENTRIES.true; limit = tt }

pub returns-then-amount-gt-MOST_SUM : goal.returns-then-amount-gt-MOST_SUM
returns-then-amount-gt-MOST_SUM c = record { found = λ legal asc single. past-amounts _ _ legal _ _ c.if-amount-gt-MOST_SUM.true; limit = tt }

pub overflow_add-wanted : goal.overflow_add-wanted
overflow_add-wanted c = omega arith

pub overflow_add-wanted-2 : goal.overflow_add-wanted-2
overflow_add-wanted-2 c = omega arith

pub below-end-requires : goal.below-end-requires
below-end-requires c = omega arith

pub bounds-words-line_of : goal.bounds-words-line_of
bounds-words-line_of c = omega (arith, c.line_of.ensures)
