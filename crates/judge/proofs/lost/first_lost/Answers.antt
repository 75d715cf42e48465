-- `lost::first_lost` meets its contract. Assumes nothing.
use mathlib.Core.Path.{◌≡◌, sym, ap, ◌∙◌}
use mathlib.Core.Bool.{not}
use native.Mathlib.Omega.{arith}
use lib.ListN.{length, get_or}
use lib.Dec.{eqb}
use Rattle.std.proofs.Common.{rules, tests}
use Rattle.std.proofs.lemmas.Iterator.{YieldsList-from_slice}
use Rattle.std.proofs.lemmas.Iterator.Search.{position_from_yields_List}
use Rattle.std.proofs.lemmas.Iterator.Adapters.{position_from-zero}
use Rattle.std.specs.List.{position_from}
use Rattle.base.specs.Options.{option_of}
use Rattle.tree.specs.Faults.{lowest, meets_top}
use Rattle.judge.specs.Regions.{found}
use Rattle.judge.proofs.Searches.{position-first}
use Rattle.judge.proofs.lost.Marks.{lost-is, none-lost}
use Rattle.judge.proofs.lost.first_lost.Goals as goal
use Rattle.judge.proofs.lost.first_lost.Goals.{After-position}

place : (c : After-position) → c.position.result ≡ position_from (λ x. eqb x 0) 0 c.mark.new.marks
place c =
    position_from_yields_List (λ x. eqb x 0) _ _ _ c.position.ensures.ran (YieldsList-from_slice c.mark.new.marks (cc)) (λ x b q h. search (rules, tests)) ∙ position_from-zero (λ x. eqb x 0) c.mark.new.marks

lost : (c : After-position) → option_of c.position.result ≡ lowest c.args.parents.now (λ v. not (meets_top c.args.parents.now v))
lost c =
    let marks = c.mark.new.marks in
    ap option_of (place c)
    ∙ position-first (λ x. eqb x 0) (λ v. eqb (get_or marks v 0) 0) marks 0 (λ k h. ap (λ j. eqb (get_or marks j 0) 0) (omega arith))
    ∙ lost-is c.args.parents.now (omega arith) marks (c.mark.auto.marks ∙ c.requires.2) c.mark.ensures

pub returns-then-order-parents : goal.returns-then-order-parents
returns-then-order-parents c = sym (none-lost c.args.parents.now (omega arith) (omega (arith, ap length c.requires.1, c.if-order-parents.true)))

pub returns-in_err-v : goal.returns-in_err-v
returns-in_err-v c = ap found c.from_residual.ensures ∙ (ap option_of (sym c.in_err-v.was) ∙ lost (goal.at.returns-in_err-v c).After-position)

pub returns : goal.returns
returns c = ap option_of (sym c.in_ok-v.was) ∙ lost (goal.at.returns c).After-position
