-- `stray::first_stray` meets its contract. Assumes nothing.
use mathlib.Core.Path.{◌≡◌, sym, ap, ◌∙◌}
use mathlib.Core.Bool.{not, ◌&&◌}
use lib.ListN.{length}
use lib.Dec.{eqb, leb}
use Rattle.std.proofs.Common.{rules, tests}
use Rattle.std.proofs.lemmas.Iterator.{YieldsList-from_slice}
use Rattle.std.proofs.lemmas.Iterator.Search.{position_from_yields_List}
use Rattle.std.proofs.lemmas.Iterator.Adapters.{position_from-zero}
use Rattle.std.specs.List.{position_from}
use Rattle.base.specs.Options.{option_of}
use Rattle.base.specs.Limits.{top_mark}
use Rattle.tree.specs.Faults.{lowest, is_stray}
use Rattle.judge.specs.Regions.{found}
use Rattle.judge.proofs.Searches.{position-first, stray-test}
use Rattle.judge.proofs.stray.first_stray.Goals as goal
use Rattle.judge.proofs.stray.first_stray.Goals.{After-position}

place : (c : After-position) → c.position.result ≡ position_from (λ x. not (eqb x top_mark) && leb (length c.args.parents.now) x) 0 c.args.parents.now
place c =
    let ps = c.args.parents.now in
    position_from_yields_List (λ x. not (eqb x top_mark) && leb (length ps) x) _ _ _ c.position.ensures.ran (YieldsList-from_slice ps (cc)) (λ x b q h. search (rules, tests)) ∙ position_from-zero (λ x. not (eqb x top_mark) && leb (length ps) x) ps

stray : (c : After-position) → option_of c.position.result ≡ lowest c.args.parents.now (is_stray c.args.parents.now)
stray c =
    let ps = c.args.parents.now in
    ap option_of (place c) ∙ position-first (λ x. not (eqb x top_mark) && leb (length ps) x) (is_stray ps) ps 0 (λ k h. stray-test ps k)

pub returns-in_err-v : goal.returns-in_err-v
returns-in_err-v c = ap found c.from_residual.ensures ∙ (ap option_of (sym c.in_err-v.was) ∙ stray (goal.at.returns-in_err-v c).After-position)

pub returns : goal.returns
returns c = ap option_of (sym c.in_ok-v.was) ∙ stray (goal.at.returns c).After-position
