-- `faults::faults` meets its contract. Assumes nothing.
use mathlib.Core.Path.{◌≡◌, sym, ◌∙◌}
use mathlib.Core.Option.{none}
use Prim.Native.Nat.{◌≤◌}
use native.Mathlib.Omega.{arith}
use lib.ListN.{length, get_or, length-take}
use Rattle.base.specs.Limits.{top_mark}
use Rattle.tree.specs.Parents.{children}
use Rattle.tree.specs.Faults.{lowest, is_stray}
use Rattle.tree.proofs.Forests.{order-short}
use Rattle.judge.specs.Regions.{after, first_of}
use Rattle.judge.proofs.Searches.{no_stray}
use Rattle.judge.proofs.Verdicts.{verdict-stray, verdict-none, verdict-two, verdict-loop, verdict-whole, ordered}
use Rattle.judge.proofs.lost.Marks.{all-met}
use Rattle.base.specs.Lists.{view}
use Rattle.judge.proofs.faults.faults.Goals as goal
use Rattle.judge.proofs.faults.faults.Goals.{After-link, In-Some-link, After-walk-count}

fine : (c : After-link) → lowest c.args.parents.now (is_stray c.args.parents.now) ≡ none
fine c = sym c.in_default.ensures

tiny : (c : After-link) → length c.args.parents.now ≤ top_mark
tiny c = omega (arith, c.requires.0)

first-is : (c : In-Some-link) → c.in-Some-link.first.0 ≡ first_of (children c.args.parents.now top_mark)
first-is c = c.in-Some-link.ensures.linked.tops

pub link-requires : goal.link-requires
link-requires c = (c.requires.0, c.split_at_mut-heads.ensures.front_len, c.split_at_mut-nexts.ensures.front_len, no_stray c.args.parents.now (sym c.in_default.ensures))

pub returns-in-Some-clause-answer : goal.returns-in-Some-clause-answer
returns-in-Some-clause-answer c = sym (verdict-stray c.args.parents.now (omega arith) c.in-Some.v.0 (sym c.in-Some.ensures))

pub returns-in_default-link-clause-answer : goal.returns-in_default-link-clause-answer
returns-in_default-link-clause-answer c =
    let l = (goal.at.returns-in_default-link-clause-answer c).After-link in
    sym (verdict-none c.args.parents.now (tiny l) (fine l) top_mark c.in_default-link.ensures.linked.tops (tiny l))

two-is : (c : In-Some-link) → get_or c.link.new.nexts c.in-Some-link.first.0 0 ≡ first_of (after c.args.parents.now c.in-Some-link.first.0)
two-is c = c.link.ensures.linked.nexts c.in-Some-link.first.0 (omega arith) c.in-Some-link.ensures.within

pub returns-then-second-n-clause-answer : goal.returns-then-second-n-clause-answer
returns-then-second-n-clause-answer c =
    let l = (goal.at.returns-then-second-n-clause-answer c).After-link in
    let t = (goal.at.returns-then-second-n-clause-answer c).In-Some-link in
    sym (verdict-two c.args.parents.now (tiny l) (fine l) c.in-Some-link.first.0 (first-is t) c.in-Some-link.ensures.within _ (two-is t) c.if-second-n.true)

long : (c : After-walk-count) → length c.walk-count.new.order ≡ length c.args.parents.now
long c = c.walk-count.auto.order ∙ c.split_at_mut-order.ensures.front_len

short : (c : After-walk-count) → c.walk-count.result ≤ length c.walk-count.new.order
short c = omega (arith, long c, c.walk-count.ensures.0, order-short c.args.parents.now (omega (arith, c.requires.0)))

pub slice_bounds-first_lost-end : goal.slice_bounds-first_lost-end
slice_bounds-first_lost-end c = short (goal.at.slice_bounds-first_lost-end c).After-walk-count

pub slice_bounds-first_lost-end-2 : goal.slice_bounds-first_lost-end-2
slice_bounds-first_lost-end-2 c =
    let s = short (goal.at.slice_bounds-first_lost-end-2 c).After-walk-count in
    simp length-take (omega arith)

pub first_lost-requires : goal.first_lost-requires
unfolding view
first_lost-requires c =
    (c.requires.0, c.walk-count.ensures.1, omega (arith, c.requires.1, c.split_at_mut-order.ensures.back_len, c.split_at_mut-depths.ensures.back_len, c.split_at_mut-heads.ensures.back_len, c.split_at_mut-nexts.ensures.back_len, c.split_at_mut-pending.ensures.back_len))

pub returns-in-Some-first_lost-clause-answer : goal.returns-in-Some-first_lost-clause-answer
returns-in-Some-first_lost-clause-answer c =
    let l = (goal.at.returns-in-Some-first_lost-clause-answer c).After-link in
    let t = (goal.at.returns-in-Some-first_lost-clause-answer c).In-Some-link in
    sym (verdict-loop c.args.parents.now (tiny l) (fine l) c.in-Some-link.first.0 (first-is t) c.in-Some-link.ensures.within _ (two-is t) c.if-second-n.false c.in-Some-first_lost.v.0 (sym c.in-Some-first_lost.ensures))

pub returns-in-None-clause-answer : goal.returns-in-None-clause-answer
returns-in-None-clause-answer c =
    let l = (goal.at.returns-in-None-clause-answer c).After-link in
    let t = (goal.at.returns-in-None-clause-answer c).In-Some-link in
    sym (verdict-whole c.args.parents.now (tiny l) (fine l) c.in-Some-link.first.0 (first-is t) c.in-Some-link.ensures.within _ (two-is t) c.if-second-n.false (sym c.in-None.ensures))

pub returns-in-None-clause-walked : goal.returns-in-None-clause-walked
returns-in-None-clause-walked c =
    let ps = c.args.parents.now in
    let w = (goal.at.returns-in-None-clause-walked c).After-walk-count in
    let small = tiny (goal.at.returns-in-None-clause-walked c).After-link in
    let all = all-met ps small (sym c.in-None.ensures) in
    ordered ps _ _ _ c.walk-count.result small (c.walk-count.ensures.0 ∙ all) (long w) (c.walk-count.auto.depths ∙ c.split_at_mut-depths.ensures.front_len) c.walk-count.ensures.1 c.walk-count.ensures.2
