-- `judging::preorder` meets its contract. Assumes nothing.
use mathlib.Core.Path.{◌≡◌, refl, sym, ap, ◌∙◌}
use mathlib.Core.Bool.{not}
use mathlib.Core.Option.{none}
use Prim.Native.Nat.{◌*◌}
use native.Mathlib.Omega.{arith}
use lib.ListN.{length, length-take, length-append}
use lib.Seq.{drop_at}
use Rattle.base.specs.Numbers.{count, short_space}
use Rattle.base.specs.Refusals.{outcome_of}
use Rattle.table.specs.Preparing.{count_fault, lend_fault, judging, judged_space}
use Rattle.table.proofs.Acceptance.{count-iff}
use Rattle.judge.proofs.Verdicts.{counted, uncounted, lend-count, lend-short, lend-fine, judging-lent, judging-rest}
use Rattle.judge.proofs.judging.Judgments.{cleared, named, ordered-front, on_err}
use Rattle.std.proofs.lemmas.Result.{on_ok_weaker}
use Rattle.judge.proofs.judging.preorder.Goals as goal
use Rattle.judge.proofs.judging.preorder.Goals.{After-faults-found, Else-not-countable, Else-space-m, Then-not-countable, Then-space-m}

fine : (c : Else-not-countable) → count_fault (length c.args.parents.now) ≡ none
fine c = counted _ c.countable.result (ap not c.if-not-countable.false) c.countable.ensures

uncountable : (c : Then-not-countable) → (judging c.args.parents.now (length c.args.space.now) ≡ count) × (judged_space c.args.parents.now c.args.space.now ≡ c.args.space.now)
uncountable c = judging-lent c.args.parents.now c.args.space.now count (lend-count _ _ (uncounted _ c.countable.result (ap not c.if-not-countable.true) c.countable.ensures))

too-short : (c : Then-space-m) → (judging c.args.parents.now (length c.args.space.now) ≡ short_space) × (judged_space c.args.parents.now c.args.space.now ≡ c.args.space.now)
too-short c = judging-lent c.args.parents.now c.args.space.now short_space (lend-short _ _ (fine (goal.at.Then-space-m c).Else-not-countable) (omega arith))

whole : (c : Else-space-m) → lend_fault (length c.args.parents.now) (length c.args.space.now) ≡ none
whole c = lend-fine (length c.args.parents.now) (length c.args.space.now) (fine (goal.at.Else-space-m c).Else-not-countable) (omega arith)

answered : (c : After-faults-found) → outcome_of c.faults-found.result ≡ judging c.args.parents.now (length c.args.space.now)
answered c = c.faults-found.ensures.answer ∙ sym (judging-rest c.args.parents.now c.args.space.now (whole (goal.at.After-faults-found c).Else-space-m)).0

long : (c : After-faults-found) → length c.faults-found.new.space ≡ 6 * length c.args.parents.now
long c = c.faults-found.auto.space ∙ simp length-take (omega arith)

pub returns-then-not-countable : goal.returns-then-not-countable
returns-then-not-countable c =
    let u = uncountable (goal.at.returns-then-not-countable c).Then-not-countable in
    record { answer = sym u.0; numbers = named c.args.parents.now c.args.space.now _ (sym u.0); refused = sym u.1; ordered = tt; beyond = refl }

pub returns-then-space-m : goal.returns-then-space-m
returns-then-space-m c =
    let u = too-short (goal.at.returns-then-space-m c).Then-space-m in
    record { answer = sym u.0; numbers = named c.args.parents.now c.args.space.now _ (sym u.0); refused = sym u.1; ordered = tt; beyond = refl }

pub faults-found-requires : goal.faults-found-requires
faults-found-requires c =
    (((count-iff _).0 (fine (goal.at.faults-found-requires c).Else-not-countable)).1, simp length-take (omega arith))

pub returns-then-is_err-clause-answer : goal.returns-then-is_err-clause-answer
returns-then-is_err-clause-answer c = answered (goal.at.returns-then-is_err-clause-answer c).After-faults-found

pub returns-then-is_err-clause-numbers : goal.returns-then-is_err-clause-numbers
returns-then-is_err-clause-numbers c = named c.args.parents.now c.args.space.now _ (answered (goal.at.returns-then-is_err-clause-numbers c).After-faults-found)

pub returns-then-is_err-clause-refused : goal.returns-then-is_err-clause-refused
returns-then-is_err-clause-refused c =
    let f = (goal.at.returns-then-is_err-clause-refused c).After-faults-found in
    let ps = c.args.parents.now in
    let xs = c.args.space.now in
    on_err c.faults-found.result (cleared ps xs (whole (goal.at.returns-then-is_err-clause-refused c).Else-space-m) (6 * length ps) _ _ (omega arith) (simp length-append (omega (arith, long f))) (drop_at c.faults-found.new.space _ (6 * length ps) (long f)) c.clear.ensures)

pub returns-else-is_err-clause-answer : goal.returns-else-is_err-clause-answer
returns-else-is_err-clause-answer c = answered (goal.at.returns-else-is_err-clause-answer c).After-faults-found

pub returns-else-is_err-clause-numbers : goal.returns-else-is_err-clause-numbers
returns-else-is_err-clause-numbers c = named c.args.parents.now c.args.space.now _ (answered (goal.at.returns-else-is_err-clause-numbers c).After-faults-found)

pub returns-else-is_err-clause-ordered : goal.returns-else-is_err-clause-ordered
returns-else-is_err-clause-ordered c =
    let f = (goal.at.returns-else-is_err-clause-ordered c).After-faults-found in
    on_ok_weaker c.faults-found.result (ordered-front c.args.parents.now c.faults-found.new.space _ (omega (arith, long f))) c.faults-found.ensures.walked
