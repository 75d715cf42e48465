-- `prepare` meets its contract. Assumes nothing.
use mathlib.Core.Path.{◌≡◌, refl, sym, ap, ap₂, ◌∙◌}
use mathlib.Core.Bool.{not}
use mathlib.Core.List.{◌++◌}
use mathlib.Core.Option.{none}
use Prim.Native.Nat.{◌*◌, ◌≤◌}
use native.Mathlib.Nat.{min-eq_left}
use native.Mathlib.Omega.{arith}
use lib.ListN.{length, drop, replicate, length-append, length-take}
use lib.Seq.{drop_at}
use Rattle.std.proofs.Common.{Ok, Err}
use Rattle.std.proofs.lemmas.Result.{err_from_is_err_and}
use Rattle.base.proofs.RefusalNumbers.{refused-numbered}
use Rattle.base.specs.Numbers.{accepted, count, short_table}
use Rattle.base.specs.declared.refusals.Refusal.TheVariants.{Count, ShortTable}
use Rattle.base.specs.Limits.{most_entries}
use Rattle.tree.specs.Faults.{Tree}
use Rattle.table.specs.Preparing.{count_fault, lend_fault, call_fault}
use Rattle.table.proofs.Acceptance.{count-iff}
use Rattle.table.proofs.Outcomes.{judging-iff}
use Rattle.judge.proofs.Verdicts.{counted, uncounted}
use Rattle.prepare.proofs.Calls.{call-count, call-table, call-lent, turned-away, judged-away, let_through, walked-of}
use Rattle.prepare.proofs.Promises.{named, accepting, prepares}
use Rattle.prepare.proofs.prepare.Goals as goal
use Rattle.prepare.proofs.prepare.Goals.{Then-not-countable, Else-not-countable, Then-table-w, Else-table-w, In_err-preorder, In_ok-preorder}

fine : (c : Else-not-countable) → count_fault (length c.args.parents.now) ≡ none
fine c = counted _ c.countable.result (ap not c.if-not-countable.false) c.countable.ensures

few : (c : Else-not-countable) → length c.args.parents.now ≤ most_entries
few c = ((count-iff _).0 (fine c)).1

lent : (c : Else-table-w) → call_fault (length c.args.parents.now) (length c.args.table.now) (length c.args.space.now) ≡ lend_fault (length c.args.parents.now) (length c.args.space.now)
lent c = call-lent _ _ _ (fine (goal.at.Else-table-w c).Else-not-countable) (omega (arith, c.table_words-w.ensures))

pub returns-then-not-countable : goal.returns-then-not-countable
returns-then-not-countable c =
    let ps = c.args.parents.now in
    let t = c.args.table.now in
    let s = c.args.space.now in
    let (a, b, d) = turned-away ps t s count (call-count _ _ _ (uncounted _ c.countable.result (ap not c.if-not-countable.true) c.countable.ensures)) in
    record { answer = sym a; numbers = named ps t s (Err Count) (sym a); written = sym b; left = sym d; accepts = accepting ps t s (Err Count) (sym a); prepared = tt }

pub returns-then-table-w : goal.returns-then-table-w
returns-then-table-w c =
    let ps = c.args.parents.now in
    let t = c.args.table.now in
    let s = c.args.space.now in
    let (a, b, d) = turned-away ps t s short_table (call-table _ _ _ (fine (goal.at.returns-then-table-w c).Else-not-countable) (omega (arith, c.table_words-w.ensures))) in
    record { answer = sym a; numbers = named ps t s (Err ShortTable) (sym a); written = sym b; left = sym d; accepts = accepting ps t s (Err ShortTable) (sym a); prepared = tt }

pub returns-in_err-preorder : goal.returns-in_err-preorder
returns-in_err-preorder c =
    let ps = c.args.parents.now in
    let t = c.args.table.now in
    let s = c.args.space.now in
    let e = c.in_err-preorder.field-0.0 in
    let p = err_from_is_err_and c.from_residual.result c.from_residual.ensures.1 in
    let (a, b, d) = judged-away ps t s (lent (goal.at.returns-in_err-preorder c).Else-table-w) _ c.in_err-preorder.ensures.answer (refused-numbered e) in
    rw (p.1, p.2) (record { answer = a; numbers = named ps t s (Err e) a; written = sym b; left = c.in_err-preorder.ensures.refused ∙ sym d; accepts = accepting ps t s (Err e) a; prepared = tt })

forms : (c : In_ok-preorder) → (1 ≤ length c.args.parents.now) × (length c.args.parents.now ≤ most_entries) × Tree c.args.parents.now × (6 * length c.args.parents.now ≤ length c.args.space.now)
forms c = (judging-iff c.args.parents.now 0 (length c.args.space.now)).0 (sym (ap (λ o. o.number) c.in_ok-preorder.ensures.answer))

room : (c : In_ok-preorder) → 6 * length c.args.parents.now ≤ length c.preorder.new.space
room c = omega (arith, (forms c).3, c.preorder.auto.space)

pub overflow_cast-n : goal.overflow_cast-n
overflow_cast-n c = omega (arith, few (goal.at.overflow_cast-n c).Else-not-countable)

pub slice_bounds-fill_table-end-3 : goal.slice_bounds-fill_table-end-3
slice_bounds-fill_table-end-3 c = room (goal.at.slice_bounds-fill_table-end-3 c).In_ok-preorder

pub slice_bounds-fill_table-end-4 : goal.slice_bounds-fill_table-end-4
slice_bounds-fill_table-end-4 c =
    let h = room (goal.at.slice_bounds-fill_table-end-4 c).In_ok-preorder in
    simp length-take (omega arith)

pub fill_table-requires : goal.fill_table-requires
fill_table-requires c =
    let o = (goal.at.fill_table-requires c).In_ok-preorder in
    (walked-of c.args.parents.now c.preorder.new.space (forms o).1 (forms o).2 (room o) c.in_ok-preorder.ensures.ordered, simp length-take (omega (arith, c.table_words-w.ensures)))

pub overflow_cast-result : goal.overflow_cast-result
overflow_cast-result c = omega (arith, c.table_words-w.ensures, few (goal.at.overflow_cast-result c).Else-not-countable)

pub returns : goal.returns
returns c =
    let ps = c.args.parents.now in
    let t = c.args.table.now in
    let s = c.args.space.now in
    let m = 6 * length ps in
    let h = room (goal.at.returns c).In_ok-preorder in
    let w = c.table_words-w.ensures in
    let long : length c.fill_table.new.space ≡ m = c.fill_table.auto.space ∙ simp length-take (omega arith) in
    let whole : m ≤ length (c.fill_table.new.space ++ drop m c.preorder.new.space) = simp length-append (omega (arith, long)) in
    let beyond = drop_at c.fill_table.new.space (drop m c.preorder.new.space) m long ∙ c.in_ok-preorder.ensures.beyond in
    let (a, b, d) = let_through ps t s (lent (goal.at.returns c).Else-table-w) _ c.in_ok-preorder.ensures.answer refl in
    let answer = ap (λ n. accepted n) w ∙ sym a in
    let written = ap₂ ◌++◌ c.fill_table.ensures (ap (λ j. drop j t) w) ∙ sym b in
    record {
      answer = answer;
      numbers = named ps t s (Ok c.table_words-w.result) answer;
      written = written;
      left = c.clear.ensures ∙ ap₂ ◌++◌ (ap (λ j. replicate j 0) (min-eq_left whole)) beyond ∙ sym d;
      accepts = accepting ps t s (Ok c.table_words-w.result) answer;
      prepared = prepares ps t s (Ok c.table_words-w.result) answer _ written;
    }
