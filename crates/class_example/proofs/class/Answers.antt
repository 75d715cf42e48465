-- `class` meets its contract. Assumes nothing.
use mathlib.Core.Path.{refl, ap, ◌∙◌}
use mathlib.Core.List.{[], ◌∷◌}
use Rattle.base.specs.Lists.{has}
use lib.ListN.{length}
use Rattle.std.proofs.lemmas.Result.{err_from_is_err_and}
use Rattle.base.proofs.RefusalNumbers.{refused-numbered}
use Rattle.class_example.proofs.Classes.{asked, handed-on, class-numbers}
use Rattle.class_example.proofs.class.Goals as goal

pub returns-in_err-prepare : goal.returns-in_err-prepare
returns-in_err-prepare c =
    let ps = c.args.parents.now in
    let e = c.in_err-prepare.ensures in
    let p = err_from_is_err_and c.from_residual.result c.from_residual.ensures.1 in
    rw (p.1, p.2) (record { answer = handed-on ps (length c.args.table.now) (length c.args.space.now) c.args.v.0 c.args.d _ e.answer (refused-numbered c.in_err-prepare.field-0.0); written = e.written; left = e.left })

pub returns : goal.returns
returns c =
    let ps = c.args.parents.now in
    let p = c.in_ok-prepare.ensures in
    let e = c.level.ensures.right ps p.prepared in
    let n = ap (λ o. has (0 ∷ 7 ∷ 8 ∷ []) o.number) e ∙ class-numbers ps c.args.v.0 c.args.d in
    record { answer = c.told.ensures n ∙ asked ps (length c.args.table.now) (length c.args.space.now) c.args.v.0 c.args.d _ p.answer refl _ e; written = p.written; left = p.left }
