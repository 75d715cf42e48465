-- `reading::read_parent` meets its contract. Assumes nothing.
use Rattle.std.proofs.Common.{sym, ap, ◌∙◌}
use Rattle.std.proofs.lemmas.Bool.{false≢true}
use Rattle.std.proofs.lemmas.Bool.Decides.{Decides-eqb}
use Rattle.std.proofs.lemmas.Slice.Eq.{slice_eq-Decides}
use Rattle.base.specs.Options.{option_of}
use Rattle.lines.proofs.LineFields.{parent-none, parent-top, parent-read}
use Rattle.lines.proofs.reading.read_parent.Goals as goal

pub returns-in_err-field : goal.returns-in_err-field
returns-in_err-field c = ap option_of c.from_residual.ensures ∙ parent-none _ c.in_err-field.ensures.cases

pub returns-then-eq : goal.returns-then-eq
returns-then-eq c =
    let p = c.in_ok-field.ensures.cases in
    let same = slice_eq-Decides Decides-eqb _ _ _ c.eq.ensures in
    parent-top _ p.0 _ p.1 (same.0 c.if-eq.true ∙ c.as_slice.ensures)

pub returns : goal.returns
returns c =
    let p = c.in_ok-field.ensures.cases in
    let same = slice_eq-Decides Decides-eqb _ _ _ c.eq.ensures in
    parent-read _ p.0 _ p.1 (λ e. false≢true (sym c.if-eq.false ∙ same.1 (e ∙ sym c.as_slice.ensures))) _ c.read_number.ensures
