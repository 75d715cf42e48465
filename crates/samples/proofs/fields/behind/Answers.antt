-- `fields::behind` meets its contract. Assumes nothing.
use Rattle.std.proofs.Common.{◌≡◌, ℕ, ◌+◌, ◌<◌, length, drop, ap, ◌∙◌, arith}
use Rattle.samples.specs.Fields.{behind_commas}
use Rattle.samples.proofs.fields.Commas.{past-comma, past-other, at-end}
use Rattle.samples.proofs.fields.behind.Goals as goal
use Rattle.samples.proofs.fields.behind.Goals.{then-text-i-eq44, else-text-i-eq44}

pub returns-then-left-eq0 : goal.returns-then-left-eq0
unfolding behind_commas
returns-then-left-eq0 c =
    let l = c.loop-i in
    let text = c.args.text.now in
    let none : 0 ≡ l.left = omega arith in
    (omega arith, omega arith, ap (λ (k : ℕ). behind_commas k (drop l.i text)) none ∙ l.invariant)

pub loop-i-preserved : goal.loop-i-preserved
loop-i-preserved c =
    let l = c.loop-i in
    let text = c.args.text.now in
    let some : 0 < l.left = omega arith in
    let turn : behind_commas c.if-text-i-eq44.left (drop (l.i + 1) text) ≡ behind_commas l.left (drop l.i text) = elim c.if-text-i-eq44.branch [
      | then-text-i-eq44 w ↦
          ap (λ (k : ℕ). behind_commas k (drop (l.i + 1) text)) w.left-is ∙ past-comma text l.i l.left (omega arith) some w.if-text-i-eq44.true
      | else-text-i-eq44 w ↦
          ap (λ (k : ℕ). behind_commas k (drop (l.i + 1) text)) w.left-is ∙ past-other text l.i l.left (omega arith) some w.if-text-i-eq44.false
    ] in
    turn ∙ l.invariant

pub returns : goal.returns
returns c =
    let l = c.loop-i in
    let e : l.i ≡ length c.args.text.now = omega arith in
    (omega arith, omega arith, at-end _ (length c.args.text.now) l.left (omega arith) ∙ rw (← e) l.invariant)
