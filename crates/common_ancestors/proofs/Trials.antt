-- What a lookup and a test of ancestry tell of a list from which the table is prepared. Assumes nothing.
use mathlib.Core.Path.{◌≡◌, sym, ap, ◌∙◌}
use mathlib.Core.Logic.{◌↔◌}
use mathlib.Core.List.{List}
use mathlib.Core.Bool.{cond}
use mathlib.Core.Option.{some}
use Prim.Native.Nat.{ℕ, ◌<◌}
use native.Mathlib.Omega.{arith}
use lib.ListN.{length}
use lib.Dec.{eqb}
use borrow.Author.Tests.{eqb-true, eqb-false, lt-leb}
use Rattle.base.specs.Lists.{has}
use Rattle.base.specs.Numbers.{Outcome, accepted}
use Rattle.tree.specs.Parents.{up, climb}
use Rattle.tree.specs.Level.{Ancestor}
use Rattle.tree.specs.Questions.{ancestry_of, climb_of}
use Rattle.tree.proofs.Branches.{ancestry-iff}
use Rattle.tree.proofs.Meanings.{climb-iff}
use Rattle.climbs.proofs.TableWords.{small, tree}
use Rattle.common_ancestors.specs.Parts.{Of, Tells}

module _ (ps t : List ℕ) (n : ℕ) (of : Of ps t n) where
  -- ancestry's word is 1 just where the first is at or above the second
  module _ (w b : ℕ) (o : Outcome) (hw : w < n) (hb : b < n) (e : o ≡ ancestry_of ps w b) where
    answered : o ≡ accepted (cond (has (climb ps b) w) 1 0)
    unfolding ancestry_of
    answered = let iw : w < length ps = omega (arith, of.count) in let ib : b < length ps = omega (arith, of.count) in e ∙ rw (lt-leb (length ps) w iw, lt-leb (length ps) b ib)

    pub ancestry-known : o.number ≡ 0
    ancestry-known = ap (λ x. x.number) answered

    pub ancestry-tells : Tells ps w b (eqb o.word 1)
    ancestry-tells = record { yes = λ q. iff.0 (sym e ∙ answered ∙ ap accepted (sym (ap (λ x. x.word) answered) ∙ eqb-true _ _ q)); no = λ q a. eqb-false _ _ q (ap (λ x. x.word) (e ∙ iff.1 a)) }
      where
        iff : (ancestry_of ps w b ≡ accepted 1) ↔ Ancestor ps w b
        iff = ancestry-iff ps (small ps t of.prepared) (tree ps t of.prepared) w b (omega (arith, of.count)) (omega (arith, of.count))

  -- a lookup finds the entry so many climbs above
  pub climb_reaches : (a k x : ℕ) (o : Outcome) → o ≡ climb_of ps a k → up ps k a ≡ some x → o ≡ accepted x
  climb_reaches a k x o e r = e ∙ (climb-iff ps a k x).1 r
