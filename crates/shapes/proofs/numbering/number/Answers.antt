-- `shapes::numbering::number` meets its contract: what it hands on is the group's part of the depths. Assumes nothing.
use mathlib.Core.Path.{◌≡◌, refl, ◌∙◌}
use mathlib.Core.List.{◌∷◌}
use mathlib.Core.Logic.{⊎_elim}
use Prim.Native.Nat.{suc, ◌+◌, ◌-◌, ◌≤◌}
use native.Mathlib.Omega.{arith}
use borrow.Author.Tests.{ltb-false, ltb-true}
use lib.ListN.{length, take, drop}
use Rattle.tree.specs.Forest.{levels, forest_size}
use Rattle.shapes.proofs.RankTurns.{part-levels, part-fits, levels-part, levels-count}
use Rattle.shapes.proofs.numbering.number.Goals as goal

-- a group's depths pass each test
pub returns-then-entries-eq0 : goal.returns-then-entries-eq0
returns-then-entries-eq0 c =
    let a = c.args in record {
      is = (λ f d rest e n b.
          let h : a.from.0 + suc (forest_size f) ≤ length a.depths.now = part-fits a.depths.now a.from.0 f d rest e in
          absurd
          (⊎_elim
          (λ w. omega arith)
          (⊎_elim (λ w. omega (arith, ltb-true)) (⊎_elim (λ w. omega (arith, ltb-true)) (λ w. omega (arith, ltb-true))))
          c.then-entries-eq0.branch-raw));
      small = omega arith;
      none = λ never. refl;
    }

-- what the tests leave is a part of the depths, which is the group's
pub returns : goal.returns
returns c =
    let a = c.args in record {
      is = (λ f d rest e n b.
          let k : a.from.0 + a.entries - a.from.0 ≡ suc (forest_size f) = omega arith in
          c.unwrap_or.ensures ∙ c.ranked.ensures.is f d (rw k (part-levels a.depths.now a.from.0 f d rest e)));
      small = rw c.unwrap_or.ensures c.ranked.ensures.small;
      none = λ never.
          c.unwrap_or.ensures ∙ c.ranked.ensures.none
          (λ f d e.
          let k : a.from.0 + a.entries - a.from.0 ≡ a.entries = omega arith in
          let q : take a.entries (drop a.from.0 a.depths.now) ≡ d ∷ levels (suc d) f = rw k at e in
          never f d _ (levels-part a.depths.now a.from.0 a.entries f d q) (levels-count a.depths.now a.from.0 a.entries f d q (omega (arith, ltb-false))) (omega (arith, ltb-false)));
    }
