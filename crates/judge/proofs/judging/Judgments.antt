-- What judging promises, from its answer and the space that it leaves. Assumes nothing.
use mathlib.Core.Path.{◌≡◌, sym, ap, ◌∙◌}
use mathlib.Core.List.{List, ◌∷◌, ◌++◌}
use mathlib.Core.Bool.{true}
use mathlib.Core.Option.{none, Option-elim}
use Prim.Native.Nat.{ℕ, ◌*◌, ◌≤◌, min}
use native.Mathlib.Nat.{min-eq_left}
use native.Mathlib.Omega.{arith}
use lib.ListN.{length, drop, replicate}
use Rattle.base.specs.Lists.{has}
use Rattle.base.specs.Limits.{space_words}
use Rattle.base.specs.Numbers.{Outcome}
use Rattle.base.specs.declared.refusals.Refusal.{Refusal}
use Rattle.std.specs.Prelude.{Result, Ok, Err, OnErr}
use Rattle.base.proofs.Views.{view-front}
use Rattle.table.specs.Preparing.{lend_fault, judging, judged_space}
use Rattle.table.proofs.Outcomes.{judgments, judging-numbers, judging-none}
use Rattle.judge.specs.Regions.{Ordered}

module _ (ps xs : List ℕ) where
  -- the space once its first words are cleared, whatever stood there
  pub cleared : lend_fault (length ps) (length xs) ≡ none → (m : ℕ) (ys zs : List ℕ) → m ≡ space_words (length ps) → m ≤ length ys → drop m ys ≡ drop m xs
      → zs ≡ replicate (min m (length ys)) 0 ++ drop m ys → zs ≡ judged_space ps xs
  unfolding judged_space Option-elim
  cleared e m ys zs z long same c = c ∙ rw (e, min-eq_left long, same, z)

  module _ (o : Outcome) (answer : o ≡ judging ps (length xs)) where
    pub named : has (0 ∷ judgments) o.number ≡ true
    named = rw answer (judging-numbers ps 0 (length xs))

    pub lent : o.number ≡ 0 → lend_fault (length ps) (length xs) ≡ none
    lent e = (judging-none ps 0 (length xs) (ap (λ a. a.number) (sym answer) ∙ e)).0

-- the regions of the preorder and the depths in a longer space
pub ordered-front : (ps ys zs : List ℕ) → 2 * length ps ≤ length ys → Ordered ps ys → Ordered ps (ys ++ zs)
ordered-front ps ys zs room o =
    record {
      orders = view-front 0 (length ps) ys zs (omega arith) ∙ o.orders;
      depths = view-front (length ps) (length ps) ys zs (omega arith) ∙ o.depths;
    }

-- what holds of a result whatever it is
pub on_err : {P : Type 0} (r : Result ℕ Refusal) → P → OnErr r P
on_err (Ok w) p = tt
on_err (Err e) p = p
