-- What the check of a sheet comes to: on a broken table, and behind step 1. Assumes nothing.
use mathlib.Core.Path.{◌≡◌, sym, ap, ◌∙◌}
use mathlib.Core.List.{List, [], ◌∷◌}
use Prim.Native.Nat.{ℕ, ◌+◌, ◌-◌, ◌≤◌}
use native.Mathlib.Decide.{ℕ_discrete}
use mathlib.Core.Bool.{true}
use native.Mathlib.Omega.{arith}
use lib.ListN.{take, drop}
use borrow.Author.Tests.{eq-eqb, ne_eqb}
use Rattle.base.specs.Lists.{view, has, some?}
use Rattle.std.specs.Prelude.{Result, Err, IfOk, IfErr}
use Rattle.base.specs.Numbers.{Outcome, accepted}
use Rattle.base.specs.Refusals.{refused}
use Rattle.base.specs.declared.refusals.Refusal.{Refusal}
use Rattle.base.proofs.RefusalNumbers.{refused-numbered, amount-none}
use Rattle.base.proofs.Lists.{clash}
use Rattle.query.specs.StepOne.{step_one}
use Rattle.query.proofs.StepOne.{step-numbers}
use Rattle.sheets.specs.Texts.{sheet_of}
use Rattle.sheets.specs.Verdicts.{told, naming, verdict, depths_in, check_to, bands_on}
use Rattle.sheets.specs.Checked.{Checked}
use Rattle.sheets.specs.Parts.{Judged}

module _ (t : List ℕ) (d : ℕ) (text : List ℕ) where
  pub check-refused : ((step_one t).number ≡ 0 → ⊥) → check_to t d text ≡ naming (step_one t) 0
  unfolding check_to
  check-refused n = rw (ne_eqb (step_one t).number 0 n)

  pub check-opened : (step_one t).number ≡ 0 → check_to t d text ≡ verdict (depths_in t) d text
  unfolding check_to
  check-opened e = rw (eq-eqb (step_one t).number 0 e)

  pub check-broken : (e : Refusal) → refused e ≡ step_one t → told (Err e) ≡ check_to t d text
  unfolding some?
  check-broken e says =
      let number : (refused e).number ≡ (step_one t).number = ap (λ (o : Outcome). o.number) says in
      ap (naming (refused e)) (amount-none e (number_low (refused e).number (rw number (step-numbers t))))
      ∙ ap (λ o. naming o 0) says
      ∙ sym (check-refused (λ z. refused-numbered e (number ∙ z)))
    where
      number_low : (n : ℕ) → has (0 ∷ 9 ∷ []) n ≡ true → n ≤ 13
      number_low n h = go (ℕ_discrete n 0) (ℕ_discrete n 9)
        where
          go : Dec (n ≡ 0) → Dec (n ≡ 9) → n ≤ 13
          go (yes a) _ = omega arith
          go (no a) (yes b) = omega arith
          go (no a) (no b) = clash (rw (ne_eqb n 0 a, ne_eqb n 9 b) at h)

  module _ (w : ℕ) (opens : accepted w ≡ step_one t) where
    -- DEPTH, as it is lent on
    depths-are : take (4 + w - 4) (drop 4 t) ≡ depths_in t
    unfolding depths_in view
    depths-are = let e : 4 + w - 4 ≡ w = omega arith in ap (λ k. take k (drop 4 t)) (e ∙ ap (λ (o : Outcome). o.word) opens)

    pub check-judged : (a : Result ℕ Refusal) (old new : List ℕ) → Judged (take (4 + w - 4) (drop 4 t)) d (sheet_of (take (4 + w - 4) (drop 4 t)) d text) a old new
        → (told a ≡ check_to t d text) × (IfErr a (λ e. new ≡ old) × IfOk a (λ m. Checked new d (bands_on t d text)))
    unfolding verdict
    check-judged a old new j =
        let k : Judged (depths_in t) d (sheet_of (depths_in t) d text) a old new = rw depths-are at j in
        (k.is ∙ sym (check-opened (sym (ap (λ (o : Outcome). o.number) opens))), (k.kept, k.checked))
