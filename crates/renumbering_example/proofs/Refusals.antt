-- Of two lists that are one tree under a renumbering preparing accepts both, or refuses both by one number. Assumes nothing.
use mathlib.Core.Path.{◌≡◌, refl, sym, ap, ◌∙◌}
use mathlib.Core.List.{List}
use mathlib.Core.Option.{Option, none, some, Option-elim, some-ne-none}
use Prim.Native.Nat.{ℕ}
use lib.ListN.{length}
use Rattle.base.specs.Numbers.{Outcome}
use Rattle.table.specs.Preparing.{Accepted, refusal, preparing}
use Rattle.table.proofs.Acceptance.{accepted-iff}
use Rattle.table.proofs.Outcomes.{refusal-none, none-zero, some-refused, zero-iff}
use Rattle.renumbering.specs.Numbering.{Renumbered}
use Rattle.renumbering.specs.Statements.{Room}
use Rattle.renumbering.proofs.Theorems.{one-acceptance}

module _ (r : ℕ → ℕ) (ps qs : List ℕ) (e : Renumbered r ps qs) (t s u w : ℕ) (here : Room (length ps) t s) (there : Room (length ps) u w) where
  number : (preparing qs u w).number ≡ (preparing ps t s).number
  number = (one-acceptance r ps qs e).number t s u w here there

  refuses : (o : Outcome) → refusal ps t s ≡ some o → o.number ≡ 0 → ⊥
  refuses o q z = some-ne-none o (sym q ∙ refusal-none ps t s (ap (λ x. x.number) (some-refused ps t s o q) ∙ z))

  -- so what a relation has of both answers, and of two refusals of one number, it has of what is handed on
  pub both_ways : {A B : Type 0} (R : A → B → Type 0) (a : A) (f : Outcome → A) (b : B) (g : Outcome → B) → (Accepted ps → R a b) → ((o i : Outcome) → (o.number ≡ 0 → ⊥) → i.number ≡ o.number → R (f o) (g i))
      → R (Option-elim (refusal ps t s) a f) (Option-elim (refusal qs u w) b g)
  unfolding Option-elim
  both_ways {A = A} {B = B} R a f b g both neither = go (refusal ps t s) (refusal qs u w) refl refl
    where
      go : (x y : Option Outcome) → refusal ps t s ≡ x → refusal qs u w ≡ y → R (Option-elim x a f) (Option-elim y b g)
      go none none p q =
          let (one, most, tree, words, working) = (zero-iff ps t s).0 (none-zero ps t s p) in
          both ((accepted-iff ps).1 (one, most, tree))
      go none (some i) p q = absurd (some-ne-none i (sym q ∙ refusal-none qs u w (number ∙ none-zero ps t s p)))
      go (some o) none p q = absurd (some-ne-none o (sym p ∙ refusal-none ps t s (sym number ∙ none-zero qs u w q)))
      go (some o) (some i) p q = neither o i (refuses o p) (ap (λ x. x.number) (sym (some-refused qs u w i q)) ∙ number ∙ ap (λ x. x.number) (some-refused ps t s o p))
