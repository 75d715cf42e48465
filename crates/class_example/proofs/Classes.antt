-- From what preparing and the level lookup promise, to the climb. Assumes nothing.
use mathlib.Core.Path.{◌≡◌, refl, sym, ap, ◌∙◌}
use mathlib.Core.List.{List, [], ◌∷◌}
use mathlib.Core.Bool.{Bool, true, false, cond}
use mathlib.Core.Option.{Option, none, some, Option-elim}
use Prim.Native.Nat.{ℕ}
use lib.ListN.{length}
use lib.Dec.{leb}
use borrow.Author.Tests.{ne_eqb}
use Rattle.base.proofs.Lists.{clash}
use Rattle.base.specs.Lists.{has, some?}
use Rattle.base.specs.Numbers.{Outcome, accepted, unknown, too_deep, Says}
use Rattle.tree.specs.Questions.{class_of}
use Rattle.tree.specs.Level.{level_ancestor}
use Rattle.table.specs.Preparing.{preparing}
use Rattle.table.proofs.Outcomes.{accepted-is, refused-is}
use Rattle.class_example.specs.Class.{class_from}

module _ (ps : List ℕ) (t s v d : ℕ) (o : Outcome) (answer : o ≡ preparing ps t s) where
  says : Says (preparing ps t s) o.number o.word
  says = (ap (λ x. x.number) answer, ap (λ x. x.word) answer)

  -- an accepted list: the class is what the table answers
  pub asked : o.number ≡ 0 → (a : Outcome) → a ≡ class_of ps v d → a ≡ class_from ps t s v d
  unfolding class_from
  asked z a e = e ∙ sym (accepted-is ps t s o.number o.word says (class_of ps v d) (λ x. x) z)

  -- any other: the refusal is handed on
  pub handed-on : (o.number ≡ 0 → ⊥) → o ≡ class_from ps t s v d
  unfolding class_from
  handed-on z = sym (refused-is ps t s o.number o.word says (class_of ps v d) (λ x. x) z)

-- a class is found, or is refused for the entry or the depth
pub class-numbers : (ps : List ℕ) (v d : ℕ) → has (0 ∷ 7 ∷ 8 ∷ []) (class_of ps v d).number ≡ true
unfolding class_of some? Option-elim
class-numbers ps v d = go (leb (length ps) v) (level_ancestor ps v d)
  where
    go : (b : Bool) (m : Option ℕ) → has (0 ∷ 7 ∷ 8 ∷ []) (cond b (unknown v) (Option-elim m (too_deep v) accepted)).number ≡ true
    go true m = refl
    go false none = refl
    go false (some c) = refl

-- no other number is among these
pub not-among : (n : ℕ) → (n ≡ 0 → ⊥) → (n ≡ 7 → ⊥) → (n ≡ 8 → ⊥) → has (0 ∷ 7 ∷ 8 ∷ []) n ≡ true → ⊥
unfolding some?
not-among n a b c h = clash (rw (ne_eqb n 0 a, ne_eqb n 7 b, ne_eqb n 8 c) at h)
