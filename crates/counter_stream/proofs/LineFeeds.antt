-- Bytes without a line feed. Assumes nothing.
use mathlib.Core.Path.{◌≡◌, refl, sym, ◌∙◌}
use mathlib.Core.List.{List, [], ◌∷◌, ◌++◌}
use mathlib.Core.Bool.{false}
use Prim.Native.Nat.{ℕ}
use native.Mathlib.Decide.{ℕ_discrete}
use lib.Dec.{eqb}
use borrow.Author.Tests.{eq-eqb, ne_eqb}
use Rattle.std.specs.List.{list_any}
use Rattle.base.specs.Lists.{some?, has}
use Rattle.base.proofs.Lists.{clash}
use Rattle.lines.specs.Text.{line_feed}
use Rattle.lines.proofs.Parts.{Plain}

pub plain_of : (l : List ℕ) → has l line_feed ≡ false → Plain line_feed l
unfolding some?
plain_of [] e = tt
plain_of (b ∷ l) e = go (ℕ_discrete line_feed b) (plain_of l)
  where
    go : Dec (line_feed ≡ b) → (has l line_feed ≡ false → Plain line_feed l) → Plain line_feed (b ∷ l)
    go (yes q) ih = clash (sym e ∙ rw (eq-eqb line_feed b q))
    go (no q) ih = (λ z. q (sym z), ih (rw (ne_eqb line_feed b q) at e))

-- a byte more, which is one or not
pub has_more : (l : List ℕ) (b : ℕ) → (b ≡ line_feed → ⊥) → has l line_feed ≡ false → has (l ++ (b ∷ [])) line_feed ≡ false
unfolding some?
has_more [] b n e = rw (ne_eqb line_feed b (λ z. n (sym z)))
has_more (a ∷ l) b n e = go (ℕ_discrete line_feed a) (has_more l b n)
  where
    go : Dec (line_feed ≡ a) → (has l line_feed ≡ false → has (l ++ (b ∷ [])) line_feed ≡ false) → has ((a ∷ l) ++ (b ∷ [])) line_feed ≡ false
    go (yes q) ih = clash (sym e ∙ rw (eq-eqb line_feed a q))
    go (no q) ih = rw (ne_eqb line_feed a q) (ih (rw (ne_eqb line_feed a q) at e))

-- the library's search
pub has-any : (l : List ℕ) → list_any (λ y. eqb y line_feed) l ≡ has l line_feed
unfolding some?
has-any [] = refl
has-any (b ∷ l) = go (ℕ_discrete line_feed b) (has-any l)
  where
    go : Dec (line_feed ≡ b) → list_any (λ y. eqb y line_feed) l ≡ has l line_feed → list_any (λ y. eqb y line_feed) (b ∷ l) ≡ has (b ∷ l) line_feed
    go (yes q) ih = rw (eq-eqb line_feed b q, eq-eqb b line_feed (sym q))
    go (no q) ih = rw (ne_eqb line_feed b q, ne_eqb b line_feed (λ z. q (sym z))) ih
