-- A search for the lowest number that passes a test. Assumes nothing.
use mathlib.Core.Path.{◌≡◌, refl, ap, ◌∙◌}
use mathlib.Core.Logic.{◌⊎◌, inl, inr}
use mathlib.Core.List.{List, [], ◌∷◌}
use mathlib.Core.Bool.{Bool, true, false, not, cond, ◌||◌, ◌&&◌}
use mathlib.Core.Option.{none, some}
use Prim.Native.Nat.{ℕ, zero, suc, ◌+◌, ◌<◌}
use native.Mathlib.Omega.{arith}
use lib.ListN.{length, get_or}
use lib.Dec.{eqb, ltb, leb}
use Rattle.std.proofs.lemmas.Bool.Decides.{nat_tests}
use borrow.Author.Tests.{eqb-true, ltb-true, not-false}
use Rattle.base.specs.Lists.{each, below, first}
use Rattle.base.proofs.Lists.{first-none}
use Rattle.base.specs.Options.{option_of}
use Rattle.std.specs.List.{position_from}
use Rattle.std.specs.Prelude.{Some}
use native.Mathlib.Numerals.{add-one}
use Rattle.base.specs.Limits.{top_mark}
use Rattle.tree.specs.Parents.{word}
use Rattle.tree.specs.Faults.{is_stray}
use Rattle.judge.specs.Regions.{NoStray}

-- the place of the first word of a list that passes a test is the lowest number that passes the test of its word
pub position-first : (test g : ℕ → Bool) (xs : List ℕ) (i : ℕ) → ((k : ℕ) → k < length xs → g (i + k) ≡ test (get_or xs k 0)) → option_of (position_from test i xs) ≡ first g (each (length xs) i (λ v. v))
unfolding first each
position-first test g [] i h = refl
position-first test g (x ∷ xs) i h =
    let z : i ≡ i + 0 = omega arith in
    let own : g i ≡ test x = ap g z ∙ h 0 (omega arith) in
    rw own (go (test x) (position-first test g xs (suc i) (λ k b. ap g (later k) ∙ h (suc k) (omega arith))))
  where
    later : (k : ℕ) → suc i + k ≡ i + suc k
    later k = omega arith

    go : (b : Bool) → option_of (position_from test (suc i) xs) ≡ first g (each (length xs) (suc i) (λ v. v)) → option_of (cond b (Some i) (position_from test (i + 1) xs)) ≡ cond b (some i) (first g (each (length xs) (suc i) (λ v. v)))
    go true e = refl
    go false e = rw add-one e

-- two tests that agree find the same
pub first-same : (f g : ℕ → Bool) (n i : ℕ) → ((v : ℕ) → v < i + n → f v ≡ g v) → first f (each n i (λ v. v)) ≡ first g (each n i (λ v. v))
unfolding first each
first-same f g zero i h = refl
first-same f g (suc n) i h = rw (h i (omega arith), first-same f g n (suc i) (λ v b. h v (omega arith)))

-- what is not stray is an entry or the top mark
module _ (ps : List ℕ) where
  pub fine-word : (v : ℕ) → is_stray ps v ≡ false → (word ps v < length ps) ⊎ (word ps v ≡ top_mark)
  unfolding is_stray
  fine-word v e = go (eqb (word ps v) top_mark) refl (not-false _ e)
    where
      go : (b : Bool) → eqb (word ps v) top_mark ≡ b → (b || ltb (word ps v) (length ps)) ≡ true → (word ps v < length ps) ⊎ (word ps v ≡ top_mark)
      go true q r = inr (eqb-true (word ps v) top_mark q)
      go false q r = inl (ltb-true (word ps v) (length ps) r)

  pub no_stray : first (is_stray ps) (below (length ps) (λ v. v)) ≡ none → NoStray ps
  no_stray e v h = fine-word v (first-none (is_stray ps) (length ps) 0 e v (omega arith) (omega arith))

  -- the same test of the word
  pub stray-test : (k : ℕ) → is_stray ps (0 + k) ≡ (not (eqb (get_or ps k 0) top_mark) && leb (length ps) (get_or ps k 0))
  unfolding is_stray
  stray-test k =
      let z : 0 + k ≡ k = omega arith in
      rw z (go (eqb (get_or ps k 0) top_mark))
    where
      go : (b : Bool) → not (b || ltb (word ps k) (length ps)) ≡ (not b && leb (length ps) (word ps k))
      go true = refl
      go false = grind (arith, nat_tests)
