-- A preorder as a bag: an entry stands in it once where its climb meets the top, and else never. So no climb to the top passes more than n
-- entries. Assumes nothing.
use mathlib.Core.Path.{◌≡◌, refl, sym, ap, ap₂, ◌∙◌}
use mathlib.Core.Logic.{◌⊎◌, inl, inr}
use mathlib.Core.List.{List, [], ◌∷◌, ◌++◌, append_assoc, append-nil}
use mathlib.Core.Bool.{true}
use Prim.Native.Nat.{ℕ, zero, suc, ◌+◌, ◌≤◌, ◌<◌}
use native.Mathlib.Omega.{arith}
use native.Mathlib.Decide.{ℕ_discrete, dec_lt}
use lib.ListN.{length, length-append}
use borrow.Author.Tests.{eq-eqb, ne_eqb}
use Rattle.base.specs.Lists.{some?}
use Rattle.base.proofs.Lists.{clash}
use Rattle.base.proofs.Counts.{one, times, times-append, places-at, places-past, sum, sum-le, length-sum, one_same}
use Rattle.base.specs.Limits.{top_mark}
use Rattle.tree.specs.Parents.{word, children, climb_within}
use Rattle.tree.specs.Forest.{node, plant, grow, preorder}
use Rattle.tree.proofs.Climbs.{meets, meets-top, meets_word, meets-past}

-- the preorder of m levels whose first is vs
unfoldable pub pre : List ℕ → ℕ → List ℕ → List ℕ
pre ps m vs = preorder (grow ps m vs)

-- the preorder's own equations
pub pre-nil : (ps : List ℕ) (k : ℕ) → pre ps k [] ≡ []
unfolding pre preorder grow plant
pre-nil ps zero = refl
pre-nil ps (suc k) = refl

pub pre-cons : (ps : List ℕ) (k v : ℕ) (vs : List ℕ) → pre ps (suc k) (v ∷ vs) ≡ v ∷ (pre ps k (children ps v) ++ pre ps (suc k) vs)
unfolding pre preorder grow plant
pre-cons ps k v vs = refl

pub pre-zero : (ps vs : List ℕ) → pre ps zero vs ≡ []
unfolding pre preorder grow
pre-zero ps vs = refl

pre-append : (ps : List ℕ) (k : ℕ) (a b : List ℕ) → pre ps k (a ++ b) ≡ pre ps k a ++ pre ps k b
pre-append ps zero a b = simp pre-zero
pre-append ps (suc k) [] b = simp pre-nil
pre-append ps (suc k) (v ∷ a) b = simp (pre-cons, pre-append ps (suc k) a b, append_assoc)

-- the next level
level : List ℕ → List ℕ → List ℕ
level ps [] = []
level ps (v ∷ vs) = children ps v ++ level ps vs

-- a preorder is, as a bag, its first level and the preorder of the next
times-level : (ps : List ℕ) (x k : ℕ) (vs : List ℕ) → times x (pre ps (suc k) vs) ≡ times x vs + times x (pre ps k (level ps vs))
unfolding times level
times-level ps x k [] = rw (pre-nil ps (suc k), pre-nil ps k)
times-level ps x k (v ∷ vs) =
    rw (pre-cons ps k v vs, pre-append ps k (children ps v) (level ps vs))
    (omega (arith, times-append x (pre ps k (children ps v)) (pre ps (suc k) vs), times-append x (pre ps k (children ps v)) (pre ps k (level ps vs)), times-level ps x k vs))

-- an entry is in the next level as often as its parent is in this one
times-word : (ps : List ℕ) (x : ℕ) (vs : List ℕ) → x < length ps → times x (level ps vs) ≡ times (word ps x) vs
unfolding times level
times-word ps x [] h = refl
times-word ps x (v ∷ vs) h = omega (arith, times-append x (children ps v) (level ps vs), places-at ps 0 x x v h (omega arith), times-word ps x vs h)

times_none : (ps : List ℕ) (x : ℕ) (vs : List ℕ) → length ps ≤ x → times x (level ps vs) ≡ 0
unfolding times level
times_none ps x [] h = refl
times_none ps x (v ∷ vs) h = omega (arith, times-append x (children ps v) (level ps vs), places-past x ps 0 v (omega arith), times_none ps x vs h)

pre-word : (ps : List ℕ) (x k : ℕ) (vs : List ℕ) → x < length ps → times x (pre ps k (level ps vs)) ≡ times (word ps x) (pre ps k vs)
unfolding times
pre-word ps x zero vs h = simp pre-zero
pre-word ps x (suc k) vs h = omega (arith, times-level ps x k (level ps vs), times-level ps (word ps x) k vs, times-word ps x vs h, pre-word ps x k (level ps vs) h)

pre-none : (ps : List ℕ) (x k : ℕ) (vs : List ℕ) → length ps ≤ x → times x (pre ps k (level ps vs)) ≡ 0
unfolding times
pre-none ps x zero vs h = simp pre-zero
pre-none ps x (suc k) vs h = omega (arith, times-level ps x k (level ps vs), times_none ps x vs h, pre-none ps x k (level ps vs) h)

-- an entry is in the preorder once where its climb meets the top, and else never
once-level : (ps : List ℕ) (k x : ℕ) → length ps ≤ top_mark → times x (pre ps k (level ps (top_mark ∷ []))) ≡ one (meets ps k x)
unfolding times meets climb_within some?
once-level ps zero x small = simp pre-zero
once-level ps (suc k) x small = go (dec_lt x (length ps)) (ℕ_discrete (word ps x) top_mark) (once-level ps k (word ps x) small)
  where
    go : Dec (x < length ps) → Dec (word ps x ≡ top_mark) → times (word ps x) (pre ps k (level ps (top_mark ∷ []))) ≡ one (meets ps k (word ps x))
        → times x (pre ps (suc k) (level ps (top_mark ∷ []))) ≡ one (meets ps (suc k) x)
    go (no h) d ih = pre-none ps x (suc k) (top_mark ∷ []) (omega arith) ∙ sym (ap one (meets-past ps (suc k) x (omega arith)))
    go (yes h) (yes e) ih =
        omega (arith, ap one (meets-top ps k x e), pre-word ps x (suc k) (top_mark ∷ []) h, times-level ps (word ps x) k (top_mark ∷ []), ap one (eq-eqb (word ps x) top_mark e), pre-none ps (word ps x) k (top_mark ∷ []) (omega arith))
    go (yes h) (no e) ih =
        omega (arith, ap one (meets_word ps k x h e), pre-word ps x (suc k) (top_mark ∷ []) h, times-level ps (word ps x) k (top_mark ∷ []), ap one (ne_eqb (word ps x) top_mark e))

tops-level : (ps : List ℕ) → level ps (top_mark ∷ []) ≡ children ps top_mark
unfolding level
tops-level ps = append-nil _

pub once : (ps : List ℕ) (k x : ℕ) → length ps ≤ top_mark → times x (pre ps k (children ps top_mark)) ≡ one (meets ps k x)
once ps k x small = rw tops-level at (once-level ps k x small)

module _ (ps : List ℕ) (k : ℕ) (small : length ps ≤ top_mark) where
  pub none-past : (x : ℕ) → length ps ≤ x → times x (pre ps k (children ps top_mark)) ≡ 0
  none-past x h = rw tops-level at (pre-none ps x k (top_mark ∷ []) h)

  -- there are as many entries in the preorder as climbs that meet the top
  pub length-pre : length (pre ps k (children ps top_mark)) ≡ sum (length ps) (λ x. one (meets ps k x))
  length-pre = length-sum (length ps) (pre ps k (children ps top_mark)) none-past ∙ simp once

  pub length-pre-le : length (pre ps k (children ps top_mark)) ≤ length ps
  length-pre-le = rw length-pre (sum-le (length ps) (λ x. meets ps k x))

-- a level more changes nothing, or every level so far has an entry
abbrev Settles : List ℕ → ℕ → List ℕ → Type 0
Settles ps k vs = (grow ps (suc k) vs ≡ grow ps k vs) ⊎ (suc k ≤ length (pre ps (suc k) vs))

row : (ps : List ℕ) (k : ℕ) → ((us : List ℕ) → Settles ps k us) → (vs : List ℕ) → Settles ps (suc k) vs
unfolding grow plant
row ps k ih [] = inl refl
row ps k ih (v ∷ vs) = go (ih (children ps v)) (row ps k ih vs)
  where
    long : length (pre ps (suc (suc k)) (v ∷ vs)) ≡ suc (length (pre ps (suc k) (children ps v)) + length (pre ps (suc (suc k)) vs))
    long = simp (pre-cons, length-append)

    go : Settles ps k (children ps v) → Settles ps (suc k) vs → Settles ps (suc k) (v ∷ vs)
    go (inr h) b = inr (omega (arith, long))
    go (inl e) (inr h) = inr (omega (arith, long))
    go (inl e) (inl d) = inl (ap₂ (node v) e d)

settles : (ps : List ℕ) (k : ℕ) (vs : List ℕ) → Settles ps k vs
unfolding grow plant
settles ps zero [] = inl refl
settles ps zero (v ∷ vs) = inr (rw (pre-cons ps 0 v vs) (omega arith))
settles ps (suc k) vs = row ps k (settles ps k) vs

-- so where the entries are few enough, a level more changes nothing
pub settled : (ps : List ℕ) (k : ℕ) (vs : List ℕ) → length (pre ps (suc k) vs) ≤ k → grow ps (suc k) vs ≡ grow ps k vs
settled ps k vs h = go (settles ps k vs)
  where
    go : Settles ps k vs → grow ps (suc k) vs ≡ grow ps k vs
    go (inl e) = e
    go (inr b) = absurd (omega arith)

module _ (ps : List ℕ) (small : length ps ≤ top_mark) where
  -- a level past the n-th has no entry
  pub whole-more : grow ps (suc (length ps)) (children ps top_mark) ≡ grow ps (length ps) (children ps top_mark)
  whole-more = settled ps (length ps) (children ps top_mark) (length-pre-le ps (suc (length ps)) small)

  -- a climb that meets the top does so within n entries
  meets-one-more : (j x : ℕ) → meets ps (suc (j + length ps)) x ≡ meets ps (j + length ps) x
  unfolding pre
  meets-one-more zero x =
      let z : 0 + length ps ≡ length ps = omega arith in
      rw z
      (one_same (meets ps (suc (length ps)) x) (meets ps (length ps) x)
      (sym (once ps (suc (length ps)) x small) ∙ ap (λ f. times x (preorder f)) whole-more ∙ once ps (length ps) x small))
  meets-one-more (suc j) x =
      let z : suc j + length ps ≡ suc (j + length ps) = omega arith in
      rw z (go (dec_lt x (length ps)) (ℕ_discrete (word ps x) top_mark) (meets-one-more j (word ps x)))
    where
      go : Dec (x < length ps) → Dec (word ps x ≡ top_mark) → meets ps (suc (j + length ps)) (word ps x) ≡ meets ps (j + length ps) (word ps x)
          → meets ps (suc (suc (j + length ps))) x ≡ meets ps (suc (j + length ps)) x
      go (no h) d ih = meets-past ps _ x (omega arith) ∙ sym (meets-past ps _ x (omega arith))
      go (yes h) (yes e) ih = meets-top ps _ x e ∙ sym (meets-top ps _ x e)
      go (yes h) (no e) ih = meets_word ps _ x h e ∙ ih ∙ sym (meets_word ps _ x h e)

  pub meets-more : (j x : ℕ) → meets ps (j + length ps) x ≡ meets ps (length ps) x
  meets-more zero x = let z : 0 + length ps ≡ length ps = omega arith in rw z
  meets-more (suc j) x = let z : suc j + length ps ≡ suc (j + length ps) = omega arith in rw z (meets-one-more j x ∙ meets-more j x)

  -- fewer entries than it meets the top within are not enough, more change nothing
  meets-rise : (m x : ℕ) → meets ps m x ≡ true → meets ps (suc m) x ≡ true
  unfolding meets climb_within some?
  meets-rise zero x e = clash e
  meets-rise (suc m) x e = go (dec_lt x (length ps)) (ℕ_discrete (word ps x) top_mark) (meets-rise m (word ps x))
    where
      go : Dec (x < length ps) → Dec (word ps x ≡ top_mark) → (meets ps m (word ps x) ≡ true → meets ps (suc m) (word ps x) ≡ true) → meets ps (suc (suc m)) x ≡ true
      go (no h) d ih = clash (sym (meets-past ps (suc m) x (omega arith)) ∙ e)
      go (yes h) (yes q) ih = meets-top ps (suc m) x q
      go (yes h) (no q) ih = meets_word ps (suc m) x h q ∙ ih (sym (meets_word ps m x h q) ∙ e)

  pub meets-all : (j m x : ℕ) → meets ps m x ≡ true → meets ps (j + m) x ≡ true
  meets-all zero m x e = let z : 0 + m ≡ m = omega arith in rw z e
  meets-all (suc j) m x e = let z : suc j + m ≡ suc (j + m) = omega arith in rw z (meets-rise (j + m) x (meets-all j m x e))

  pub meets-within : (m x : ℕ) → meets ps m x ≡ true → meets ps (length ps) x ≡ true
  meets-within m x e =
      let z : length ps + m ≡ m + length ps = omega arith in
      sym (meets-more m x) ∙ (rw z at (meets-all (length ps) m x e))
