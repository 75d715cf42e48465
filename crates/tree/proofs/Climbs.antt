-- Laws of `specs/Parents.antt`: parents, climbs, and the climb that meets the top. Assumes nothing.
use mathlib.Core.Path.{◌≡◌, refl, sym, ap, ◌∙◌}
use mathlib.Core.List.{List, []}
use mathlib.Core.Bool.{Bool, true, false, cond}
use mathlib.Core.Option.{Option, none, some, Option-elim, bind, bind-eq-some_iff}
use Prim.Native.Nat.{ℕ, zero, suc, ◌+◌, ◌≤◌, ◌<◌}
use native.Mathlib.Omega.{arith}
use native.Mathlib.Decide.{ℕ_discrete, dec_lt}
use lib.ListN.{length, get_or-eq_default}
use lib.Dec.{eqb}
use borrow.Author.Tests.{eq-eqb, ne_eqb, lt-ltb, le-ltb}
use Rattle.base.specs.Lists.{some?}
use Rattle.base.proofs.Lists.{clash, at_in, at-past}
use Rattle.base.specs.Limits.{top_mark}
use Rattle.tree.specs.Parents.{word, entry, parent, up, climb_within}

module _ (ps : List ℕ) where
  pub entry_in : (v : ℕ) → v < length ps → entry ps v ≡ some v
  unfolding entry
  entry_in v h = rw (lt-ltb v (length ps) h)

  pub entry_past : (v : ℕ) → length ps ≤ v → entry ps v ≡ none
  unfolding entry
  entry_past v h = rw (le-ltb v (length ps) h)

  pub entry-some : (v u : ℕ) → entry ps v ≡ some u → (v ≡ u) × (u < length ps)
  unfolding entry
  entry-some v u e = go (dec_lt v (length ps))
    where
      go : Dec (v < length ps) → (v ≡ u) × (u < length ps)
      go (yes h) = let q : v ≡ u = cc (entry_in v h) in (q, omega arith)
      go (no h) = absurd (let z : ◌≡◌ {A = ℕ} 0 1 = cc (entry_past v (omega arith)) in omega arith)

  -- the parent of an entry is its word, where that is an entry
  pub parent_is : (v : ℕ) → v < length ps → parent ps v ≡ entry ps (word ps v)
  unfolding parent bind
  parent_is v h = rw (at_in ps v h)

  pub parent-past : (v : ℕ) → length ps ≤ v → parent ps v ≡ none
  unfolding parent bind
  parent-past v h = rw (at-past ps v h)

  pub parent_in : (v : ℕ) → v < length ps → word ps v < length ps → parent ps v ≡ some (word ps v)
  parent_in v h w = parent_is v h ∙ entry_in (word ps v) w

  pub parent-none : (v : ℕ) → v < length ps → length ps ≤ word ps v → parent ps v ≡ none
  parent-none v h w = parent_is v h ∙ entry_past (word ps v) w

  pub parent-some : (v p : ℕ) → parent ps v ≡ some p → (v < length ps) × (p < length ps) × (word ps v ≡ p)
  parent-some v p e = go (dec_lt v (length ps))
    where
      go : Dec (v < length ps) → (v < length ps) × (p < length ps) × (word ps v ≡ p)
      go (yes h) = let r = entry-some (word ps v) p (sym (parent_is v h) ∙ e) in (h, r.1, r.0)
      go (no h) = absurd (let z : ◌≡◌ {A = ℕ} 0 1 = cc (parent-past v (omega arith)) in omega arith)

  -- climbs pass entries alone
  pub up_step : (k v p : ℕ) → parent ps v ≡ some p → up ps (suc k) v ≡ up ps k p
  unfolding up bind
  up_step k v p e = rw e

  pub up_first : (k v u : ℕ) → up ps (suc k) v ≡ some u → (p : ℕ) × (parent ps v ≡ some p) × (up ps k p ≡ some u)
  unfolding up
  up_first k v u e = (bind-eq-some_iff (parent ps v) (up ps k)).0 e

  pub up_in : (k v u : ℕ) → up ps k v ≡ some u → u < length ps
  unfolding up
  up_in zero v u e = (entry-some v u e).1
  up_in (suc k) v u e = let r = up_first k v u e in up_in k r.0 u r.2

  pub up_from : (k v u : ℕ) → up ps k v ≡ some u → v < length ps
  unfolding up
  up_from zero v u e = let (q, h) = entry-some v u e in omega arith
  up_from (suc k) v u e = let (p, q, r) = up_first k v u e in (parent-some v p q).0

  pub up-add : (k j v w : ℕ) → up ps k v ≡ some w → up ps (k + j) v ≡ up ps j w
  unfolding up
  up-add zero j v w e = let z : 0 + j ≡ j = omega arith in rw z (ap (up ps j) (entry-some v w e).0)
  up-add (suc k) j v w e =
      let (p, q, r) = up_first k v w e in
      let z : suc k + j ≡ suc (k + j) = omega arith in
      rw z (up_step (k + j) v p q ∙ up-add k j p w r)

  -- the climb of v meets the top mark within m entries
  unfoldable pub meets : ℕ → ℕ → Bool
  meets m v = some? (λ u. eqb (word ps u) top_mark) (climb_within ps m v)

  pub meets-step : (m v : ℕ) → meets (suc m) v ≡ cond (eqb (word ps v) top_mark) true (Option-elim (parent ps v) false (meets m))
  unfolding meets climb_within some? Option-elim
  meets-step m v = ap (cond (eqb (word ps v) top_mark) true) (go (parent ps v))
    where
      go : (o : Option ℕ) → some? (λ u. eqb (word ps u) top_mark) (Option-elim o [] (climb_within ps m)) ≡ Option-elim o false (meets m)
      go none = refl
      go (some p) = refl

  pub meets-top : (m v : ℕ) → word ps v ≡ top_mark → meets (suc m) v ≡ true
  meets-top m v e = meets-step m v ∙ rw (eq-eqb (word ps v) top_mark e)

  pub meets-up : (m v p : ℕ) → (word ps v ≡ top_mark → ⊥) → parent ps v ≡ some p → meets (suc m) v ≡ meets m p
  unfolding Option-elim
  meets-up m v p n e = meets-step m v ∙ rw (ne_eqb (word ps v) top_mark n, e)

  pub meets-end : (m v : ℕ) → (word ps v ≡ top_mark → ⊥) → parent ps v ≡ none → meets m v ≡ false
  unfolding Option-elim meets climb_within some?
  meets-end zero v n e = refl
  meets-end (suc m) v n e = meets-step m v ∙ rw (ne_eqb (word ps v) top_mark n, e)

  -- it meets the top just where some climbs reach an entry that holds the top mark
  pub meets-found : (m v : ℕ) → v < length ps → meets m v ≡ true → (k u : ℕ) × (up ps k v ≡ some u) × (word ps u ≡ top_mark)
  unfolding meets climb_within some? up
  meets-found zero v h e = clash e
  meets-found (suc m) v h e = go (ℕ_discrete (word ps v) top_mark) (parent ps v) refl (meets-found m)
    where
      Found : ℕ → Type 0
      Found x = (k u : ℕ) × (up ps k x ≡ some u) × (word ps u ≡ top_mark)

      go : Dec (word ps v ≡ top_mark) → (o : Option ℕ) → parent ps v ≡ o → ((w : ℕ) → w < length ps → meets m w ≡ true → Found w) → Found v
      go (yes q) o p ih = (0, v, entry_in v h, q)
      go (no q) none p ih = clash (sym (meets-end (suc m) v q p) ∙ e)
      go (no q) (some w) p ih =
          let r = ih w (parent-some v w p).1 (sym (meets-up m v w q p) ∙ e) in
          (suc r.0, r.1, up_step r.0 v w p ∙ r.2, r.3)

  pub found-meets : (k v u : ℕ) → length ps ≤ top_mark → up ps k v ≡ some u → word ps u ≡ top_mark → meets (suc k) v ≡ true
  unfolding up
  found-meets zero v u small e t = let r = entry-some v u e in meets-top 0 v (ap (word ps) r.0 ∙ t)
  found-meets (suc k) v u small e t =
      let r = up_first k v u e in
      let q = parent-some v r.0 r.1 in
      meets-up (suc k) v r.0 (λ w. omega (arith, q.1, q.2)) r.1 ∙ found-meets k r.0 u small r.2 t

  -- the same over words: a word that is no entry ends the climb
  pub meets-past : (m v : ℕ) → length ps ≤ v → meets m v ≡ false
  meets-past m v h = meets-end m v (λ q. omega (arith, get_or-eq_default ps 0 h)) (parent-past v h)

  pub meets_word : (m v : ℕ) → v < length ps → (word ps v ≡ top_mark → ⊥) → meets (suc m) v ≡ meets m (word ps v)
  meets_word m v h n = go (dec_lt (word ps v) (length ps))
    where
      go : Dec (word ps v < length ps) → meets (suc m) v ≡ meets m (word ps v)
      go (yes w) = meets-up m v (word ps v) n (parent_in v h w)
      go (no w) = meets-end (suc m) v n (parent-none v h (omega arith)) ∙ sym (meets-past m (word ps v) (omega arith))
