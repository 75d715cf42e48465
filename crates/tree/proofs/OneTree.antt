-- The steps to `Theorems`: what each check of a list finds, and what a tree gives it. Assumes nothing.
use mathlib.Core.Path.{◌≡◌, refl, sym, ap, ◌∙◌}
use mathlib.Core.Logic.{◌⊎◌, inl, inr}
use mathlib.Core.List.{List, [], ◌∷◌}
use mathlib.Core.Bool.{Bool, true, false, not, ◌||◌}
use mathlib.Core.Option.{Option, none, some, map, or_else, map-eq-none_iff, some-ne-none}
use Prim.Native.Nat.{ℕ, suc, ◌+◌, ◌≤◌, ◌<◌}
use native.Mathlib.Omega.{arith}
use native.Mathlib.Decide.{ℕ_discrete, dec_lt}
use lib.ListN.{length}
use lib.Dec.{eqb, ltb}
use borrow.Author.Tests.{eqb-true, ltb-true, eq-eqb, ne_eqb, lt-ltb, not-false}
use Rattle.base.specs.Numbers.{Outcome, stray, loop}
use Rattle.base.proofs.Lists.{clash, at_in, at_some, first-none, none_first, places-one}
use Rattle.base.proofs.Counts.{one, times, places-at, places-past}
use Rattle.base.specs.Limits.{top_mark}
use Rattle.tree.specs.Parents.{word, up, children}
use Rattle.tree.specs.Faults.{Tree, lowest, is_stray, stray_fault, tops_fault, meets_top, loop_fault, list_fault}
use Rattle.tree.proofs.Climbs.{meets, meets-found, found-meets, up_in}
use Rattle.tree.proofs.Preorders.{meets-within}

or-none {ℓ} : {A : Type ℓ} (a b : Option A) → or_else a b ≡ none → (a ≡ none) × (b ≡ none)
unfolding or_else
or-none none b e = (refl, e)
or-none (some x) b e = absurd (some-ne-none x e)

module _ (ps : List ℕ) where
  -- a check of all entries that finds none
  lowest-none : (test : ℕ → Bool) (f : ℕ → Outcome) → map f (lowest ps test) ≡ none → (v : ℕ) → v < length ps → test v ≡ false
  lowest-none test f e v h = first-none test (length ps) 0 ((map-eq-none_iff f (lowest ps test)).0 e) v (omega arith) (omega arith)

  none-lowest : (test : ℕ → Bool) (f : ℕ → Outcome) → ((v : ℕ) → v < length ps → test v ≡ false) → map f (lowest ps test) ≡ none
  none-lowest test f h = (map-eq-none_iff f (lowest ps test)).1 (none_first test (length ps) 0 (λ v a b. h v (omega arith)))

  -- 4: a word that is not stray
  no_stray : (v : ℕ) → is_stray ps v ≡ false → (word ps v ≡ top_mark) ⊎ (word ps v < length ps)
  unfolding is_stray
  no_stray v e = go (eqb (word ps v) top_mark) refl (not-false _ e)
    where
      go : (b : Bool) → eqb (word ps v) top_mark ≡ b → (b || ltb (word ps v) (length ps)) ≡ true → (word ps v ≡ top_mark) ⊎ (word ps v < length ps)
      go true q r = inl (eqb-true (word ps v) top_mark q)
      go false q r = inr (ltb-true (word ps v) (length ps) r)

  stray-not : (v : ℕ) → (word ps v ≡ top_mark) ⊎ (word ps v < length ps) → is_stray ps v ≡ false
  unfolding is_stray
  stray-not v (inl e) = rw (eq-eqb (word ps v) top_mark e)
  stray-not v (inr h) = rw (lt-ltb (word ps v) (length ps) h) (go (eqb (word ps v) top_mark))
    where
      go : (b : Bool) → not (b || true) ≡ false
      go true = refl
      go false = refl

  -- 5: an only top
  one-top : (n : ℕ) (l : List ℕ) → tops_fault n l ≡ none → (t : ℕ) × (l ≡ t ∷ [])
  one-top n [] e = absurd (some-ne-none _ e)
  one-top n (t ∷ []) e = (t, refl)
  one-top n (t ∷ u ∷ l) e = absurd (some-ne-none _ e)

  module _ (t : ℕ) (e : children ps top_mark ≡ t ∷ []) where
    only-top : (v : ℕ) → v < length ps → word ps v ≡ top_mark → v ≡ t
    unfolding times
    only-top v h w = go (ℕ_discrete v t)
      where
        go : Dec (v ≡ t) → v ≡ t
        go (yes q) = q
        go (no q) = absurd (omega (arith, places-at ps 0 v v top_mark h (omega arith), ap (times v) e, ap one (eq-eqb (word ps v) top_mark w), ap one (ne_eqb v t q)))

    top_in : (t < length ps) × (word ps t ≡ top_mark)
    unfolding times
    top_in = go (dec_lt t (length ps)) (ℕ_discrete (word ps t) top_mark)
      where
        here : times t (children ps top_mark) ≡ 1
        here = ap (times t) e ∙ omega (arith, ap one (eq-eqb t t refl))

        go : Dec (t < length ps) → Dec (word ps t ≡ top_mark) → (t < length ps) × (word ps t ≡ top_mark)
        go (yes h) (yes w) = (h, w)
        go (yes h) (no w) = absurd (omega (arith, here, places-at ps 0 t t top_mark h (omega arith), ap one (ne_eqb (word ps t) top_mark w)))
        go (no h) w = absurd (omega (arith, here, places-past t ps 0 top_mark (omega arith)))

  -- 6: a climb that never meets the top
  pub lost-never : length ps ≤ top_mark → (v : ℕ) → meets_top ps v ≡ false → (k u : ℕ) → up ps k v ≡ some u → word ps u ≡ top_mark → ⊥
  unfolding meets_top meets
  lost-never small v e k u r w = clash (sym e ∙ meets-within ps small (suc k) v (found-meets ps k v u small r w))

  pub never-lost : (v : ℕ) → v < length ps → ((k u : ℕ) → up ps k v ≡ some u → word ps u ≡ top_mark → ⊥) → meets_top ps v ≡ false
  unfolding meets_top meets
  never-lost v h f = go (meets ps (length ps) v) refl
    where
      go : (b : Bool) → meets ps (length ps) v ≡ b → b ≡ false
      go true e = let r = meets-found ps (length ps) v h e in absurd (f r.0 r.1 r.2 r.3)
      go false e = refl

  -- a list that passes the checks forms one tree
  pub passed-tree : list_fault ps ≡ none → Tree ps
  unfolding list_fault meets_top meets
  passed-tree e =
      let a = or-none (stray_fault ps) _ e in
      let b = or-none (tops_fault (length ps) (children ps top_mark)) (loop_fault ps) a.1 in
      let (t, c) = one-top (length ps) (children ps top_mark) b.0 in
      let r = top_in t c in
      record {
        root = t;
        marked = at_in ps t r.0 ∙ ap some r.1;
        others = λ v h n. other t c v h n (no_stray v (lowest-none (is_stray ps) stray a.0 v h));
        climbs = λ v h. reach t c v h (not-false _ (lowest-none (λ u. not (meets_top ps u)) loop b.1 v h));
      }
    where
      other : (t : ℕ) → children ps top_mark ≡ t ∷ [] → (v : ℕ) → v < length ps → (v ≡ t → ⊥) → (word ps v ≡ top_mark) ⊎ (word ps v < length ps) → word ps v < length ps
      other t c v h n (inl w) = absurd (n (only-top t c v h w))
      other t c v h n (inr w) = w

      reach : (t : ℕ) → children ps top_mark ≡ t ∷ [] → (v : ℕ) → v < length ps → meets ps (length ps) v ≡ true → (k : ℕ) × (up ps k v ≡ some t)
      reach t c v h m =
          let r = meets-found ps (length ps) v h m in
          (r.0, r.2 ∙ ap some (only-top t c r.1 (up_in ps r.0 v r.1 r.2) r.3))

  -- a list that forms one tree passes the checks
  module _ (small : length ps ≤ top_mark) (tree : Tree ps) where
    pub root_in : (tree.root < length ps) × (word ps tree.root ≡ top_mark)
    root_in = at_some ps tree.root top_mark tree.marked

    sound-word : (v : ℕ) → v < length ps → Dec (v ≡ tree.root) → (word ps v ≡ top_mark) ⊎ (word ps v < length ps)
    sound-word v h (yes q) = inl (ap (word ps) q ∙ root_in.1)
    sound-word v h (no q) = inr (tree.others v h q)

    pub root-alone : children ps top_mark ≡ tree.root ∷ []
    root-alone =
        let z : 0 + tree.root ≡ tree.root = omega arith in
        rw z at (places-one ps 0 top_mark tree.root root_in.0 root_in.1 (λ v h n w. omega (arith, tree.others v h n)))

    pub tree-meets : (v : ℕ) → v < length ps → meets_top ps v ≡ true
    unfolding meets_top meets
    tree-meets v h =
        let r = tree.climbs v h in
        meets-within ps small (suc r.0) v (found-meets ps r.0 v tree.root small r.1 root_in.1)

    pub tree-passes : list_fault ps ≡ none
    unfolding list_fault or_else
    tree-passes =
        rw (
          none-lowest (is_stray ps) stray (λ v h. stray-not v (sound-word v h (ℕ_discrete v tree.root))),
          root-alone,
          none-lowest (λ v. not (meets_top ps v)) loop (λ v h. ap not (tree-meets v h)),
        )
