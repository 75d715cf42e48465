-- What each question means on two lists under a renumbering: the same number, and the named entry renumbered. Assumes nothing.
use mathlib.Core.Path.{◌≡◌, refl, sym, ap, ◌∙◌}
use mathlib.Core.List.{List}
use mathlib.Core.Bool.{cond}
use mathlib.Core.Option.{Option, none, some, map, Option-elim}
use Prim.Native.Nat.{ℕ, ◌≤◌, ◌<◌}
use native.Mathlib.Omega.{arith}
use native.Mathlib.Decide.{dec_le}
use lib.ListN.{length}
use lib.Dec.{eqb}
use borrow.Author.Tests.{le-leb, lt-leb}
use Rattle.base.specs.Lists.{first, has}
use Rattle.base.specs.Numbers.{Outcome, accepted, unknown, too_deep, not_above}
use Rattle.base.specs.Limits.{top_mark}
use Rattle.base.proofs.Filters.{some-map}
use Rattle.tree.specs.Parents.{up, climb, children}
use Rattle.tree.specs.Level.{level_ancestor}
use Rattle.tree.specs.Faults.{Tree}
use Rattle.tree.specs.Questions.{known, class_of, rating_of, climb_of, ancestry_of, branch_of}
use Rattle.tree.proofs.Branches.{branch-child, branch-not-above, branch-iff, not-above-iff}
use Rattle.renumbering.specs.Numbering.{Renumbered}
use Rattle.renumbering.proofs.Numbers.{same_test}
use Rattle.renumbering.proofs.Climbs.{new_in, new-past, parent-new, up-new, ancestor-new, ancestor-old, climb-new, level-new}

-- an outcome with the new number of what it names
abbrev pub renamed : (ℕ → ℕ) → Outcome → Outcome
renamed r o = record { number = o.number; word = r o.word }

module _ (r : ℕ → ℕ) (ps qs : List ℕ) (e : Renumbered r ps qs) where
  -- an entry's new number is an entry, and no other number is one
  known_in : (v : ℕ) (o : Outcome) → v < length ps → (known ps v o ≡ o) × (known qs (r v) o ≡ o)
  known_in v o h = (rw (lt-leb (length ps) v h), rw (lt-leb (length qs) (r v) (new_in r ps qs e v h)))

  known_past : (v : ℕ) (o i : Outcome) → length ps ≤ v → (known ps v o ≡ unknown v) × (known qs (r v) i ≡ unknown (r v))
  known_past v o i h = (rw (le-leb (length ps) v h), rw (le-leb (length qs) (r v) (new-past r ps qs e v h)))

  known-new : (v : ℕ) (o i : Outcome) → i ≡ renamed r o → known qs (r v) i ≡ renamed r (known ps v o)
  known-new v o i q = go (dec_le (length ps) v)
    where
      go : Dec (length ps ≤ v) → known qs (r v) i ≡ renamed r (known ps v o)
      go (yes h) = (known_past v o i h).1 ∙ ap (renamed r) (sym (known_past v o i h).0)
      go (no h) = let k : v < length ps = omega arith in (known_in v i k).1 ∙ q ∙ ap (renamed r) (sym (known_in v o k).0)

  pub class-new : (v d : ℕ) → class_of qs (r v) d ≡ renamed r (class_of ps v d)
  unfolding class_of Option-elim
  class-new v d = known-new v _ _ (ap (λ o. Option-elim o (too_deep (r v)) accepted) (level-new r ps qs e v d) ∙ go (level_ancestor ps v d))
    where
      go : (o : Option ℕ) → Option-elim (map r o) (too_deep (r v)) accepted ≡ renamed r (Option-elim o (too_deep v) accepted)
      go none = refl
      go (some u) = refl

  pub rating-new : (v d : ℕ) → rating_of qs (r v) d ≡ renamed r (rating_of ps v d)
  unfolding rating_of Option-elim
  rating-new v d = known-new v _ _ (ap (λ o. accepted (Option-elim o (r v) (λ u. u))) (level-new r ps qs e v d) ∙ ap accepted (go (level_ancestor ps v d)))
    where
      go : (o : Option ℕ) → Option-elim (map r o) (r v) (λ u. u) ≡ r (Option-elim o v (λ u. u))
      go none = refl
      go (some u) = refl

  pub climbing-new : (v k : ℕ) → climb_of qs (r v) k ≡ renamed r (climb_of ps v k)
  unfolding climb_of Option-elim
  climbing-new v k = known-new v _ _ (ap (λ o. Option-elim o (too_deep (r v)) accepted) (up-new r ps qs e k v) ∙ go (up ps k v))
    where
      go : (o : Option ℕ) → Option-elim (map r o) (too_deep (r v)) accepted ≡ renamed r (Option-elim o (too_deep v) accepted)
      go none = refl
      go (some u) = refl

  -- ancestry's word is no entry, but where it names a number that is none
  known_same : (v : ℕ) (o i : Outcome) → i ≡ o → known qs (r v) i ≡ known ps v o
  known_same v o i q = go (dec_le (length ps) v)
    where
      go : Dec (length ps ≤ v) → known qs (r v) i ≡ known ps v o
      go (yes h) = (known_past v o i h).1 ∙ ap unknown (e.numbers.others v h) ∙ sym (known_past v o i h).0
      go (no h) = let k : v < length ps = omega arith in (known_in v i k).1 ∙ q ∙ sym (known_in v o k).0

  pub ancestry-new : (u v : ℕ) → ancestry_of qs (r u) (r v) ≡ ancestry_of ps u v
  unfolding ancestry_of
  ancestry-new u v = known_same u _ _ (known_same v _ _ (ap (λ b. accepted (cond b 1 0)) (ap (λ l. has l (r u)) (climb-new r ps qs e v) ∙ some-map r (eqb u) (eqb (r u)) (same_test (length ps) r e.numbers u) (climb ps v))))

  -- the child of u on the way to v
  module _ (small : length ps ≤ top_mark) (tree : Tree ps) (other : Tree qs) where
    fits : length qs ≤ top_mark
    fits = omega (arith, e.size)

    inside : (u v : ℕ) → u < length ps → v < length ps → branch_of ps u v ≡ Option-elim (first (has (climb ps v)) (children ps u)) (not_above u) accepted
    unfolding branch_of
    inside u v hu hv = rw (lt-leb (length ps) u hu, lt-leb (length ps) v hv)

    towards-new : (u v : ℕ) → u < length ps → v < length ps → (o : Option ℕ) → first (has (climb ps v)) (children ps u) ≡ o → branch_of qs (r u) (r v) ≡ renamed r (Option-elim o (not_above u) accepted)
    unfolding Option-elim
    towards-new u v hu hv none q =
        let (k, m, no_way) = (not-above-iff ps small tree u v).0 (ap (λ o. o.number) (inside u v hu hv ∙ ap (λ o. Option-elim o (not_above u) accepted) q)) in
        branch-not-above qs fits other (r u) (r v) (new_in r ps qs e u hu) (new_in r ps qs e v hv) (λ s. no_way (record { ancestor = ancestor-old r ps qs e u v s.ancestor; other = λ z. s.other (ap r z) }))
    towards-new u v hu hv (some c) q =
        let (p, a) = (branch-iff ps small tree u v c).0 (inside u v hu hv ∙ ap (λ o. Option-elim o (not_above u) accepted) q) in
        branch-child qs fits other (r u) (r v) (r c) (parent-new r ps qs e c ∙ ap (map r) p) (ancestor-new r ps qs e c v a)

    pub branch-new : (u v : ℕ) → branch_of qs (r u) (r v) ≡ renamed r (branch_of ps u v)
    unfolding branch_of
    branch-new u v = go (dec_le (length ps) u) (dec_le (length ps) v)
      where
        go : Dec (length ps ≤ u) → Dec (length ps ≤ v) → branch_of qs (r u) (r v) ≡ renamed r (branch_of ps u v)
        go (yes h) k = rw (le-leb (length ps) u h, le-leb (length qs) (r u) (new-past r ps qs e u h))
        go (no h) (yes k) =
            let hu : u < length ps = omega arith in
            rw (lt-leb (length ps) u hu, lt-leb (length qs) (r u) (new_in r ps qs e u hu), le-leb (length ps) v k, le-leb (length qs) (r v) (new-past r ps qs e v k))
        go (no h) (no k) =
            let hu : u < length ps = omega arith in
            let hv : v < length ps = omega arith in
            towards-new u v hu hv (first (has (climb ps v)) (children ps u)) refl ∙ ap (renamed r) (sym (inside u v hu hv))
