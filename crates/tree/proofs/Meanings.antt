-- What each number of an answer says of the list, where the list forms one tree. Assumes nothing.
use mathlib.Core.Path.{◌≡◌, refl, sym, ap, ◌∙◌}
use mathlib.Core.Logic.{◌⊎◌, inl, inr, ◌↔◌}
use mathlib.Core.List.{List}
use mathlib.Core.Option.{Option, none, some, Option-elim}
use Prim.Native.Nat.{ℕ, ◌≤◌, ◌<◌, min}
use native.Mathlib.Nat.{min-eq_left, min-eq_right}
use native.Mathlib.Omega.{arith}
use native.Mathlib.Decide.{dec_le}
use lib.ListN.{length}
use borrow.Author.Tests.{le-leb, lt-leb}
use Rattle.base.specs.Numbers.{accepted, unknown, too_deep}
use Rattle.base.specs.Limits.{top_mark}
use Rattle.tree.specs.Parents.{up, depth}
use Rattle.tree.specs.Level.{LevelAncestor, RatingClass, at_level, itself}
use Rattle.tree.specs.Faults.{Tree}
use Rattle.tree.specs.Questions.{class_of, rating_of, climb_of}
use Rattle.tree.proofs.Depths.{level-sound, level-complete, level-defined, level-deep}
use Rattle.tree.proofs.Climbs.{up_from}
use Rattle.tree.proofs.Intervals.{ancestor-in, ancestor-self}

-- the three cases of a level lookup
abbrev Cases : List ℕ → ℕ → ℕ → Type 0
Cases ps v d = (length ps ≤ v) ⊎ (((v < length ps) × (depth ps v < d)) ⊎ ((u : ℕ) × LevelAncestor ps v d u))

module _ (ps : List ℕ) (small : length ps ≤ top_mark) (tree : Tree ps) (v d : ℕ) where
  -- one of three: no entry, too deep, the level ancestor
  pub class-unknown : length ps ≤ v → class_of ps v d ≡ unknown v
  unfolding class_of
  class-unknown h = rw (le-leb (length ps) v h)

  pub class-deep : v < length ps → depth ps v < d → class_of ps v d ≡ too_deep v
  unfolding class_of Option-elim
  class-deep h b = rw (lt-leb (length ps) v h, level-deep ps small tree v d b)

  pub class-ancestor : (u : ℕ) → LevelAncestor ps v d u → class_of ps v d ≡ accepted u
  unfolding class_of Option-elim
  class-ancestor u l = rw (lt-leb (length ps) v (ancestor-in ps small tree u v l.ancestor).1, level-complete ps small tree v d u l)

  class_cases : Cases ps v d
  class_cases = go (dec_le (length ps) v) (dec_le d (depth ps v))
    where
      go : Dec (length ps ≤ v) → Dec (d ≤ depth ps v) → Cases ps v d
      go (yes h) b = inl h
      go (no h) (yes b) = let (u, e) = level-defined ps small tree v d (omega arith) b in inr (inr (u, level-sound ps small tree v d u e))
      go (no h) (no b) = inr (inl (omega arith, omega arith))

  -- so 7 means no entry, 8 an entry without an ancestor at that depth, 0 its level ancestor, and 9 never comes
  pub unknown-iff : ((class_of ps v d).number ≡ 7) ↔ (length ps ≤ v)
  unknown-iff = (λ e. go e class_cases, λ h. ap (λ o. o.number) (class-unknown h))
    where
      go : (class_of ps v d).number ≡ 7 → Cases ps v d → length ps ≤ v
      go e (inl h) = h
      go e (inr (inl (h, b))) = absurd (omega (arith, ap (λ o. o.number) (class-deep h b)))
      go e (inr (inr (u, l))) = absurd (omega (arith, ap (λ o. o.number) (class-ancestor u l)))

  pub deep-iff : ((class_of ps v d).number ≡ 8) ↔ ((v < length ps) × (depth ps v < d))
  deep-iff = (λ e. go e class_cases, λ (h, b). ap (λ o. o.number) (class-deep h b))
    where
      go : (class_of ps v d).number ≡ 8 → Cases ps v d → (v < length ps) × (depth ps v < d)
      go e (inl h) = absurd (omega (arith, ap (λ o. o.number) (class-unknown h)))
      go e (inr (inl (h, b))) = (h, b)
      go e (inr (inr (u, l))) = absurd (omega (arith, ap (λ o. o.number) (class-ancestor u l)))

  pub class-iff : (u : ℕ) → (class_of ps v d ≡ accepted u) ↔ LevelAncestor ps v d u
  class-iff u = (λ e. go e class_cases, class-ancestor u)
    where
      go : class_of ps v d ≡ accepted u → Cases ps v d → LevelAncestor ps v d u
      go e (inl h) = absurd (omega (arith, ap (λ o. o.number) (sym e ∙ class-unknown h)))
      go e (inr (inl (h, b))) = absurd (omega (arith, ap (λ o. o.number) (sym e ∙ class-deep h b)))
      go e (inr (inr (w, l))) = let z : w ≡ u = ap (λ o. o.word) (sym (class-ancestor w l) ∙ e) in rw z at l

  pub never-broken : (class_of ps v d).number ≡ 9 → ⊥
  never-broken e = go class_cases
    where
      go : Cases ps v d → ⊥
      go (inl h) = omega (arith, ap (λ o. o.number) (class-unknown h))
      go (inr (inl (h, b))) = omega (arith, ap (λ o. o.number) (class-deep h b))
      go (inr (inr (u, l))) = omega (arith, ap (λ o. o.number) (class-ancestor u l))

-- rating: every entry has one class, and 0 is given with that class; 7 means no entry
module _ (ps : List ℕ) (small : length ps ≤ top_mark) (tree : Tree ps) (v d : ℕ) where
  pub rating-unknown : length ps ≤ v → rating_of ps v d ≡ unknown v
  unfolding rating_of
  rating-unknown h = rw (le-leb (length ps) v h)

  pub rating-class : (u : ℕ) → RatingClass ps v d u → rating_of ps v d ≡ accepted u
  unfolding rating_of Option-elim
  rating-class u (at_level w l) = rw (lt-leb (length ps) v (ancestor-in ps small tree w v l.ancestor).1, level-complete ps small tree v d w l)
  rating-class u (itself h b) = rw (lt-leb (length ps) v h, level-deep ps small tree v d b)

  pub class-unique : (u w : ℕ) → RatingClass ps v d u → RatingClass ps v d w → u ≡ w
  class-unique u w a b = ap (λ o. o.word) (sym (rating-class u a) ∙ rating-class w b)

  -- the class is an entry of depth d or less
  pub rating-depth : (u : ℕ) → RatingClass ps v d u → (u < length ps) × (depth ps u ≤ d)
  rating-depth u (at_level w l) = ((ancestor-in ps small tree w v l.ancestor).0, omega (arith, l.depth_is))
  rating-depth u (itself h b) = (h, omega arith)

  pub has-class : v < length ps → (u : ℕ) × RatingClass ps v d u
  has-class h = go (dec_le d (depth ps v))
    where
      go : Dec (d ≤ depth ps v) → (u : ℕ) × RatingClass ps v d u
      go (yes b) = let (u, e) = level-defined ps small tree v d h b in (u, at_level u (level-sound ps small tree v d u e))
      go (no b) = (v, itself h (omega arith))

  pub rating-iff : (u : ℕ) → (rating_of ps v d ≡ accepted u) ↔ RatingClass ps v d u
  rating-iff u = (λ e. go e (dec_le (length ps) v), rating-class u)
    where
      go : rating_of ps v d ≡ accepted u → Dec (length ps ≤ v) → RatingClass ps v d u
      go e (yes h) = absurd (omega (arith, ap (λ o. o.number) (sym e ∙ rating-unknown h)))
      go e (no h) = let (w, c) = has-class (omega arith) in let z : w ≡ u = ap (λ o. o.word) (sym (rating-class w c) ∙ e) in rw z at c

  pub rating-unknown-iff : ((rating_of ps v d).number ≡ 7) ↔ (length ps ≤ v)
  rating-unknown-iff = (λ e. go e (dec_le (length ps) v), λ h. ap (λ o. o.number) (rating-unknown h))
    where
      go : (rating_of ps v d).number ≡ 7 → Dec (length ps ≤ v) → length ps ≤ v
      go e (yes h) = h
      go e (no h) = let (u, c) = has-class (omega arith) in absurd (omega (arith, ap (λ o. o.number) (rating-class u c)))

  -- an entry of depth d or less is its own class
  own-ancestor : v < length ps → LevelAncestor ps v (depth ps v) v
  own-ancestor h = record { ancestor = ancestor-self ps small tree v h; depth_is = refl }

  pub own-class : v < length ps → depth ps v ≤ d → RatingClass ps v d v
  own-class h low = go (dec_le d (depth ps v))
    where
      go : Dec (d ≤ depth ps v) → RatingClass ps v d v
      go (yes b) = let e : depth ps v ≡ d = omega arith in at_level v (rw e at (own-ancestor h))
      go (no b) = itself h (omega arith)

  -- it is the level ancestor at the smaller of d and the entry's depth
  pub rating-of-smaller : rating_of ps v d ≡ class_of ps v (min d (depth ps v))
  rating-of-smaller = go (dec_le (length ps) v) (dec_le d (depth ps v))
    where
      go : Dec (length ps ≤ v) → Dec (d ≤ depth ps v) → rating_of ps v d ≡ class_of ps v (min d (depth ps v))
      go (yes h) b = rating-unknown h ∙ sym (class-unknown ps small tree v (min d (depth ps v)) h)
      go (no h) (yes b) =
          let (u, e) = level-defined ps small tree v d (omega arith) b in
          let l = level-sound ps small tree v d u e in
          rating-class u (at_level u l) ∙ sym (class-ancestor ps small tree v d u l) ∙ ap (class_of ps v) (sym (min-eq_left b))
      go (no h) (no b) =
          rating-class v (itself (omega arith) (omega arith)) ∙ sym (class-ancestor ps small tree v (depth ps v) v (own-ancestor (omega arith))) ∙ ap (class_of ps v) (sym (min-eq_right (omega arith)))

-- climbing k up: 7 means no entry, 8 an entry with none k climbs above it, 0 that one, and no other number comes
module _ (ps : List ℕ) (v k : ℕ) where
  abbrev ClimbCases : Type 0
  ClimbCases = (length ps ≤ v) ⊎ (((v < length ps) × (up ps k v ≡ none)) ⊎ ((u : ℕ) × (up ps k v ≡ some u)))

  climb-unknown : length ps ≤ v → climb_of ps v k ≡ unknown v
  unfolding climb_of
  climb-unknown h = rw (le-leb (length ps) v h)

  climb-deep : v < length ps → up ps k v ≡ none → climb_of ps v k ≡ too_deep v
  unfolding climb_of Option-elim
  climb-deep h e = rw (lt-leb (length ps) v h, e)

  climb-found : (u : ℕ) → up ps k v ≡ some u → climb_of ps v k ≡ accepted u
  unfolding climb_of Option-elim
  climb-found u e = rw (lt-leb (length ps) v (up_from ps k v u e), e)

  climb-cases : ClimbCases
  climb-cases = go (dec_le (length ps) v) (up ps k v) refl
    where
      go : Dec (length ps ≤ v) → (o : Option ℕ) → up ps k v ≡ o → ClimbCases
      go (yes h) o e = inl h
      go (no h) none e = inr (inl (omega arith, e))
      go (no h) (some u) e = inr (inr (u, e))

  pub climb-unknown-iff : ((climb_of ps v k).number ≡ 7) ↔ (length ps ≤ v)
  climb-unknown-iff = (λ e. go e climb-cases, λ h. ap (λ o. o.number) (climb-unknown h))
    where
      go : (climb_of ps v k).number ≡ 7 → ClimbCases → length ps ≤ v
      go e (inl h) = h
      go e (inr (inl (h, n))) = absurd (omega (arith, ap (λ o. o.number) (climb-deep h n)))
      go e (inr (inr (u, r))) = absurd (omega (arith, ap (λ o. o.number) (climb-found u r)))

  pub climb-deep-iff : ((climb_of ps v k).number ≡ 8) ↔ ((v < length ps) × (up ps k v ≡ none))
  climb-deep-iff = (λ e. go e climb-cases, λ (h, n). ap (λ o. o.number) (climb-deep h n))
    where
      go : (climb_of ps v k).number ≡ 8 → ClimbCases → (v < length ps) × (up ps k v ≡ none)
      go e (inl h) = absurd (omega (arith, ap (λ o. o.number) (climb-unknown h)))
      go e (inr (inl h)) = h
      go e (inr (inr (u, r))) = absurd (omega (arith, ap (λ o. o.number) (climb-found u r)))

  pub climb-iff : (u : ℕ) → (climb_of ps v k ≡ accepted u) ↔ (up ps k v ≡ some u)
  climb-iff u = (λ e. go e climb-cases, climb-found u)
    where
      go : climb_of ps v k ≡ accepted u → ClimbCases → up ps k v ≡ some u
      go e (inl h) = absurd (omega (arith, ap (λ o. o.number) (sym e ∙ climb-unknown h)))
      go e (inr (inl (h, n))) = absurd (omega (arith, ap (λ o. o.number) (sym e ∙ climb-deep h n)))
      go e (inr (inr (w, r))) = r ∙ ap some (ap (λ o. o.word) (sym (climb-found w r) ∙ e))

  pub climb-never-broken : (climb_of ps v k).number ≡ 9 → ⊥
  climb-never-broken e = go climb-cases
    where
      go : ClimbCases → ⊥
      go (inl h) = omega (arith, ap (λ o. o.number) (climb-unknown h))
      go (inr (inl (h, n))) = omega (arith, ap (λ o. o.number) (climb-deep h n))
      go (inr (inr (u, r))) = omega (arith, ap (λ o. o.number) (climb-found u r))
