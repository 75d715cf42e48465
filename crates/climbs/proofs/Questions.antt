-- On a prepared table each question answers what it means: the climb from parent to parent. Assumes nothing.
use mathlib.Core.Path.{◌≡◌, sym, ap, subst⁻¹, ◌∙◌}
use mathlib.Core.Logic.{◌↔◌}
use mathlib.Core.List.{List}
use mathlib.Core.Bool.{Bool, true, false, cond}
use mathlib.Core.Option.{Option, none, Option-elim}
use Prim.Native.Nat.{ℕ, suc, ◌+◌, ◌-◌, ◌≤◌, ◌<◌, min}
use native.Mathlib.Omega.{arith}
use native.Mathlib.Decide.{ℕ_discrete, dec_le, dec_lt}
use lib.ListN.{length}
use lib.Dec.{leb}
use borrow.Author.Tests.{le-leb, lt-leb}
use Rattle.base.specs.Numbers.{Outcome, accepted, unknown, too_deep, not_above}
use Rattle.base.specs.Lists.{first, has}
use Rattle.base.specs.Limits.{header_of, entries_of, table_words, depth_cell, pre_cell, size_cell}
use Rattle.base.proofs.Filters.{times-has, has-not}
use Rattle.tree.specs.Parents.{up, climb, depth, children}
use Rattle.tree.specs.Forest.{size, position}
use Rattle.tree.specs.Level.{Ancestor, level_ancestor}
use Rattle.tree.specs.Questions.{known, class_of, rating_of, climb_of, ancestry_of, branch_of}
use Rattle.tree.proofs.Depths.{up-some, up_none, level_in, level-deep, level-defined}
use Rattle.tree.proofs.Meanings.{class-unknown, rating-unknown, rating-of-smaller}
use Rattle.tree.proofs.Intervals.{depth-less, interval}
use Rattle.tree.proofs.Ancestry.{on-climb, towards, towards_none, strictly-deeper}
use Rattle.table.specs.Preparing.{Prepared}
use Rattle.table.proofs.Acceptance.{header-inverse}
use Rattle.answers.specs.Reading.{Reading, done, read, if_le, if_lt, if_eq, word_at, run}
use Rattle.answers.specs.Answers.{answer_to, outcome}
use Rattle.answers.specs.Promises.{depth_word}
use Rattle.answers.specs.Steps.{after_count, opened, ancestor_at, wanted, after_depth, from_entry, level, climbing, rating, compared, related, ancestry, inside, deeper, strictly, branch}
use Rattle.answers.proofs.Runs.{run-done, run-read, run-le, run-not-le, run-lt, run-not-lt, run-eq, run-not-eq, run-then}
use Rattle.answers.proofs.Ratings.{rating-smaller}
use Rattle.climbs.proofs.TableWords.{many, few, tree, small, count_word, depth-word, pre-word, size_word}
use Rattle.climbs.proofs.Levels.{ancestor-at-run}

module _ (ps t : List ℕ) (p : Prepared ps t) where
  -- step 1: a prepared table is not broken
  pub opened-run : (o : Outcome) (next : ℕ → Reading) → run t (next (length ps)) ≡ o → run t (opened (length t) next) ≡ o
  unfolding opened after_count
  opened-run o next h =
      let n = length ps in
      let room = p.long in
      run-not-lt t o (length t) 4 _ _ (omega arith)
      (run-read t o 0 (header_of n) _ (count_word ps t p)
      (subst⁻¹ (λ m. run t (after_count (length t) m next) ≡ o) (header-inverse n)
      (run-not-eq t o n 0 _ _ (λ z. omega (arith, many ps t p))
      (run-not-lt t o 1048576 n _ _ (few ps t p)
      (run-not-lt t o (length t) (table_words n) _ _ room h)))))

  -- 7 where v is no entry
  pub known-run : (v : ℕ) (o : Outcome) (next : Reading) → (v < length ps → run t next ≡ o) → run t (if_le (length ps) v (done (unknown v)) next) ≡ known ps v o
  known-run v o next h = go (dec_le (length ps) v)
    where
      go : Dec (length ps ≤ v) → run t (if_le (length ps) v (done (unknown v)) next) ≡ cond (leb (length ps) v) (unknown v) o
      go (yes b) = rw (le-leb (length ps) v b) (run-le t (unknown v) (length ps) v _ _ b (run-done t (unknown v)))
      go (no b) = let c : v < length ps = omega arith in rw (lt-leb (length ps) v c) (run-not-le t o (length ps) v _ _ c (h c))

  -- steps 1 and 2: v's depth, and then the way down to `wanted`, where x is at most the depth
  module _ (v x : ℕ) (climbs : Bool) (found : Option ℕ) where
    entered-run : (v < length ps → depth ps v < x → found ≡ none)
        → (v < length ps → x ≤ depth ps v → (wanted climbs x (depth ps v) ≤ depth ps v) × (up ps (depth ps v - wanted climbs x (depth ps v)) v ≡ found))
        → run t (opened (length t) (from_entry climbs v x)) ≡ known ps v (Option-elim found (too_deep v) accepted)
    unfolding from_entry after_depth Option-elim
    entered-run past reach =
        opened-run _ (from_entry climbs v x)
        (known-run v (Option-elim found (too_deep v) accepted) _ (λ h. run-read t _ (depth_cell (length ps) v) (depth ps v) _ (depth-word ps t p v h)
        (run-not-le t _ (length ps) (depth ps v) _ _ (depth-less ps (small ps t p) (tree ps t p) v h) (go h (dec_le x (depth ps v))))))
      where
        go : v < length ps → Dec (x ≤ depth ps v) → run t (if_lt (depth ps v) x (done (too_deep v)) (ancestor_at (length ps) v (wanted climbs x (depth ps v)) (depth ps v))) ≡ Option-elim found (too_deep v) accepted
        go h (yes b) =
            let (w, q) = reach h b in
            let (u, s) = up-some ps (small ps t p) (tree ps t p) (depth ps v - wanted climbs x (depth ps v)) v h (omega arith) in
            run-not-lt t _ (depth ps v) x _ _ b (ancestor-at-run ps t p v (wanted climbs x (depth ps v)) u h w s ∙ ap (λ o. Option-elim o (too_deep v) accepted) (sym s ∙ q))
        go h (no b) = rw (past h (omega arith)) (run-lt t (too_deep v) (depth ps v) x _ _ (omega arith) (run-done t (too_deep v)))

  -- level: the level ancestor
  pub level-right : (v d : ℕ) → run t (level (length t) v d) ≡ class_of ps v d
  unfolding level class_of
  level-right v d =
      entered-run v d false (level_ancestor ps v d)
      (λ h b. level-deep ps (small ps t p) (tree ps t p) v d b)
      (λ h b. (b, sym (level_in ps (small ps t p) (tree ps t p) v d b)))

  -- the word that `Smaller` speaks of is the entry's depth
  pub depth-stated : (v : ℕ) → v < length ps → depth_word t v ≡ depth ps v
  depth-stated v h = ap (λ n. word_at t (depth_cell n v)) (ap entries_of (count_word ps t p) ∙ header-inverse (length ps)) ∙ depth-word ps t p v h

  -- rating: the level lookup at the smaller of d and that depth
  pub rating-right : (v d : ℕ) → run t (rating (length t) v d) ≡ rating_of ps v d
  unfolding answer_to
  rating-right v d = ap outcome (rating-smaller t (length t) v d) ∙ level-right v (min d (depth_word t v)) ∙ go (dec_lt v (length ps))
    where
      go : Dec (v < length ps) → class_of ps v (min d (depth_word t v)) ≡ rating_of ps v d
      go (yes h) = ap (λ x. class_of ps v (min d x)) (depth-stated v h) ∙ sym (rating-of-smaller ps (small ps t p) (tree ps t p) v d)
      go (no h) = class-unknown ps (small ps t p) (tree ps t p) v _ (omega arith) ∙ sym (rating-unknown ps (small ps t p) (tree ps t p) v d (omega arith))

  -- climb: so many parents up
  pub climb-right : (v k : ℕ) → run t (climbing (length t) v k) ≡ climb_of ps v k
  unfolding climbing climb_of
  climb-right v k =
      entered-run v k true (up ps k v)
      (λ h b. up_none ps (small ps t p) (tree ps t p) k v b)
      (λ h b. let z : depth ps v - (depth ps v - k) ≡ k = omega arith in (omega arith, ap (λ j. up ps j v) z))

  -- the reads of ancestry tell whether u is an ancestor of v
  module _ (u v : ℕ) (o : Outcome) (above : ℕ → Reading) (apart : Reading) (hu : u < length ps) (hv : v < length ps) where
    compared-run : (Ancestor ps u v → run t (above (length ps)) ≡ o) → ((Ancestor ps u v → ⊥) → run t apart ≡ o)
        → run t (compared (above (length ps)) apart (position ps u) (size ps u) (position ps v)) ≡ o
    unfolding compared
    compared-run is not = go (dec_le (position ps u) (position ps v)) (dec_lt (position ps v) (position ps u + size ps u))
      where
        iff : Ancestor ps u v ↔ ((position ps u ≤ position ps v) × (position ps v < position ps u + size ps u))
        iff = interval ps (small ps t p) (tree ps t p) u v hu hv

        go : Dec (position ps u ≤ position ps v) → Dec (position ps v < position ps u + size ps u)
            → run t (if_le (position ps u) (position ps v) (if_lt (position ps v) (position ps u + size ps u) (above (length ps)) apart) apart) ≡ o
        go (yes a) (yes b) = run-le t o _ _ _ _ a (run-lt t o _ _ _ _ b (is (iff.1 (a, b))))
        go (yes a) (no b) = run-le t o _ _ _ _ a (run-not-lt t o _ _ _ _ (omega arith) (not (λ x. b (iff.0 x).1)))
        go (no a) b = run-not-le t o _ _ _ _ (omega arith) (not (λ x. a (iff.0 x).0))

  related-run : (u v : ℕ) (o : Outcome) (above : ℕ → Reading) (apart : Reading)
      → (u < length ps → v < length ps → Ancestor ps u v → run t (above (length ps)) ≡ o)
      → (u < length ps → v < length ps → (Ancestor ps u v → ⊥) → run t apart ≡ o)
      → run t (opened (length t) (related u v above apart)) ≡ known ps u (known ps v o)
  unfolding related
  related-run u v o above apart is not =
      opened-run _ (related u v above apart)
      (known-run u (known ps v o) _ (λ hu.
      known-run v o _ (λ hv.
      run-read t o (pre_cell (length ps) u) (position ps u) _ (pre-word ps t p u hu)
      (run-read t o (size_cell (length ps) u) (size ps u) _ (size_word ps t p u hu)
      (run-read t o (pre_cell (length ps) v) (position ps v) _ (pre-word ps t p v hv)
      (compared-run u v o above apart hu hv (is hu hv) (not hu hv)))))))

  -- ancestry: whether u is on v's climb
  pub ancestry-right : (u v : ℕ) → run t (ancestry (length t) u v) ≡ ancestry_of ps u v
  unfolding ancestry ancestry_of
  ancestry-right u v =
      related-run u v (accepted (cond (has (climb ps v) u) 1 0)) (λ n. done (accepted 1)) (done (accepted 0))
      (λ hu hv a. rw ((on-climb ps (small ps t p) (tree ps t p) u v hv).1 a) (run-done t (accepted 1)))
      (λ hu hv n. rw (has-not (climb ps v) u (λ k. n ((on-climb ps (small ps t p) (tree ps t p) u v hv).0 (times-has (climb ps v) u k)))) (run-done t (accepted 0)))

  -- branch: the child of u on the way to v
  module _ (u v : ℕ) (hu : u < length ps) (hv : v < length ps) where
    abbrev child : Outcome
    child = Option-elim (first (has (climb ps v)) (children ps u)) (not_above u) accepted

    none-run : (Ancestor ps u v → u ≡ v) → run t (done (not_above u)) ≡ child
    unfolding Option-elim
    none-run only = rw (towards_none ps (small ps t p) (tree ps t p) u v hu hv only) (run-done t (not_above u))

    deeper-run : Ancestor ps u v → (u ≡ v → ⊥) → run t (deeper (length t) v (length ps) (depth ps u)) ≡ child
    unfolding deeper class_of inside Option-elim
    deeper-run a other =
        let z = strictly-deeper ps (small ps t p) (tree ps t p) u v a other in
        let (c, e) = level-defined ps (small ps t p) (tree ps t p) v (depth ps u + 1) hv (omega arith) in
        let y : depth ps u + 1 ≡ suc (depth ps u) = omega arith in
        let found : run t (level (length t) v (depth ps u + 1)) ≡ accepted c = level-right v (depth ps u + 1) ∙ rw (lt-leb (length ps) v hv, e) in
        rw (towards ps (small ps t p) (tree ps t p) u v c a (ap (level_ancestor ps v) (sym y) ∙ e))
        (run-not-le t (accepted c) (length ps) (depth ps u) _ _ (depth-less ps (small ps t p) (tree ps t p) u hu)
        (run-then t (level (length t) v (depth ps u + 1)) inside ∙ ap (λ o. run t (inside o)) found ∙ run-not-eq t (accepted c) 0 8 _ _ (λ q. omega arith) (run-done t (accepted c))))

    strictly-run : Ancestor ps u v → run t (strictly (length t) u v (length ps)) ≡ child
    unfolding strictly
    strictly-run a = go (ℕ_discrete u v)
      where
        go : Dec (u ≡ v) → run t (if_eq u v (done (not_above u)) (read (depth_cell (length ps) u) (deeper (length t) v (length ps)))) ≡ child
        go (yes z) = run-eq t _ u v _ _ z (none-run (λ b. z))
        go (no z) = run-not-eq t _ u v _ _ z (run-read t _ (depth_cell (length ps) u) (depth ps u) _ (depth-word ps t p u hu) (deeper-run a z))

  pub branch-right : (u v : ℕ) → run t (branch (length t) u v) ≡ branch_of ps u v
  unfolding branch branch_of
  branch-right u v =
      related-run u v _ (strictly (length t) u v) (done (not_above u))
      (λ hu hv a. strictly-run u v hu hv a)
      (λ hu hv n. none-run u v hu hv (λ a. absurd (n a)))
