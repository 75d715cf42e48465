-- From what turns a question away, and from what is found, to its promises. Assumes nothing.
use mathlib.Core.Path.{◌≡◌, refl, sym, ap, ◌∙◌}
use mathlib.Core.Logic.{◌⊎◌, inl, inr}
use mathlib.Core.List.{List}
use mathlib.Core.Bool.{Bool, true, false, cond}
use mathlib.Core.Option.{Option, Option-elim}
use Prim.Native.Nat.{ℕ, ◌*◌, ◌≤◌, ◌<◌}
use native.Mathlib.Omega.{arith}
use native.Mathlib.Decide.{ℕ_discrete, dec_le}
use lib.ListN.{length}
use lib.Dec.{eqb}
use borrow.Author.Tests.{eq-eqb, ne_eqb, le-leb, lt-leb}
use Rattle.base.specs.Lists.{some?}
use Rattle.base.specs.Numbers.{Outcome, accepted, unknown, broken}
use Rattle.base.specs.Refusals.{refused}
use Rattle.base.specs.declared.refusals.Refusal.{Refusal}
use Rattle.base.specs.declared.refusals.Refusal.TheVariants.{Count, ShortTable, ShortSpace, Stray, Tops, Loop, Unknown, TooDeep, Broken, NotAbove, BadRate, BadSum, BadLine, Gap, Overlap}
use Rattle.table.specs.Preparing.{Prepared}
use Rattle.climbs.proofs.TableWords.{small, tree}
use Rattle.query.specs.StepOne.{step_one}
use Rattle.query.proofs.StepOne.{step-prepared, step-numbers}
use Rattle.common_ancestors.specs.Common.{nearest_common_ancestor, distance, both_known, of_both}
use Rattle.common_ancestors.specs.Admission.{admission}
use Rattle.common_ancestors.specs.Promises.{numbers, OnAnyTable, Gives}
use Rattle.common_ancestors.specs.Parts.{bound, chosen, meaning, Answered, Of, Between}
use Rattle.common_ancestors.specs.declared.Sought.{Sought}
use Rattle.common_ancestors.specs.declared.Sought.TheVariants.{Class, Climbs}
use Rattle.common_ancestors.specs.declared.search.Shared.{Shared}
use Rattle.common_ancestors.proofs.Theorems.{nearest-iff, distance-depths}

-- the two entries of n, one by one
module _ (n u v : ℕ) (o : Outcome) where
  pub first-unknown : n ≤ u → both_known n u v o ≡ unknown u
  unfolding both_known
  first-unknown a = rw (le-leb n u a)

  pub second-unknown : u < n → n ≤ v → both_known n u v o ≡ unknown v
  unfolding both_known
  second-unknown a b = rw (lt-leb n u a, le-leb n v b)

  pub both-known : u < n → v < n → both_known n u v o ≡ o
  unfolding both_known
  both-known a b = rw (lt-leb n u a, lt-leb n v b)

  -- the refusal, whatever o is; or both are entries
  abbrev Cases : Type 0
  Cases = (((both_known n u v o).number ≡ 7) × ((other : Outcome) → both_known n u v o ≡ both_known n u v other)) ⊎ ((u < n) × (v < n) × (both_known n u v o ≡ o))

module _ (n u v : ℕ) (o : Outcome) where
  both-cases : Cases n u v o
  both-cases = go (dec_le n u) (dec_le n v)
    where
      go : Dec (n ≤ u) → Dec (n ≤ v) → Cases n u v o
      go (yes a) b = inl (ap (λ x. x.number) (first-unknown n u v o a), λ other. first-unknown n u v o a ∙ sym (first-unknown n u v other a))
      go (no a) (yes b) =
          let c : u < n = omega arith in
          inl (ap (λ x. x.number) (second-unknown n u v o c b), λ other. second-unknown n u v o c b ∙ sym (second-unknown n u v other c b))
      go (no a) (no b) = let c : u < n = omega arith in let d : v < n = omega arith in inr (c, d, both-known n u v o c d)

-- no refusal has the number 0
pub refusal-number : (e : Refusal) → (refused e).number ≡ 0 → ⊥
refusal-number Count z = omega arith
refusal-number ShortTable z = omega arith
refusal-number ShortSpace z = omega arith
refusal-number (Stray v) z = omega arith
refusal-number (Tops v) z = omega arith
refusal-number (Loop v) z = omega arith
refusal-number (Unknown v) z = omega arith
refusal-number (TooDeep v) z = omega arith
refusal-number Broken z = omega arith
refusal-number (NotAbove v) z = omega arith
refusal-number BadRate z = omega arith
refusal-number BadSum z = omega arith
refusal-number (BadLine v) z = omega arith
refusal-number (Gap v a) z = omega arith
refusal-number (Overlap v a) z = omega arith

-- from step 1 to the refusal
module _ (t : List ℕ) (u v : ℕ) (o : Outcome) (step : o ≡ step_one t) where
  pub admission-broken : (o.number ≡ 0 → ⊥) → o ≡ admission t u v
  unfolding admission
  admission-broken n = step ∙ sym (rw (ne_eqb (step_one t).number 0 (rw step at n)))

  pub admission-known : o.number ≡ 0 → both_known o.word u v o ≡ admission t u v
  unfolding admission
  admission-known z = rw step (sym (rw (eq-eqb (step_one t).number 0 (rw step at z))))

-- o is what turns the question away, or 0 with the number of entries
module _ (t : List ℕ) (u v : ℕ) (o : Outcome) (e : o ≡ admission t u v) where
  prepared : (ps : List ℕ) → Prepared ps t → o ≡ both_known (length ps) u v (accepted (length ps))
  unfolding admission
  prepared ps p = e ∙ rw (step-prepared ps t p)

  module _ (n : o.number ≡ 0 → ⊥) where
    pub refused-enters : (most : ℕ → ℕ) → OnAnyTable most t u v o
    refused-enters most = record { refused = λ m. e; settled = λ z. absurd (n (ap (λ x. x.number) e ∙ z)) }

    refused-both : (ps : List ℕ) → Prepared ps t → (found : Option ℕ) → o ≡ of_both ps u v found
    unfolding of_both
    refused-both ps p found = go (both-cases (length ps) u v (accepted (length ps)))
      where
        go : Cases (length ps) u v (accepted (length ps)) → o ≡ both_known (length ps) u v (Option-elim found broken accepted)
        go (inl (q, same)) = prepared ps p ∙ same _
        go (inr (a, b, q)) = absurd (n (ap (λ x. x.number) (prepared ps p ∙ q)))

    pub refused-right : (s : Sought) (ps : List ℕ) → Prepared ps t → o ≡ meaning s ps u v
    refused-right Class ps p = refused-both ps p (nearest_common_ancestor ps u v)
    refused-right Climbs ps p = refused-both ps p (distance ps u v)

    pub refused-known : (ps : List ℕ) → Prepared ps t → u < length ps → v < length ps → ⊥
    refused-known ps p a b = n (ap (λ x. x.number) (prepared ps p ∙ both-known (length ps) u v (accepted (length ps)) a b))

  module _ (z : o.number ≡ 0) where
    pub passed-enters : (most : ℕ → ℕ) (r : Outcome) → ((r.number ≡ 0) × (r.word < most o.word)) ⊎ (r ≡ broken) → OnAnyTable most t u v r
    passed-enters most r s = record { refused = λ m. absurd (m (sym (ap (λ x. x.number) e) ∙ z)); settled = λ q. rw (ap (λ x. x.word) e) at s }

    -- the number of entries is the list's, and both are entries of it
    pub table_of : (ps : List ℕ) → Prepared ps t → Of ps t o.word × (u < length ps) × (v < length ps)
    table_of ps p = go (both-cases (length ps) u v (accepted (length ps)))
      where
        go : Cases (length ps) u v (accepted (length ps)) → Of ps t o.word × (u < length ps) × (v < length ps)
        go (inl (q, same)) = absurd (omega (arith, z, ap (λ x. x.number) (prepared ps p), q))
        go (inr (a, b, q)) = (record { prepared = p; count = ap (λ x. x.word) (prepared ps p ∙ q) }, a, b)

-- the number of an answer is 0, 7 or 9
abbrev Numbered : Outcome → Type 0
Numbered o = Gives numbers o

settled-numbers : (r : Outcome) (m : ℕ) → ((r.number ≡ 0) × (r.word < m)) ⊎ (r ≡ broken) → Numbered r
unfolding some?
settled-numbers r m (inl (q, h)) = rw q
settled-numbers r m (inr q) = rw q

admission-numbers : (t : List ℕ) (u v : ℕ) → Numbered (admission t u v)
unfolding admission some?
admission-numbers t u v = go (eqb (step_one t).number 0) (both-cases (step_one t).word u v (step_one t))
  where
    number : ℕ
    number = (step_one t).number

    more : (a b c : Bool) → cond a true (cond c true false) ≡ true → cond a true (cond b true (cond c true false)) ≡ true
    more true b c e = refl
    more false true c e = refl
    more false false c e = e

    go : (b : Bool) → Cases (step_one t).word u v (step_one t) → Numbered (cond b (both_known (step_one t).word u v (step_one t)) (step_one t))
    go true (inl (q, same)) = rw q
    go true (inr (a, b, q)) = rw q (more (eqb number 0) (eqb number 7) (eqb number 9) (step-numbers t))
    go false c = more (eqb number 0) (eqb number 7) (eqb number 9) (step-numbers t)

pub enters-numbers : (most : ℕ → ℕ) (t : List ℕ) (u v : ℕ) (o : Outcome) → OnAnyTable most t u v o → Numbered o
enters-numbers most t u v o h = go (ℕ_discrete (admission t u v).number 0)
  where
    go : Dec ((admission t u v).number ≡ 0) → Numbered o
    go (yes z) = settled-numbers o _ (h.settled z)
    go (no n) = rw (h.refused n) (admission-numbers t u v)

-- what is found is what the question means
module _ (ps t : List ℕ) (p : Prepared ps t) (u v : ℕ) (hu : u < length ps) (hv : v < length ps) where
  pub answered-right : (s : Sought) (o : Outcome) → Answered s ps u v o → o ≡ meaning s ps u v
  unfolding of_both Option-elim
  answered-right Class o s =
      ap (λ x. record { number = x; word = o.word }) s.found
      ∙ sym (rw ((nearest-iff ps (small ps t p) (tree ps t p) u v o.word hu hv).1 s.nearest) (both-known (length ps) u v (accepted o.word) hu hv))
  answered-right Climbs o s =
      ap (λ x. record { number = x; word = o.word }) s.found
      ∙ ap accepted s.climbs
      ∙ sym (rw (distance-depths ps (small ps t p) (tree ps t p) u v s.class hu hv s.nearest).2 (both-known (length ps) u v (accepted _) hu hv))

-- and which of the two it is
pub chosen-bound : (s : Sought) (n class climbs : ℕ) → class < n → climbs < 2 * n → chosen s class climbs < bound s n
chosen-bound Class n class climbs a b = a
chosen-bound Climbs n class climbs a b = b

pub chosen-answered : (s : Sought) (ps : List ℕ) (u v : ℕ) (r : Shared) → Between ps u v r → Answered s ps u v (accepted (chosen s r.class.0 r.climbs))
chosen-answered Class ps u v r m = record { found = refl; nearest = m.nearest }
chosen-answered Climbs ps u v r m = record { found = refl; class = r.class.0; nearest = m.nearest; climbs = m.climbs }
