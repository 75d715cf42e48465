-- The check by name: its numbers, when a sheet is accepted, and the check on a prepared table. Assumes nothing.
use mathlib.Core.Path.{◌≡◌, refl, sym, ap, ◌∙◌}
use mathlib.Core.Logic.{◌↔◌}
use mathlib.Core.List.{List, [], ◌∷◌}
use mathlib.Core.Bool.{true}
use mathlib.Core.Option.{Option, none, some, Option-elim}
use Prim.Native.Nat.{ℕ, ◌+◌, ◌≤◌, ◌<◌}
use native.Mathlib.Omega.{arith}
use native.Mathlib.Decide.{ℕ_discrete}
use lib.ListN.{length, get_or}
use lib.Seq.{ext_get_or}
use Rattle.base.specs.Lists.{below, view, has, some?}
use Rattle.base.specs.Numbers.{accepted}
use Rattle.base.specs.Limits.{top_mark}
use Rattle.base.proofs.Lists.{clash, below_at, each-length}
use Rattle.base.proofs.Counts.{times}
use Rattle.base.proofs.Filters.{has-times, times-has, keep-most}
use Rattle.base.proofs.Views.{view-length, view-at}
use Rattle.tree.specs.Parents.{depth}
use Rattle.tree.specs.Level.{RatingClass}
use Rattle.tree.specs.Faults.{Tree}
use Rattle.tree.proofs.Depths.{root-depth}
use Rattle.tree.proofs.Meanings.{rating-depth, own-class}
use Rattle.table.specs.Preparing.{Prepared}
use Rattle.climbs.proofs.TableWords.{small, tree, depth-word}
use Rattle.query.specs.StepOne.{step_one}
use Rattle.query.proofs.StepOne.{step-prepared, step-numbers}
use Rattle.bands.specs.Bands.{Fault, is_class, holds, covers, sheet_fault}
use Rattle.bands.proofs.Tests.{covered-depth, class-says, class-is}
use Rattle.bands.proofs.Theorems.{accepted-iff, fault-numbered}
use Rattle.sheets.specs.Texts.{Sheet, bad, whole, sheet_of}
use Rattle.sheets.specs.Verdicts.{Verdict, naming, judged, verdict, depths_of, depths_in, check_to, Good}
use Rattle.sheets.specs.Promises.{Gives, Right, Accepts}
use Rattle.sheets.proofs.Checks.{check-opened, check-refused}

-- "the check gives 0 if and only if no line is bad and each class has each amount in one band only"
module _ (depths : List ℕ) (d : ℕ) (text : List ℕ) where
  fault-refuses : (o : Option Fault) (a : Verdict) → ((f : Fault) → o ≡ some f → has (14 ∷ 15 ∷ []) f.outcome.number ≡ true)
      → (Option-elim o a (λ f. naming f.outcome f.amount)).number ≡ 0 → o ≡ none
  unfolding Option-elim some?
  fault-refuses none a h e = refl
  fault-refuses (some f) a h e = clash (sym (ap (has (14 ∷ 15 ∷ [])) e) ∙ h f refl)

  good_of : (s : Sheet) → sheet_of depths d text ≡ s → (judged depths d s).number ≡ 0 → Good depths d text
  unfolding judged
  good_of (bad k) e z = absurd (omega (arith, z))
  good_of (whole bs) e z = record { bands = bs; lines = e; once = (accepted-iff depths d bs).0 (fault-refuses (sheet_fault depths d bs) _ (fault-numbered depths d bs) z) }

  pub good-verdict : (g : Good depths d text) → verdict depths d text ≡ naming (accepted (length g.bands)) 0
  unfolding verdict judged Option-elim
  good-verdict g = rw (g.lines, (accepted-iff depths d g.bands).1 g.once)

  pub accepted-good : (verdict depths d text).number ≡ 0 ↔ Good depths d text
  unfolding verdict
  accepted-good = (good_of (sheet_of depths d text) refl, λ g. ap (λ v. v.number) (good-verdict g))

  -- 13, 14, 15 and acceptance
  verdict-numbers : (s : Sheet) → has (0 ∷ 9 ∷ 13 ∷ 14 ∷ 15 ∷ []) (judged depths d s).number ≡ true
  unfolding judged Option-elim some? times
  verdict-numbers (bad k) = refl
  verdict-numbers (whole bs) = go (sheet_fault depths d bs) (fault-numbered depths d bs)
    where
      go : (o : Option Fault) → ((f : Fault) → o ≡ some f → has (14 ∷ 15 ∷ []) f.outcome.number ≡ true)
          → has (0 ∷ 9 ∷ 13 ∷ 14 ∷ 15 ∷ []) (Option-elim o (naming (accepted (length bs)) 0) (λ f. naming f.outcome f.amount)).number ≡ true
      go none h = refl
      go (some f) h = times-has (0 ∷ 9 ∷ 13 ∷ 14 ∷ 15 ∷ []) f.outcome.number (omega (arith, has-times (14 ∷ 15 ∷ []) f.outcome.number (h f refl)))

pub check-numbers : (t : List ℕ) (d : ℕ) (text : List ℕ) → Gives (0 ∷ 9 ∷ 13 ∷ 14 ∷ 15 ∷ []) (check_to t d text)
unfolding times verdict
check-numbers t d text = go (ℕ_discrete (step_one t).number 0)
  where
    go : Dec ((step_one t).number ≡ 0) → Gives (0 ∷ 9 ∷ 13 ∷ 14 ∷ 15 ∷ []) (check_to t d text)
    go (yes e) = rw (check-opened t d text e) (verdict-numbers (depths_in t) d text (sheet_of (depths_in t) d text))
    go (no n) = rw (check-refused t d text n) (times-has (0 ∷ 9 ∷ 13 ∷ 14 ∷ 15 ∷ []) (step_one t).number (omega (arith, has-times (0 ∷ 9 ∷ []) (step_one t).number (step-numbers t))))

-- "A sheet of level d must then cover each entry of depth d or less as a class of its own"
module _ (ps : List ℕ) (d u : ℕ) where
  size : length (depths_of ps) ≡ length ps
  unfolding depths_of
  size = each-length (length ps) 0 (depth ps)

  stated : u < length ps → get_or (depths_of ps) u 0 ≡ depth ps u
  unfolding depths_of
  stated h = below_at (length ps) (depth ps) 0 u h

  pub covered-iff : (is_class (depths_of ps) d u ≡ true) ↔ ((u < length ps) × (depth ps u ≤ d))
  covered-iff = (
    λ e.
        let (h, covered) = class-says (depths_of ps) d u e in
        let entry : u < length ps = omega (arith, size) in
        (entry, omega (arith, stated entry, (covered-depth d (get_or (depths_of ps) u 0)).0 covered)),
    λ (h, low). class-is (depths_of ps) d u (omega (arith, size)) ∙ (covered-depth d (get_or (depths_of ps) u 0)).1 (omega (arith, stated h)),
  )

  -- and these are the entries that are their own class
  pub covered-own : length ps ≤ top_mark → Tree ps → (is_class (depths_of ps) d u ≡ true) ↔ RatingClass ps u d u
  covered-own few tree = (
    λ e. let (h, low) = covered-iff.0 e in own-class ps few tree u d h low,
    λ c. covered-iff.1 (rating-depth ps few tree u d u c),
  )

-- on a prepared table depths are the climb's
module _ (ps t : List ℕ) (p : Prepared ps t) where
  pub depths-right : depths_in t ≡ depths_of ps
  unfolding depths_in depths_of
  depths-right =
      ap (λ n. view 4 n t) (ap (λ o. o.word) (step-prepared ps t p))
      ∙ ext_get_or 0 (view 4 (length ps) t) (below (length ps) (depth ps)) (size ∙ sym (each-length (length ps) 0 (depth ps)))
      (λ i h. let k : i < length ps = omega (arith, size) in sym (view-at 4 (length ps) t i (4 + i) k refl) ∙ depth-word ps t p i k ∙ sym (below_at (length ps) (depth ps) 0 i k))
    where
      size : length (view 4 (length ps) t) ≡ length ps
      size = view-length 4 (length ps) t (omega (arith, p.long))

  pub check-right : (d : ℕ) (text : List ℕ) → check_to t d text ≡ verdict (depths_of ps) d text
  check-right d text = check-opened t d text (ap (λ o. o.number) (step-prepared ps t p)) ∙ ap (λ l. verdict l d text) depths-right

  -- a sheet is accepted just where it is good for the list
  pub checked-good : (d : ℕ) (text : List ℕ) → (check_to t d text).number ≡ 0 ↔ Good (depths_of ps) d text
  checked-good d text = rw (check-right d text) (accepted-good (depths_of ps) d text)

  -- the top is a class of every level, so an accepted sheet has a line
  pub top-class : (d : ℕ) → is_class (depths_of ps) d (tree ps t p).root ≡ true
  top-class d = let (h, e) = root-depth ps (small ps t p) (tree ps t p) in (covered-iff ps d (tree ps t p).root).1 (h, omega (arith, e))

  pub accepted-lines : (d : ℕ) (text : List ℕ) → (check_to t d text).number ≡ 0 → 1 ≤ (check_to t d text).word
  unfolding covers
  accepted-lines d text z =
      let g = (checked-good d text).0 z in
      let top = (tree ps t p).root in
      let once = g.once.once top (top-class d) 0 (omega arith) in
      let lines = ap (λ v. v.word) (check-right d text ∙ good-verdict (depths_of ps) d text g) in
      omega (arith, once, lines, keep-most (holds top 0) g.bands)

-- the promises of a verdict that is the check's
module _ (t : List ℕ) (d : ℕ) (text : List ℕ) (r : Verdict) (is : r ≡ check_to t d text) where
  pub promised : (r ≡ check_to t d text) × (Gives (0 ∷ 9 ∷ 13 ∷ 14 ∷ 15 ∷ []) r × (Right d text t r × Accepts d text t r))
  promised = (
    is,
    (
      rw is (check-numbers t d text),
      (
        (λ ps p. is ∙ check-right ps t p d text),
        (λ ps p. rw is (checked-good ps t p d text)),
      ),
    ),
  )
