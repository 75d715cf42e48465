-- The search for the lowest class at fault, in increasing number. Assumes nothing.
use mathlib.Core.Path.{◌≡◌, refl, ◌∙◌}
use mathlib.Core.List.{List}
use mathlib.Core.Bool.{Bool, true, false, not, cond, ◌&&◌, and-false}
use mathlib.Core.Option.{Option, none, some, map}
use Prim.Native.Nat.{ℕ, ◌+◌, ◌≤◌, ◌<◌}
use native.Mathlib.Omega.{arith}
use native.Mathlib.Decide.{ℕ_discrete, dec_lt}
use lib.ListN.{length, get_or}
use lib.Dec.{eqb}
use borrow.Author.Tests.{not-true}
use Rattle.base.specs.Numbers.{gap, overlap}
use Rattle.bands.specs.Bands.{Band, is_covered, is_class, covers, lowest_faulty, Fault, fault_at, class_fault, is_some, sheet_fault}
use Rattle.bands.proofs.Tests.{and_first, and_second, class-is}
use Rattle.bands.proofs.Theorems.{at_fault, fault-is, faultless}
use Rattle.sheets.specs.Keys.{key_class, key_bands}
use Rattle.sheets.specs.Parts.{Says, Swept, NoClass, none_of_four}

-- the number of an answer tells whether the class has a fault
module _ (bs : List Band) (c number amount : ℕ) (s : Says (class_fault bs c) number c amount) where
  pub fault-none : number ≡ 0 → is_some (class_fault bs c) ≡ false
  unfolding class_fault fault_at Says
  fault-none z = go (lowest_faulty bs c) s
    where
      low : (b : Bool) → 14 ≤ (cond b (gap c) (overlap c)).number
      low true = omega arith
      low false = omega arith

      go : (o : Option ℕ) → Says (map (fault_at bs c) o) number c amount → is_some (map (fault_at bs c) o) ≡ false
      go none t = refl
      go (some a) t = absurd (omega (arith, t.0, low (eqb (covers bs c a) 0)))

  pub fault-some : (number ≡ 0 → ⊥) → is_some (class_fault bs c) ≡ true
  unfolding Says
  fault-some z = go (class_fault bs c) s
    where
      go : (o : Option Fault) → Says o number c amount → is_some o ≡ true
      go none t = absurd (z t)
      go (some f) t = refl

module _ (words keys depths : List ℕ) (d : ℕ) where
  abbrev bs : List Band
  bs = key_bands words keys

  -- no class below c is at fault, and before the place stand only bands of these
  pub record Checking (c place : ℕ) : Type 0 where
    pub within : c ≤ length depths
    pub places : place ≤ length keys
    pub passed : (i : ℕ) → i < place → key_class (get_or keys i 0) < c
    pub fine : (v : ℕ) → v < c → at_fault depths d bs v ≡ false

  pub check-start : Checking 0 0
  check-start = record { within = omega arith; places = omega arith; passed = λ i k. absurd (omega arith); fine = λ v k. absurd (omega arith) }

  fine_more : (c : ℕ) → at_fault depths d bs c ≡ false → ((v : ℕ) → v < c → at_fault depths d bs v ≡ false) → (v : ℕ) → v < c + 1 → at_fault depths d bs v ≡ false
  fine_more c e f v k = go (ℕ_discrete v c)
    where
      go : Dec (v ≡ c) → at_fault depths d bs v ≡ false
      go (yes q) = rw q e
      go (no q) = f v (omega arith)

  -- entries that are no classes are passed over
  pub check-pass : (c place r : ℕ) → NoClass depths d c r → Checking c place → Checking r place
  check-pass c place r n s = record { within = n.within; places = s.places; passed = λ i k. omega (arith, s.passed i k, n.behind); fine = λ v k. go v k (dec_lt v c) }
    where
      go : (v : ℕ) → v < r → Dec (v < c) → at_fault depths d bs v ≡ false
      go v k (yes b) = s.fine v b
      go v k (no b) = rw (n.others v (omega arith) k)

  module _ (c place : ℕ) (h : c < length depths) (s : Checking c place) (number amount at : ℕ) (r : Swept words keys c number amount at) where
    pub check-more : number ≡ 0 → Checking (c + 1) at
    check-more z = record {
      within = omega arith;
      places = r.places;
      passed = λ i k. omega (arith, r.passed i k);
      fine = fine_more c (rw (fault-none bs c number amount r.says z) (and-false (is_class depths d c))) s.fine;
    }

    pub check-found : is_class depths d c ≡ true → (number ≡ 0 → ⊥) → Says (sheet_fault depths d bs) number c amount
    check-found e z = rw (fault-is depths d bs c h (rw (e, fault-some bs c number amount r.says z)) s.fine) r.says

  pub check-end : (c place number amount : ℕ) → length depths ≤ c → Checking c place → Says (sheet_fault depths d bs) 0 number amount
  unfolding Says
  check-end c place number amount h s = rw (faultless depths d bs (λ v k. s.fine v (omega arith))) refl

-- one entry more that is no class
module _ (depths : List ℕ) (d from i : ℕ) (s : NoClass depths d from i) where
  pub pass-one : i < length depths → is_covered d (get_or depths i 0) ≡ false → NoClass depths d from (i + 1)
  pass-one h e = record { behind = omega (arith, s.behind); within = omega arith; others = λ c a b. go c a b (ℕ_discrete c i) }
    where
      go : (c : ℕ) → from ≤ c → c < i + 1 → Dec (c ≡ i) → is_class depths d c ≡ false
      go c a b (yes q) = rw q (class-is depths d i h ∙ e)
      go c a b (no q) = s.others c a (omega arith)

-- four entries more, at places that follow each other, and eight
module _ (depths : List ℕ) (d from : ℕ) where
  abbrev other : ℕ → Bool
  other c = not (is_covered d (get_or depths c 0))

  passed : (c next : ℕ) → next ≡ c + 1 → c < length depths → other c ≡ true → NoClass depths d from c → NoClass depths d from next
  passed c next e h o s = rw e (pass-one depths d from c s h (not-true (is_covered d (get_or depths c 0)) o))

  abbrev four : ℕ → ℕ → ℕ → ℕ → Bool
  four i j k l = none_of_four d (get_or depths i 0) (get_or depths j 0) (get_or depths k 0) (get_or depths l 0)

  pass-four : (i j k l end : ℕ) → j ≡ i + 1 → k ≡ i + 2 → l ≡ i + 3 → end ≡ i + 4 → end ≤ length depths → four i j k l ≡ true → NoClass depths d from i → NoClass depths d from end
  pass-four i j k l end e f g m h all s =
      let three = and_first ((other i && other j) && other k) _ all in
      let two = and_first (other i && other j) _ three in
      passed l end (omega arith) (omega arith) (and_second ((other i && other j) && other k) _ all)
      (passed k l (omega arith) (omega arith) (and_second (other i && other j) _ three)
      (passed j k (omega arith) (omega arith) (and_second (other i) _ two)
      (passed i j e (omega arith) (and_first (other i) _ two) s)))

  pub pass-eight : (i : ℕ) → i + 8 ≤ length depths → four i (i + 1) (i + 2) (i + 3) ≡ true → four (i + 4) (i + 5) (i + 6) (i + 7) ≡ true → NoClass depths d from i → NoClass depths d from (i + 8)
  pass-eight i h low high s =
      pass-four (i + 4) (i + 5) (i + 6) (i + 7) (i + 8) (omega arith) (omega arith) (omega arith) (omega arith) h high
      (pass-four i (i + 1) (i + 2) (i + 3) (i + 4) refl refl refl refl (omega arith) low s)
