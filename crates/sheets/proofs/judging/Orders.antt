-- A sheet's keys in another order. Assumes nothing.
use mathlib.Core.Path.{◌≡◌, refl, sym, ap, ◌∙◌}
use mathlib.Core.List.{List}
use mathlib.Core.Bool.{Bool, true, false, not}
use Prim.Native.Nat.{ℕ, ◌<◌}
use native.Mathlib.Omega.{arith}
use lib.ListN.{length, get_or}
use lib.Dec.{leb, ltb}
use borrow.Author.Tests.{ltb-true, leb-true, lt-ltb, le-leb}
use Rattle.base.specs.Limits.{most_entries}
use Rattle.base.specs.Amounts.{most_sum, most_rate}
use Rattle.base.proofs.Counts.{one}
use Rattle.base.proofs.Counting.{count, count_map, count-sum, sum-none}
use Rattle.base.proofs.Singles.{count_at}
use Rattle.sorting.specs.Orders.{Shuffled}
use Rattle.bands.specs.Bands.{SameBands}
use Rattle.sheets.specs.Keys.{key_class, key_from, key_line, word_to, word_rate, band_at, key_bands, Legal}

-- it has the same bands
pub same-bands : (words old new : List ℕ) → Shuffled old new → SameBands (key_bands words old) (key_bands words new)
unfolding key_bands
same-bands words old new s test = count_map test (band_at words) new ∙ s (λ k. test (band_at words k)) ∙ sym (count_map test (band_at words) old)

-- what each of the keys passes, each passes in another order
module _ (good : ℕ → Bool) (old new : List ℕ) (s : Shuffled old new) (all : (i : ℕ) → i < length old → good (get_or old i 0) ≡ true) where
  none-fails : count (λ k. not (good k)) old ≡ 0
  none-fails = count-sum (λ k. not (good k)) old ∙ sum-none (length old) _ (λ j b. ap (λ t. one (not t)) (all j b))

  shuffled-all : (i : ℕ) → i < length new → good (get_or new i 0) ≡ true
  shuffled-all i h = go (good (get_or new i 0)) refl
    where
      go : (t : Bool) → good (get_or new i 0) ≡ t → t ≡ true
      go true e = refl
      go false e = absurd (omega (arith, s (λ k. not (good k)), none-fails, count_at (λ k. not (good k)) new i 0 h (ap not e)))

pub legal-shuffled : (words old new : List ℕ) → Shuffled old new → Legal words old → Legal words new
legal-shuffled words old new s l = record {
  known = λ i h. ltb-true _ _ (shuffled-all (λ k. ltb (key_class k) most_entries) old new s (λ j b. lt-ltb _ _ (l.known j b)) i h);
  lined = λ i h. ltb-true _ _ (shuffled-all (λ k. ltb (key_line k) (length words)) old new s (λ j b. lt-ltb _ _ (l.lined j b)) i h);
  ordered = λ i h. leb-true _ _ (shuffled-all (λ k. leb (key_from k) (word_to (get_or words (key_line k) 0))) old new s (λ j b. le-leb _ _ (l.ordered j b)) i h);
  within = λ i h. leb-true _ _ (shuffled-all (λ k. leb (word_to (get_or words (key_line k) 0)) most_sum) old new s (λ j b. le-leb _ _ (l.within j b)) i h);
  limit = λ i h. leb-true _ _ (shuffled-all (λ k. leb (word_rate (get_or words (key_line k) 0)) most_rate) old new s (λ j b. le-leb _ _ (l.limit j b)) i h);
}
