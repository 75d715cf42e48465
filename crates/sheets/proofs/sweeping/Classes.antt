-- The sweep of one class, over keys and words. Assumes nothing.
use mathlib.Core.Path.{◌≡◌, refl, sym, ◌∙◌}
use mathlib.Core.List.{List}
use Prim.Native.Nat.{ℕ, ◌+◌, ◌≤◌, ◌<◌}
use native.Mathlib.Omega.{arith}
use native.Mathlib.Decide.{ℕ_discrete, dec_le}
use lib.ListN.{length, get_or}
use Rattle.base.specs.Amounts.{most_sum}
use Rattle.bands.specs.Bands.{Band, holds, covers}
use Rattle.sorting.specs.Orders.{Ascending}
use Rattle.sheets.specs.Keys.{key_class, key_from, key_line, word_to, band_at, key_bands, Legal}
use Rattle.std.specs.Prelude.{Result, Ok, Err}
use Rattle.base.specs.declared.Node.{Node}
use Rattle.base.specs.declared.refusals.Refusal.{Refusal}
use Rattle.base.specs.declared.refusals.Refusal.TheVariants.{Gap}
use Rattle.sheets.specs.Parts.{Says, Swept, SweptTo}
use Rattle.base.proofs.Counting.{count_map, count-sum}
use Rattle.sheets.proofs.sweeping.Fills.{hit, over, Filled, filled_none, filled-other, filled_more, rest_over, twice-over}
use Rattle.bands.proofs.Faults.{gap_is, overlap-is, fine-is}

pub class-order : (p q : ℕ) → p ≤ q → key_class p ≤ key_class q
class-order p q h = omega arith

pub from-order : (p q : ℕ) → p ≤ q → key_class p ≡ key_class q → key_from p ≤ key_from q
from-order p q h e = omega arith

module _ (words keys : List ℕ) where
  abbrev pub cls : ℕ → ℕ
  cls i = key_class (get_or keys i 0)

  abbrev pub frm : ℕ → ℕ
  frm i = key_from (get_or keys i 0)

  abbrev pub upto : ℕ → ℕ
  upto i = word_to (get_or words (key_line (get_or keys i 0)) 0)

  abbrev bs : List Band
  bs = key_bands words keys

  pub covers-over : (c a : ℕ) → covers bs c a ≡ over cls frm upto c a (length keys)
  unfolding covers key_bands band_at holds hit
  covers-over c a = count_map (holds c a) (band_at words) keys ∙ count-sum (λ k. holds c a (band_at words k)) keys

  -- at a place of the keys, with the amounts below `next` in one band each
  pub record Sweeping (c place next : ℕ) : Type 0 where
    pub filled : Filled cls frm upto c place next
    pub places : place ≤ length keys
    pub passed : (i : ℕ) → i < place → cls i ≤ c

  pub sweep-start : (c place : ℕ) → place ≤ length keys → ((i : ℕ) → i < place → cls i < c) → Sweeping c place 0
  sweep-start c place h g = record { filled = filled_none cls frm upto c place g; places = h; passed = λ i k. omega (arith, g i k) }

  pass-more : (c place : ℕ) → cls place ≤ c → ((i : ℕ) → i < place → cls i ≤ c) → (i : ℕ) → i < place + 1 → cls i ≤ c
  pass-more c place h g i k = go (ℕ_discrete i place)
    where
      go : Dec (i ≡ place) → cls i ≤ c
      go (yes e) = rw e h
      go (no e) = g i (omega arith)

  pub sweep-other : (c place next : ℕ) → place < length keys → cls place < c → Sweeping c place next → Sweeping c (place + 1) next
  sweep-other c place next h o s = record {
    filled = filled-other cls frm upto c place next (λ e. omega arith) s.filled;
    places = omega arith;
    passed = pass-more c place (omega arith) s.passed;
  }

  module _ (legal : Legal words keys) where
    pub sweep-more : (c place next : ℕ) → place < length keys → cls place ≡ c → frm place ≡ next → Sweeping c place next → Sweeping c (place + 1) (upto place + 1)
    sweep-more c place next h e f s = record {
      filled = filled_more cls frm upto c place next e f (omega (arith, legal.ordered place h)) s.filled;
      places = omega arith;
      passed = pass-more c place (omega arith) s.passed;
    }

    module _ (asc : Ascending keys) (c place next : ℕ) (s : Sweeping c place next) where
      -- what lies below y is held by no band from the place on
      settled : (y : ℕ) → ((k : ℕ) → place ≤ k → k < length keys → cls k ≡ c → y ≤ frm k) → (a : ℕ) → a < y → covers bs c a ≡ over cls frm upto c a place
      settled y later a b = covers-over c a ∙ rest_over cls frm upto c place (length keys) y s.places later a b

      later : cls place ≡ c → (k : ℕ) → place ≤ k → k < length keys → cls k ≡ c → frm place ≤ frm k
      later e k p q d = from-order (get_or keys place 0) (get_or keys k 0) (asc place k p q) (e ∙ sym d)

      pub sweep-gap : place < length keys → cls place ≡ c → next < frm place → Swept words keys c 14 next place
      unfolding Says
      sweep-gap h e f = record {
        says =
            rw (gap_is bs c next (omega (arith, legal.ordered place h, legal.within place h))
            (settled (frm place) (later e) next f ∙ s.filled.free next (omega arith))
            (λ a b. settled (frm place) (later e) a (omega arith) ∙ s.filled.once a b))
            (refl, refl, refl);
        places = s.places;
        passed = s.passed;
      }

      pub sweep-overlap : place < length keys → cls place ≡ c → frm place < next → Swept words keys c 15 (frm place) place
      unfolding Says
      sweep-overlap h e f = record {
        says =
            rw (overlap-is bs c (frm place) (omega (arith, legal.ordered place h, legal.within place h))
            (rw (covers-over c (frm place)) (twice-over cls frm upto c place (length keys) next h e f (legal.ordered place h) s.filled))
            (λ a b. settled (frm place) (later e) a b ∙ s.filled.once a (omega arith)))
            (refl, refl, refl);
        places = s.places;
        passed = s.passed;
      }

      pub sweep-end : ((k : ℕ) → place ≤ k → k < length keys → c < cls k) → (class : Node) → class.0 ≡ c → (r : Result ℕ Refusal)
          → (most_sum < next → r ≡ Ok place) → (next ≤ most_sum → r ≡ Err (Gap class next)) → SweptTo words keys c r
      unfolding Says
      sweep-end past class e r full short = go (dec_le next most_sum)
        where
          held : (a : ℕ) → covers bs c a ≡ over cls frm upto c a place
          held a = settled (a + 1) (λ k p q e. absurd (omega (arith, past k p q))) a (omega arith)

          go : Dec (next ≤ most_sum) → SweptTo words keys c r
          go (yes d) = rw (short d) (
            place,
            e,
            record {
              says = rw (gap_is bs c next d (held next ∙ s.filled.free next (omega arith)) (λ a b. held a ∙ s.filled.once a b)) (refl, refl, refl);
              places = s.places;
              passed = s.passed;
            },
          )
          go (no d) =
              rw (full (omega arith))
              (record { says = rw (fine-is bs c (λ a b. held a ∙ s.filled.once a (omega arith))) refl; places = s.places; passed = s.passed })
