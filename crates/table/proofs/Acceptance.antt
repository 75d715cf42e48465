-- Which lists preparing accepts. Assumes nothing.
use mathlib.Core.Path.{◌≡◌}
use mathlib.Core.Logic.{◌↔◌}
use mathlib.Core.List.{List}
use mathlib.Core.Bool.{cond, ◌||◌}
use mathlib.Core.Option.{none, some, some-ne-none, Option-elim, or_else}
use Prim.Native.Nat.{ℕ, ◌≤◌, ◌<◌}
use native.Mathlib.Omega.{arith}
use native.Mathlib.Decide.{ℕ_discrete, dec_le}
use lib.ListN.{length}
use lib.Dec.{eqb, ltb}
use borrow.Author.Tests.{eq-eqb, ne_eqb, lt-ltb, le-ltb}
use Rattle.base.specs.Numbers.{count, accepted}
use Rattle.base.specs.Limits.{most_entries, table_words, space_words, header_of, entries_of}
use Rattle.tree.specs.Faults.{Tree}
use Rattle.tree.proofs.Theorems.{passes-iff-tree}
use Rattle.table.specs.Preparing.{count_fault, table_fault, space_fault, call_fault, refusal, preparing, Accepted}

-- cell 0 tells the number of entries
pub header-inverse : (n : ℕ) → entries_of (header_of n) ≡ n
header-inverse n = omega arith

-- 1: the number of entries is from 1 to 1,048,576
pub count-iff : (n : ℕ) → (count_fault n ≡ none) ↔ ((1 ≤ n) × (n ≤ most_entries))
unfolding count_fault
count-iff n = (λ e. fits (ℕ_discrete n 0) (dec_le n most_entries) e, λ h. rw (ne_eqb n 0 (λ q. omega arith), le-ltb most_entries n h.1))
  where
    fits : Dec (n ≡ 0) → Dec (n ≤ most_entries) → cond (eqb n 0 || ltb most_entries n) (some count) none ≡ none → (1 ≤ n) × (n ≤ most_entries)
    fits (yes z) b e = absurd (some-ne-none count (rw (eq-eqb n 0 z) at e))
    fits (no z) (yes b) e = (omega arith, b)
    fits (no z) (no b) e = absurd (some-ne-none count (rw (ne_eqb n 0 z, lt-ltb most_entries n (omega arith)) at e))

-- a list is accepted just where it has from 1 to 1,048,576 entries and forms one tree
pub accepted-iff : (ps : List ℕ) → Accepted ps ↔ ((1 ≤ length ps) × (length ps ≤ most_entries) × Tree ps)
accepted-iff ps = (
  λ a. let r = (count-iff (length ps)).0 a.counted in (r.0, r.1, (passes-iff-tree ps (omega arith)).0 a.sound),
  λ h. record { counted = (count-iff (length ps)).1 (h.0, h.1); sound = (passes-iff-tree ps (omega (arith, h.1))).1 h.2 },
)

-- such a list is accepted by every table and space that are long enough: the answer is 0 and names W
pub accepts : (ps : List ℕ) (t s : ℕ) → Accepted ps → table_words (length ps) ≤ t → space_words (length ps) ≤ s → preparing ps t s ≡ accepted (table_words (length ps))
unfolding preparing refusal call_fault table_fault space_fault or_else Option-elim
accepts ps t s a ht hs = rw (a.counted, le-ltb t (table_words (length ps)) ht, le-ltb s (space_words (length ps)) hs, a.sound)

-- one entry over the most is turned away with 1, and so is a list of none
pub too_many : (ps : List ℕ) (t s : ℕ) → most_entries < length ps → preparing ps t s ≡ count
unfolding preparing refusal call_fault count_fault or_else Option-elim
too_many ps t s h = rw (ne_eqb (length ps) 0 (λ q. omega arith), lt-ltb most_entries (length ps) h)
