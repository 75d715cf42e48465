-- The band that halving finds, where no amount of its class is in two bands. Assumes nothing.
use mathlib.Core.Path.{◌≡◌, sym, ap, ◌∙◌}
use mathlib.Core.List.{List, map}
use mathlib.Core.Bool.{and-false}
use mathlib.Core.Option.{none, some}
use Prim.Native.Nat.{ℕ, ◌+◌, ◌*◌, ◌-◌, ◌≤◌, ◌<◌}
use native.Mathlib.Omega.{arith}
use native.Mathlib.Decide.{ℕ_discrete, dec_lt, dec_le}
use lib.ListN.{length, get_or, get_or-map, length-map}
use lib.Dec.{eqb, leb}
use borrow.Author.Tests.{eq-eqb, ne_eqb, le-leb, lt-leb}
use Rattle.base.specs.Limits.{most_entries}
use Rattle.base.specs.Amounts.{most_sum, most_rate}
use Rattle.base.proofs.Counting.{sum-none, sum-part, sum_more}
use Rattle.base.proofs.Singles.{first-at, sum-two}
use Rattle.sorting.specs.Orders.{Ascending}
use Rattle.bands.specs.Bands.{Band, holds, covers, band_of}
use Rattle.bands.proofs.Tests.{says_holds}
use Rattle.bands.proofs.Theorems.{no-band}
use Rattle.sheets.specs.Keys.{key_class, key_from, key_line, word_to, word_rate, band_at, key_bands, Legal}
use Rattle.sheets.specs.Checked.{Single}
use Rattle.sheets.specs.Parts.{Low, Parted, range_at}
use Rattle.sheets.proofs.sweeping.Fills.{hit, hit-in, hit-says}
use Rattle.sheets.proofs.sweeping.Classes.{cls, frm, upto, covers-over, class-order, from-order}

-- the keys below a class's amount are those of lower classes, and of the class those that begin there or before
abbrev pub past : ℕ → ℕ → ℕ
past c a = c * 8796093022208 + a * 4096 + 4096

past-class : (k c a : ℕ) → a ≤ most_sum → k < past c a → key_class k ≤ c
past-class k c a h b = omega arith

past-from : (k c a : ℕ) → a ≤ most_sum → k < past c a → key_class k ≡ c → key_from k ≤ a
past-from k c a h b e = omega arith

from_past : (k c a : ℕ) → key_class k ≡ c → key_from k ≤ a → k < past c a
from_past k c a e h = omega arith

pub low-keys : (words keys : List ℕ) → Legal words keys → Low keys
low-keys words keys l i h = omega (arith, l.known i h)

-- what a key and a word give
module _ (key word c a : ℕ) where
  pub range_other : (key_class key ≡ c → ⊥) → none ≡ range_at key word c a
  unfolding range_at
  range_other e = rw (ne_eqb (key_class key) c e)

  pub range-short : word_to word < a → none ≡ range_at key word c a
  unfolding range_at
  range-short h = rw (lt-leb a (word_to word) h, and-false (eqb (key_class key) c))

  pub range-over : most_rate < word_rate word → none ≡ range_at key word c a
  unfolding range_at
  range-over h = rw (lt-leb (word_rate word) most_rate h, and-false (leb a (word_to word)), and-false (eqb (key_class key) c))

  pub range-is : key_class key ≡ c → a ≤ word_to word → word_rate word ≤ most_rate → some (record { class = c; from = key_from key; to = word_to word; rate = word_rate word }) ≡ range_at key word c a
  unfolding range_at
  range-is e h l = rw (eq-eqb (key_class key) c e, le-leb a (word_to word) h, le-leb (word_rate word) most_rate l)

  -- with its parts as they were read
  pub range-as : (f t r : ℕ) → f ≡ key_from key → t ≡ word_to word → r ≡ word_rate word → key_class key ≡ c → a ≤ t → r ≤ most_rate → some (record { class = c; from = f; to = t; rate = r }) ≡ range_at key word c a
  range-as f t r x y z e h l =
      ap (λ v. some (record { class = c; from = v; to = t; rate = r })) x
      ∙ ap (λ v. some (record { class = c; from = key_from key; to = v; rate = r })) y
      ∙ ap (λ v. some (record { class = c; from = key_from key; to = word_to word; rate = v })) z
      ∙ range-is e (omega arith) (omega arith)

module _ (words keys : List ℕ) (legal : Legal words keys) (c a : ℕ) where
  abbrev bs : List Band
  bs = key_bands words keys

  abbrev hits : ℕ → ℕ → ℕ
  hits y i = hit (cls words keys i) (frm words keys i) (upto words keys i) c y

  -- no key holds the amount
  uncovered : ((i : ℕ) → i < length keys → 1 ≤ hits a i → ⊥) → covers bs c a ≡ 0
  uncovered h = covers-over words keys c a ∙ sum-none (length keys) (hits a) (λ i b. go i b (dec_lt 0 (hits a i)))
    where
      go : (i : ℕ) → i < length keys → Dec (0 < hits a i) → hits a i ≡ 0
      go i b (yes k) = absurd (h i b k)
      go i b (no k) = omega arith

  unheld : ((i : ℕ) → i < length keys → 1 ≤ hits a i → ⊥) → none ≡ band_of bs c a
  unheld h = sym (no-band bs c a (uncovered h))

  abbrev says : (i : ℕ) → 1 ≤ hits a i → (cls words keys i ≡ c) × (frm words keys i ≤ a) × (a ≤ upto words keys i)
  says i h = hit-says (cls words keys i) (frm words keys i) (upto words keys i) c a h

  pub past-classes : most_entries ≤ c → none ≡ band_of bs c a
  past-classes h = unheld (λ i b k. omega (arith, (says i k).0, legal.known i b))

  pub past-covers : most_sum < a → covers bs c a ≡ 0
  past-covers h = uncovered (λ i b k. omega (arith, (says i k).2, legal.within i b))

  pub past-amounts : most_sum < a → none ≡ band_of bs c a
  past-amounts h = sym (no-band bs c a (past-covers h))

  module _ (asc : Ascending keys) (single : Single bs c) (most : a ≤ most_sum) (r : ℕ) (within : r ≤ length keys) (p : Parted keys (past c a) r) where
    -- a key that holds the amount is among those below
    among : (i : ℕ) → i < length keys → 1 ≤ hits a i → i < r
    among i b h = go (dec_lt i r)
      where
        go : Dec (i < r) → i < r
        go (yes q) = q
        go (no q) = let (e, f, g) = says i h in absurd (omega (arith, p.above i (omega arith) b, from_past (get_or keys i 0) c a e f))

    pub none_below : r ≡ 0 → none ≡ band_of bs c a
    none_below z = unheld (λ i b h. omega (arith, among i b h))

    module _ (some_below : 1 ≤ r) where
      abbrev j : ℕ
      j = r - 1

      abbrev key : ℕ
      key = get_or keys j 0

      abbrev word : ℕ
      word = get_or words (key_line key) 0

      in-keys : j < length keys
      in-keys = omega arith

      -- it is the last of them
      last : (i : ℕ) → i < length keys → 1 ≤ hits a i → i ≡ j
      last i b h = go (ℕ_discrete i j) (says i h)
        where
          go : Dec (i ≡ j) → (cls words keys i ≡ c) × (frm words keys i ≤ a) × (a ≤ upto words keys i) → i ≡ j
          go (yes d) s = d
          go (no d) (e, f, g) =
              let before : i < j = omega (arith, among i b h) in
              let low = p.below j (omega arith) in
              let own : cls words keys j ≡ c = omega (arith, past-class key c a most low, class-order (get_or keys i 0) key (asc i j (omega arith) in-keys)) in
              let y = frm words keys j in
              let start : y ≤ a = past-from key c a most low own in
              let other : frm words keys i ≤ y = from-order (get_or keys i 0) key (asc i j (omega arith) in-keys) (e ∙ sym own) in
              absurd (omega (
                arith,
                single y (omega arith),
                covers-over words keys c y,
                sum-two (length keys) i j (hits y) before in-keys
                    (omega (arith, hit-in (cls words keys i) (frm words keys i) (upto words keys i) c y e other (omega arith)))
                    (omega (arith, hit-in (cls words keys j) (frm words keys j) (upto words keys j) c y own (omega arith) (legal.ordered j in-keys))),
              ))

      held : key_class key ≡ c → a ≤ word_to word → band_of bs c a ≡ some (band_at words key)
      unfolding band_of key_bands covers band_at
      held e t =
          let start : key_from key ≤ a = past-from key c a most (p.below j (omega arith)) e in
          let at : get_or (map (band_at words) keys) j (band_at words 0) ≡ band_at words key = get_or-map (band_at words) keys j 0 in
          let mine : 1 ≤ hits a j = omega (arith, hit-in (cls words keys j) (frm words keys j) (upto words keys j) c a e start t) in
          let full : covers bs c a ≡ 1 = omega (arith, single a most, covers-over words keys c a, sum-part (length keys) (j + 1) (hits a) (omega (arith, in-keys)), sum_more j (hits a)) in
          first-at (holds c a) (map (band_at words) keys) j (band_at words 0) full (omega (arith, in-keys, length-map keys (band_at words))) (ap (holds c a) at ∙ says_holds c a (band_at words key) e start t)
          ∙ ap some at

      pub found-is : range_at key word c a ≡ band_of bs c a
      unfolding band_at
      found-is = go (ℕ_discrete (key_class key) c) (dec_le a (word_to word))
        where
          go : Dec (key_class key ≡ c) → Dec (a ≤ word_to word) → range_at key word c a ≡ band_of bs c a
          go (no e) t = sym (range_other key word c a e) ∙ unheld (λ i b h. e (ap (λ n. key_class (get_or keys n 0)) (sym (last i b h)) ∙ (says i h).0))
          go (yes e) (no t) =
              sym (range-short key word c a (omega arith))
              ∙ unheld (λ i b h. t (let q : upto words keys j ≡ upto words keys i = ap (upto words keys) (sym (last i b h)) in omega (arith, (says i h).2)))
          go (yes e) (yes t) = sym (range-is key word c a e t (legal.limit j in-keys)) ∙ ap (λ v. some (record { class = v; from = key_from key; to = word_to word; rate = word_rate word })) (sym e) ∙ sym (held e t)
