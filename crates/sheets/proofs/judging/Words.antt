-- The words of an accepted sheet. Assumes nothing.
use mathlib.Core.Path.{◌≡◌, ap, ◌∙◌}
use mathlib.Core.List.{List, [], ◌∷◌, ◌++◌, append-nil}
use Prim.Native.Nat.{ℕ, ◌+◌, ◌*◌, ◌%◌, ◌≤◌, min}
use native.Mathlib.Omega.{arith}
use native.Mathlib.Nat.{min-eq_left}
use borrow.Rule.Slice.PartMut.{put_mid}
use lib.ListN.{length, take, drop, set, length-append, length-drop, drop_of_length-le}
use lib.Seq.{take_at, take_all, drop_at, take-append-le}
use Rattle.base.specs.Lists.{view}
use Rattle.base.specs.Amounts.{most_lines, most_sum}
use Rattle.sorting.specs.Orders.{Ascending}
use Rattle.bands.specs.Bands.{Band, covers, SameBands}
use Rattle.sheets.specs.Keys.{key_bands, Legal}
use Rattle.sheets.specs.Checked.{level_in, lines_in, keys_in, words_in, Checked}

-- two parts of m words behind a first one
module _ (m head : ℕ) (keys words sheet : List ℕ) (long : length sheet ≡ 1 + m + m) (k : length keys ≡ m) (w : length words ≡ m) where
  abbrev laid : List ℕ
  laid = set (put_mid (1 + m) m (put_mid 1 m sheet keys) words) 0 head

  pub laid-words : laid ≡ head ∷ (keys ++ words)
  laid-words = go sheet long
    where
      go : (l : List ℕ) → length l ≡ 1 + m + m → set (put_mid (1 + m) m (put_mid 1 m l keys) words) 0 head ≡ head ∷ (keys ++ words)
      go [] e = absurd (omega arith)
      go (x ∷ l) e =
          ap (λ p. set (p ++ (words ++ drop m (drop (1 + m) ((x ∷ keys) ++ drop m l)))) 0 head) (take_at (x ∷ keys) (drop m l) (1 + m) (omega arith))
          ∙ ap (λ p. head ∷ (keys ++ (words ++ drop m p))) (drop_at (x ∷ keys) (drop m l) (1 + m) (omega arith))
          ∙ ap (λ p. head ∷ (keys ++ (words ++ p))) (drop_of_length-le (drop m l) {i = m} (omega (arith, length-drop m l)))
          ∙ ap (λ p. head ∷ (keys ++ p)) (append-nil words)

  pub laid-length : length laid ≡ length sheet
  laid-length = ap length laid-words ∙ omega (arith, length-append keys words)

module _ (d m : ℕ) (keys words : List ℕ) (few : m ≤ most_lines) (long : length keys ≡ most_lines) (wide : length words ≡ most_lines) where
  abbrev head : ℕ
  head = d * 4294967296 + m

  abbrev sheet : List ℕ
  sheet = head ∷ (keys ++ words)

  level-is : level_in sheet ≡ d
  level-is = omega arith

  lines_are : lines_in sheet ≡ m
  lines_are = let e : head % 4294967296 ≡ m = omega arith in ap (λ n. min n most_lines) e ∙ min-eq_left few

  keys-are : keys_in sheet ≡ take m keys
  unfolding view keys_in
  keys-are = ap (λ n. take n (keys ++ words)) lines_are ∙ take-append-le m keys words (omega arith)

  words_are : words_in sheet ≡ words
  unfolding view words_in
  words_are = ap (take most_lines) (drop_at (head ∷ keys) words (1 + most_lines) (omega arith)) ∙ take_all most_lines words (omega arith)

  -- they are those of a checked sheet
  pub checked-words : (bs : List Band) → Legal words (take m keys) → Ascending (take m keys) → SameBands bs (key_bands words (take m keys))
      → ((c a : ℕ) → a ≤ most_sum → covers bs c a ≤ 1) → Checked sheet d bs
  checked-words bs legal asc same single = record {
    level = level-is;
    legal = rw (words_are, keys-are) legal;
    ascending = rw keys-are asc;
    bands = rw (words_are, keys-are) same;
    single = single;
  }
