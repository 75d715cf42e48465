-- What the parts of the check and of a quotation hand on. Assumes nothing.
use Rattle.std.specs.Prelude.{◌≡◌, List, Bool, true, false, not, cond, ◌&&◌, ℕ, ◌≤◌, ◌<◌, length, get_or, eqb, leb, Option, Some, None, Result, Ok, Err, IfOk, IfErr}
use Rattle.std.proofs.Math.Option.{none, some}
use Rattle.std.proofs.Math.Option as math
use Rattle.base.specs.Amounts.{most_rate}
use Rattle.bands.specs.Bands.{Band, is_covered, is_class, Fault, class_fault}
use Rattle.sheets.specs.Texts.{Sheet, bands_in}
use Rattle.sheets.specs.Verdicts.{judged, told}
use Rattle.sheets.specs.Checked.{Checked}
use Rattle.sheets.specs.Keys.{key_class, key_from, word_to, word_rate, key_bands}
use Rattle.sheets.specs.declared.finding.Range.{Range}
use Rattle.base.specs.declared.refusals.Refusal.{Refusal}
use Rattle.base.specs.Refusals.{refused, amount_of}

-- three numbers say which fault, if any
unfoldable pub Says : math.Option Fault → ℕ → ℕ → ℕ → Type 0
Says none number class amount = number ≡ 0
Says (some f) number class amount = (number ≡ f.outcome.number) × (class ≡ f.outcome.word) × (amount ≡ f.amount)

-- and so does an answer: a refusal, or none
abbrev pub Tells : {A : Type 0} → math.Option Fault → Result A Refusal → Type 0
Tells o (Ok found) = Says o 0 0 0
Tells o (Err refusal) = Says o (refused refusal).number (refused refusal).word (amount_of refusal)

-- what a sweep of class c leaves: the class's fault, and a place with no band of a later class before it
pub record Swept (words keys : List ℕ) (c number amount place : ℕ) : Type 0 where
  pub says : Says (class_fault (key_bands words keys) c) number c amount
  pub places : place ≤ length keys
  pub passed : (i : ℕ) → i < place → key_class (get_or keys i 0) ≤ c

-- the same of its answer: the place, or the fault, which is of c
abbrev pub SweptTo : List ℕ → List ℕ → ℕ → Result ℕ Refusal → Type 0
SweptTo words keys c (Ok place) = Swept words keys c 0 0 place
SweptTo words keys c (Err refusal) = (place : ℕ) × ((refused refusal).word ≡ c) × Swept words keys c (refused refusal).number (amount_of refusal) place

-- no entry from a place up to another is a class of level d
pub record NoClass (depths : List ℕ) (d from place : ℕ) : Type 0 where
  pub behind : from ≤ place
  pub within : place ≤ length depths
  pub others : (c : ℕ) → from ≤ c → c < place → is_class depths d c ≡ false

-- none of four entries, of these depths, is a class of level d
abbrev pub none_of_four : ℕ → ℕ → ℕ → ℕ → ℕ → Bool
none_of_four d a b c e = ((not (is_covered d a) && not (is_covered d b)) && not (is_covered d c)) && not (is_covered d e)

-- the first entry from a place on that is, or the number of entries
pub record NextClass (depths : List ℕ) (d from place : ℕ) : Type 0 where
  pub none_before : NoClass depths d from place
  pub there : place < length depths → is_class depths d place ≡ true

-- the verdict on a sheet was given: an accepted one stands in the new words, and a refusal left the old ones
pub record Judged (depths : List ℕ) (d : ℕ) (s : Sheet) (r : Result ℕ Refusal) (old new : List ℕ) : Type 0 where
  pub is : told r ≡ judged depths d s
  pub kept : IfErr r (λ e. new ≡ old)
  pub checked : IfOk r (λ m. Checked new d (bands_in s))

-- the top bit of a word of 64 bits, which each key is below
abbrev pub top_bit : ℕ
top_bit = 9223372036854775808

abbrev pub Low : List ℕ → Type 0
Low l = (i : ℕ) → i < length l → get_or l i 0 < top_bit

-- the first r are below x, and the others are not
pub record Parted (l : List ℕ) (x r : ℕ) : Type 0 where
  pub below : (i : ℕ) → i < r → get_or l i 0 < x
  pub above : (i : ℕ) → r ≤ i → i < length l → x ≤ get_or l i 0

-- the band of a key and its line's word, where it is of a class and reaches an amount
unfoldable pub range_at : ℕ → ℕ → ℕ → ℕ → math.Option Band
range_at key word c a =
    cond (eqb (key_class key) c && (leb a (word_to word) && leb (word_rate word) most_rate))
    (some (record { class = c; from = key_from key; to = word_to word; rate = word_rate word }))
    none

-- the band of a class that was found, if one was
abbrev pub found_band : ℕ → Option Range → math.Option Band
found_band class (Some r) = some (record { class = class; from = r.from; to = r.to; rate = r.rate })
found_band class None = none

-- and its rate is within its limit
abbrev pub Within : ℕ → Option Range → Type 0
Within most (Some r) = r.rate ≤ most
Within most None = Unit
