-- Bands written as a text: it states them, so that every accepted sheet has a sheet that is renumbered alike. Assumes nothing.
use mathlib.Core.Path.{◌≡◌, refl, sym, ap, ◌∙◌}
use mathlib.Core.List.{List, [], ◌∷◌, ◌++◌, map}
use mathlib.Core.Bool.{true}
use mathlib.Core.Option
use mathlib.Core.Option.{some, bind}
use Prim.Native.Nat.{ℕ, zero, suc, ◌+◌, ◌/◌, ◌%◌, ◌^◌, ◌≤◌, ◌<◌}
use native.Mathlib.Omega.{arith}
use lib.ListN.{length, length-append}
use borrow.Author.Tests.{le-leb}
use Rattle.base.specs.Lists.{every}
use Rattle.base.proofs.Lists.{All, all_append}
use Rattle.base.proofs.Filters.{every-both}
use Rattle.bands.specs.Bands.{Band, is_band}
use Rattle.bands.proofs.Tests.{band-says}
use Rattle.lines.specs.Text.{comma, line_feed}
use Rattle.lines.specs.Fields.{parted, is_digit, most_number, value, is_number, number}
use Rattle.lines.specs.Bands.{band_fields, band_line}
use Rattle.lines.proofs.Digits.{every_more, value-more}
use Rattle.lines.proofs.Parts.{Plain, parted-plain, parted-join, parted-some}
use Rattle.sheets.specs.Verdicts.{depths_of, Good}
use Rattle.sheets.proofs.Theorems.{covered-iff}
use Rattle.sheets.proofs.Readings.{whole-sound}
use Rattle.renumbering.specs.Numbering.{Renumbering}
use Rattle.renumbering.specs.Sheets.{stated_by, stated, renumbered, SameSheets}
use Rattle.renumbering.proofs.Sheets.{stated-line, good-states}

-- the last m digits of x
last_digits : ℕ → ℕ → List ℕ
last_digits zero x = []
last_digits (suc m) x = last_digits m (x / 10) ++ ((48 + x % 10) ∷ [])

digits-length : (m x : ℕ) → length (last_digits m x) ≡ m
unfolding last_digits
digits-length zero x = refl
digits-length (suc m) x = omega (arith, length-append (last_digits m (x / 10)) ((48 + x % 10) ∷ []), digits-length m (x / 10))

digits_value : (m x : ℕ) → x < 10 ^ m → value 0 (last_digits m x) ≡ x
unfolding last_digits value
digits_value zero x h = omega arith
digits_value (suc m) x h = value-more 0 (last_digits m (x / 10)) (48 + x % 10) ∙ omega (arith, digits_value m (x / 10) (omega arith))

digit-byte : (x : ℕ) → is_digit (48 + x % 10) ≡ true
digit-byte x = rw (le-leb 48 (48 + x % 10) (omega arith), le-leb (48 + x % 10) 57 (omega arith))

digits-all : (m x : ℕ) → every is_digit (last_digits m x) ≡ true
unfolding last_digits every
digits-all zero x = refl
digits-all (suc m) x = every_more is_digit (last_digits m (x / 10)) (48 + x % 10) (digits-all m (x / 10)) (digit-byte x)

-- they hold no byte below that of 0: no comma, no line feed
digits-plain : (sep : ℕ) → sep < 48 → (m x : ℕ) → Plain sep (last_digits m x)
unfolding last_digits
digits-plain sep h zero x = tt
digits-plain sep h (suc m) x = all_append (λ b. b ≡ sep → ⊥) (last_digits m (x / 10)) ((48 + x % 10) ∷ []) (digits-plain sep h m (x / 10)) (λ e. omega arith, tt)

-- a number in ten digits is read as itself
written : ℕ → List ℕ
written x = last_digits 10 x

written-number : (x : ℕ) → x ≤ most_number → number (written x) ≡ some x
unfolding written number is_number
written-number x h = rw (digits-length 10 x, digits-all 10 x, digits_value 10 x (omega arith), le-leb x most_number h)

written-plain : (sep : ℕ) → sep < 48 → (x : ℕ) → Plain sep (written x)
unfolding written
written-plain sep h x = digits-plain sep h 10 x

-- a band's line, of numbers of 32 bits
band_text : Band → List ℕ
band_text b = written b.class ++ (comma ∷ (written b.from ++ (comma ∷ (written b.to ++ (comma ∷ written b.rate)))))

record Writable (b : Band) : Type 0 where
  class : b.class ≤ most_number
  from : b.from ≤ most_number
  to : b.to ≤ most_number
  rate : b.rate ≤ most_number

band-fields : (b : Band) → parted comma (band_text b) ≡ written b.class ∷ written b.from ∷ written b.to ∷ written b.rate ∷ []
unfolding band_text
band-fields b =
    let plain : (x : ℕ) → Plain comma (written x) = written-plain comma (omega arith) in
    parted-join comma (written b.class) _ (plain b.class)
    ∙ ap (◌∷◌ (written b.class))
    (parted-join comma (written b.from) _ (plain b.from)
    ∙ ap (◌∷◌ (written b.from)) (parted-join comma (written b.to) (written b.rate) (plain b.to) ∙ ap (◌∷◌ (written b.to)) (parted-plain comma (written b.rate) (plain b.rate))))

band-line : (b : Band) → Writable b → band_line (band_text b) ≡ some b
unfolding band_line band_fields bind
band-line b w =
    rw (band-fields b, written-number b.class w.class, written-number b.from w.from, written-number b.to w.to, written-number b.rate w.rate)

band-plain : (b : Band) → Plain line_feed (band_text b)
unfolding band_text
band-plain b =
    let plain : (x : ℕ) → Plain line_feed (written x) = written-plain line_feed (omega arith) in
    join b.class _ (join b.from _ (join b.to _ (plain b.rate)))
  where
    join : (x : ℕ) (l : List ℕ) → Plain line_feed l → Plain line_feed (written x ++ (comma ∷ l))
    join x l h = all_append (λ c. c ≡ line_feed → ⊥) (written x) (comma ∷ l) (written-plain line_feed (omega arith) x) (λ e. omega arith, h)

-- the text of bands, a line each
sheet_text : List Band → List ℕ
sheet_text [] = []
sheet_text (b ∷ bs) = band_text b ++ (line_feed ∷ sheet_text bs)

sheet-stated : (bs : List Band) → All Writable bs → stated (sheet_text bs) ≡ some bs
unfolding sheet_text stated stated_by parted bind
sheet-stated [] h = refl
sheet-stated (b ∷ bs) h =
    let (f, fs, e) = parted-some line_feed (sheet_text bs) in
    ap stated_by (parted-join line_feed (band_text b) (sheet_text bs) (band-plain b) ∙ ap (◌∷◌ (band_text b)) e)
    ∙ stated-line (band_text b) f fs
    ∙ ap (λ o. bind o (λ c. Option.map (◌∷◌ c) (stated_by (f ∷ fs)))) (band-line b h.0)
    ∙ ap (Option.map (◌∷◌ b)) (ap stated_by (sym e) ∙ sheet-stated bs h.1)

-- the bands of a good sheet, with new numbers, can be written
module _ (r : ℕ → ℕ) (ps : List ℕ) (p : Renumbering (length ps) r) (few : length ps ≤ most_number) (d : ℕ) where
  bands-writable : (bs : List Band) → every (is_band (depths_of ps) d) bs ≡ true → All Writable (map (renumbered r) bs)
  bands-writable [] e = tt
  bands-writable (b ∷ bs) e =
      let (own, rest) = every-both (is_band (depths_of ps) d) b bs e in
      let s = band-says (depths_of ps) d b own in
      let (known, low) = (covered-iff ps d b.class).0 s.class in
      (record { class = omega (arith, p.within b.class known); from = omega (arith, s.ordered, s.within); to = omega (arith, s.within); rate = omega (arith, s.limit) }, bands-writable bs rest)

  pub every-sheet : (text : List ℕ) → Good (depths_of ps) d text → (other : List ℕ) × SameSheets r text other
  every-sheet text g = (
    sheet_text (map (renumbered r) g.bands),
    record {
      bands = g.bands;
      other-bands = map (renumbered r) g.bands;
      states = (good-states (depths_of ps) d text g).0;
      other-states = sheet-stated (map (renumbered r) g.bands) (bands-writable g.bands (whole-sound (depths_of ps) d text g.bands g.lines));
      alike = λ test. refl;
    },
  )
