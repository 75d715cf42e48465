-- A field read as a number, digit by digit. Assumes nothing.
use mathlib.Core.Path.{◌≡◌, refl, sym, ap, ◌∙◌}
use mathlib.Core.Logic.{◌⊎◌, inl, inr}
use mathlib.Core.List.{List, [], ◌∷◌, ◌++◌}
use mathlib.Core.Bool.{Bool, true, false, cond, ◌&&◌}
use mathlib.Core.Option.{none, some, none-ne-some}
use Prim.Native.Nat.{ℕ, zero, suc, ◌+◌, ◌*◌, ◌-◌, ◌≤◌, ◌<◌}
use native.Mathlib.Omega.{arith}
use native.Mathlib.Decide.{dec_lt}
use lib.ListN.{length, get_or, take, drop}
use lib.Seq.{length-take-le, take-suc, take_all, take-take, split_at}
use lib.Dec.{leb}
use borrow.Author.Tests.{le-leb, lt-leb}
use Rattle.std.specs.Prelude.{Result, Ok, Err}
use Rattle.std.specs.Result.{OkIff, result_ok}
use Rattle.base.specs.Lists.{every}
use Rattle.base.specs.Options.{option_of}
use Rattle.lines.specs.Fields.{is_digit, most_number, value, is_number, number}

-- one digit more
pub value-more : (acc : ℕ) (l : List ℕ) (b : ℕ) → value acc (l ++ (b ∷ [])) ≡ 10 * value acc l + (b - 48)
unfolding value
value-more acc [] b = refl
value-more acc (c ∷ l) b = value-more (10 * acc + (c - 48)) l b

digit : (b : ℕ) → 48 ≤ b → b ≤ 57 → is_digit b ≡ true
digit b h k = rw (le-leb 48 b h, le-leb b 57 k)

pub digit_low : (b : ℕ) → b < 48 → is_digit b ≡ false
digit_low b h = rw (lt-leb 48 b h)

pub digit-high : (b : ℕ) → 57 < b → is_digit b ≡ false
digit-high b h = rw (le-leb 48 b (omega arith), lt-leb b 57 h)

pub digit-other : (b : ℕ) → (b < 48) ⊎ (57 < b) → is_digit b ≡ false
digit-other b (inl h) = digit_low b h
digit-other b (inr h) = digit-high b h

module _ {ℓ} {A : Type ℓ} (test : A → Bool) where
  pub every_more : (l : List A) (b : A) → every test l ≡ true → test b ≡ true → every test (l ++ (b ∷ [])) ≡ true
  unfolding every
  every_more [] b e t = rw t
  every_more (c ∷ l) b e t = go (test c) e (λ q. every_more l b q t)
    where
      go : (x : Bool) → cond x (every test l) false ≡ true → (every test l ≡ true → every test (l ++ (b ∷ [])) ≡ true) → cond x (every test (l ++ (b ∷ []))) false ≡ true
      go true e ih = ih e
      go false e ih = e

  pub every-fails : (l : List A) (b : A) (m : List A) → test b ≡ false → every test (l ++ (b ∷ m)) ≡ false
  unfolding every
  every-fails [] b m t = rw t
  every-fails (c ∷ l) b m t = go (test c) (every-fails l b m t)
    where
      go : (x : Bool) → every test (l ++ (b ∷ m)) ≡ false → cond x (every test (l ++ (b ∷ m))) false ≡ false
      go true e = e
      go false e = refl

-- below this stands the value of i digits
pub tens : ℕ → ℕ
tens zero = 1
tens (suc i) = 10 * tens i

tens-most : (i j : ℕ) → i ≤ j → tens i ≤ tens j
unfolding tens
tens-most zero zero h = omega arith
tens-most zero (suc j) h = omega (arith, tens-most zero j (omega arith))
tens-most (suc i) zero h = absurd (omega arith)
tens-most (suc i) (suc j) h = omega (arith, tens-most i j (omega arith))

-- the first i bytes of a field are digits, of the value v
pub record Valued (field : List ℕ) (i v : ℕ) : Type 0 where
  pub within : i ≤ length field
  pub all : every is_digit (take i field) ≡ true
  pub is : v ≡ value 0 (take i field)
  pub small : v < tens i

module _ (field : List ℕ) where
  pub valued-none : Valued field 0 0
  unfolding every value tens
  valued-none = record { within = omega arith; all = refl; is = refl; small = omega arith }

  pub valued-more : (i v : ℕ) → i < length field → 48 ≤ get_or field i 0 → get_or field i 0 ≤ 57 → Valued field i v → Valued field (i + 1) (10 * v + (get_or field i 0 - 48))
  unfolding tens
  valued-more i v h lo hi p =
      let e = take-suc field i 0 h in
      let z : i + 1 ≡ suc i = omega arith in
      rw z
      record {
        within = omega arith;
        all = ap (every is_digit) e ∙ every_more is_digit (take i field) (get_or field i 0) p.all (digit _ lo hi);
        is = ap (λ x. 10 * x + (get_or field i 0 - 48)) p.is ∙ sym (ap (value 0) e ∙ value-more 0 (take i field) (get_or field i 0));
        small = omega (arith, p.small);
      }

  -- another digit fits 64 bits, where at most ten are read
  pub valued_fits : (i v : ℕ) → i < 10 → Valued field i v → 10 * v + 9 < 10000000000
  unfolding tens
  valued_fits i v few p = omega (arith, p.small, tens-most i 9 (omega arith))

  -- the digits alone
  pub valued-front : (i v : ℕ) → Valued field i v → Valued (take i field) i v
  valued-front i v p =
      let e = take-take i i field (omega arith) in
      record {
        within = omega (arith, length-take-le i field p.within);
        all = ap (every is_digit) e ∙ p.all;
        is = p.is ∙ sym (ap (value 0) e);
        small = p.small;
      }

  unread : is_number field ≡ false → none ≡ number field
  unfolding number
  unread e = rw e

  -- a field of no byte, or of too many; one with another byte than a digit
  pub read-empty : length field ≡ 0 → none ≡ number field
  unfolding is_number
  read-empty e = unread (rw e)

  pub read-long : 10 < length field → none ≡ number field
  unfolding is_number
  read-long h = unread (rw (le-leb 1 (length field) (omega arith), lt-leb (length field) 10 h))

  undigit : every is_digit field ≡ false → is_number field ≡ false
  unfolding is_number
  undigit e = rw e (go (leb 1 (length field)) (leb (length field) 10))
    where
      go : (a b : Bool) → (a && (b && false)) ≡ false
      go true true = refl
      go true false = refl
      go false b = refl

  pub read-other : (i : ℕ) → i < length field → is_digit (get_or field i 0) ≡ false → none ≡ number field
  read-other i h t = unread (undigit (ap (every is_digit) (split_at field i 0 h) ∙ every-fails is_digit (take i field) (get_or field i 0) (drop (suc i) field) t))

  module _ (i v : ℕ) (any : 1 ≤ length field) (few : length field ≤ 10) (past : length field ≤ i) (p : Valued field i v) where
    whole : take i field ≡ field
    whole = take_all i field past

    pub read-great : most_number < v → none ≡ number field
    unfolding is_number
    read-great h =
        let k : most_number < value 0 field = omega (arith, p.is, ap (value 0) whole) in
        unread (rw (le-leb 1 (length field) any, le-leb (length field) 10 few, sym (ap (every is_digit) whole) ∙ p.all, lt-leb (value 0 field) most_number k))

    pub read_whole : v ≤ most_number → some v ≡ number field
    unfolding is_number number
    read_whole h =
        let e : v ≡ value 0 field = p.is ∙ ap (value 0) whole in
        rw (le-leb 1 (length field) any, le-leb (length field) 10 few, sym (ap (every is_digit) whole) ∙ p.all, le-leb (value 0 field) most_number (omega (arith, e))) (ap some e)

    -- what the conversion to 32 bits makes of the value
    pub read-converted : {E : Type 0} (r : Result ℕ E) → OkIff r (v < 4294967296) v → option_of (result_ok r) ≡ number field
    read-converted (Ok x) k = ap some k.1 ∙ read_whole (omega arith)
    read-converted (Err e) k = read-great (omega arith)

-- a number has digits alone
pub number-digit : (field : List ℕ) (v : ℕ) → some v ≡ number field → (i : ℕ) → i < length field → 48 ≤ get_or field i 0
number-digit field v e i h = go (dec_lt (get_or field i 0) 48)
  where
    go : Dec (get_or field i 0 < 48) → 48 ≤ get_or field i 0
    go (yes k) = absurd (none-ne-some v (read-other field i h (digit_low _ k) ∙ sym e))
    go (no k) = omega arith

-- a field with a comma in it is no number
pub number-comma : (f g : List ℕ) → number (f ++ (44 ∷ g)) ≡ none
unfolding number
number-comma f g = rw (undigit (f ++ (44 ∷ g)) (every-fails is_digit f 44 g refl))
