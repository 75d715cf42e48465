-- What a line of a sheet with bands says, field by field. Assumes nothing.
use mathlib.Core.Path.{◌≡◌, refl, sym, ap, ◌∙◌, subst}
use mathlib.Core.List.{List, [], ◌∷◌}
use mathlib.Core.Option.{Option, none, some, map, bind}
use Prim.Native.Nat.{ℕ, ◌+◌, ◌-◌, ◌≤◌, ◌<◌}
use native.Mathlib.Omega.{arith}
use native.Mathlib.Decide.{dec_lt}
use lib.ListN.{length, get_or}
use Rattle.bands.specs.Bands.{Band}
use Rattle.lines.specs.Text.{comma, line_feed}
use Rattle.lines.specs.Fields.{fields, number, single}
use Rattle.lines.specs.Bands.{band_fields, band_line}
use Rattle.lines.specs.Results.{NextByte, part, ReadTo, NoneTo}
use Rattle.lines.proofs.Digits.{number-digit, number-comma}
use Rattle.lines.proofs.Parts.{single-read}
use Rattle.lines.proofs.Searches.{next_place}
use Rattle.lines.proofs.Cuts.{part_length, part-byte, part-next, part-last}

-- the band of four numbers that were read
abbrev banded : Option ℕ → Option ℕ → Option ℕ → Option ℕ → Option Band
banded c f t r = bind c (λ class. bind f (λ from. bind t (λ to. map (λ rate. record { class = class; from = from; to = to; rate = rate }) r)))

none_from : (c t r : Option ℕ) → banded c none t r ≡ none
unfolding bind
none_from none t r = refl
none_from (some x) t r = refl

none-to : (c f r : Option ℕ) → banded c f none r ≡ none
unfolding bind
none-to none f r = refl
none-to (some x) none r = refl
none-to (some x) (some y) r = refl

none-rate : (c f t : Option ℕ) → banded c f t none ≡ none
unfolding bind
none-rate none f t = refl
none-rate (some x) none t = refl
none-rate (some x) (some y) none = refl
none-rate (some x) (some y) (some z) = refl

-- the fourth field is all that is left, for a number has no comma in it
fields-single : (c f t : List ℕ) (fs : List (List ℕ)) → band_fields (c ∷ f ∷ t ∷ fs) ≡ banded (number c) (number f) (number t) (bind (single fs) number)
unfolding band_fields single bind
fields-single c f t [] = sym (none-rate (number c) (number f) (number t))
fields-single c f t (r ∷ []) = refl
fields-single c f t (r ∷ x ∷ fs) = sym (none-rate (number c) (number f) (number t))

fields-last : (c f t r : List ℕ) → band_fields (c ∷ f ∷ t ∷ fields r) ≡ banded (number c) (number f) (number t) (number r)
fields-last c f t r = fields-single c f t (fields r) ∙ ap (banded (number c) (number f) (number t)) (single-read number number-comma r)

-- a reader of fields, and what is left of it behind a field
abbrev Reader : Type 0
Reader = List (List ℕ) → Option Band

abbrev rest : Reader → List ℕ → Reader
rest read f fs = read (f ∷ fs)

-- a reader that takes no field alone, and no first one that is no number
record Further (read : Reader) : Type 0 where
  alone : (f : List ℕ) → none ≡ read (f ∷ [])
  other : (f : List ℕ) (fs : List (List ℕ)) → none ≡ number f → none ≡ read (f ∷ fs)

-- what is read behind no field, behind one and behind two
further-class : Further band_fields
unfolding band_fields bind
further-class = record { alone = λ f. refl; other = go }
  where
    go : (c : List ℕ) (fs : List (List ℕ)) → none ≡ number c → none ≡ band_fields (c ∷ fs)
    go c [] n = refl
    go c (f ∷ []) n = refl
    go c (f ∷ t ∷ fs) n = rw (fields-single c f t fs, sym n)

further-from : (c : List ℕ) → Further (rest band_fields c)
unfolding band_fields
further-from c = record { alone = λ f. refl; other = go }
  where
    go : (f : List ℕ) (fs : List (List ℕ)) → none ≡ number f → none ≡ band_fields (c ∷ f ∷ fs)
    go f [] n = refl
    go f (t ∷ fs) n = rw (fields-single c f t fs, sym n, none_from (number c) (number t) (bind (single fs) number))

further-to : (c f : List ℕ) → Further (rest (rest band_fields c) f)
unfolding band_fields
further-to c f = record { alone = λ t. refl; other = λ t fs n. rw (fields-single c f t fs, sym n, none-to (number c) (number f) (bind (single fs) number)) }

-- what a reader of fields says of the line from a place on
abbrev Says : Reader → List ℕ → ℕ → Band → ℕ → Type 0
Says read text at b next = ReadTo (λ l. read (fields l)) text line_feed at b next

abbrev Silent : Reader → List ℕ → ℕ → Type 0
Silent read text at = NoneTo (λ l. read (fields l)) text line_feed at

-- no number stands up to the next comma: the line ends before that, or has it behind a field that is none
no_number : (read : Reader) → Further read → (text : List ℕ) (at : ℕ) → NoneTo number text comma at → Silent read text at
no_number read more text at o e next w = go (next_place text comma at).0 (next_place text comma at).1 (dec_lt (next_place text comma at).0 e)
  where
    go : (p : ℕ) → NextByte text comma at p → Dec (p < e) → none ≡ read (fields (part at e text))
    go p q (yes h) = more.other (part at p text) (fields (part (p + 1) e text)) (o p q (omega arith)) ∙ sym (ap read (part-next comma text at p q (omega arith) e h))
    go p q (no h) = more.alone (part at e text) ∙ sym (ap read (part-last comma text at p q e (omega arith)))

-- behind a number and its comma the line goes on
module _ (text : List ℕ) (at x n : ℕ) (first : ReadTo number text comma at x n) where
  abbrev p : ℕ
  p = first.end

  -- up to the comma there are digits, and no line feed
  digits : (k : ℕ) → at ≤ k → k < p → 48 ≤ get_or text k 0
  digits k a b =
      omega (
        arith,
        part-byte text at p k a b,
        number-digit (part at p text) x first.says (k - at) (omega (arith, part_length text at p (omega (arith, first.within)))),
      )

  unended : (k : ℕ) → at ≤ k → k < p + 1 → get_or text k 0 ≡ line_feed → ⊥
  unended k a b e = go (dec_lt k p)
    where
      go : Dec (k < p) → ⊥
      go (yes h) = omega (arith, digits k a h)
      go (no h) =
          let z : k ≡ p = omega arith in
          omega (arith, ap (λ j. get_or text j 0) z, first.found.there first.within)

  -- so the line ends behind it, at the next line feed from there
  later : (e : ℕ) → NextByte text line_feed at e → e < length text → p < e
  later e next w = go (dec_lt p e)
    where
      go : Dec (p < e) → p < e
      go (yes h) = h
      go (no h) = absurd (unended e next.behind (omega arith) (next.there w))

  behind : (e : ℕ) → p < e → NextByte text line_feed at e → NextByte text line_feed (p + 1) e
  behind e h next =
      record {
        behind = omega arith;
        within = λ k. next.within (omega (arith, first.found.behind));
        others = λ k a b. next.others k (omega (arith, first.found.behind)) b;
        there = next.there;
      }

  before : (e : ℕ) → NextByte text line_feed (p + 1) e → NextByte text line_feed at e
  before e next =
      record {
        behind = omega (arith, next.behind, first.found.behind);
        within = λ k. next.within (omega (arith, first.within));
        others = λ k a b q. go k a b q (dec_lt k (p + 1));
        there = next.there;
      }
    where
      go : (k : ℕ) → at ≤ k → k < e → get_or text k 0 ≡ line_feed → Dec (k < p + 1) → ⊥
      go k a b q (yes h) = unended k a h q
      go k a b q (no h) = next.others k (omega arith) b q

  abbrev field : List ℕ
  field = part at p text

  module _ (read : Reader) where
    on : (e : ℕ) → p < e → read (field ∷ fields (part (p + 1) e text)) ≡ read (fields (part at e text))
    on e h = sym (ap read (part-next comma text at p first.found first.within e h))

    -- and says what its other fields say behind this one
    still-silent : Silent (rest read field) text n → Silent read text at
    still-silent o e next w =
        let h = later e next w in
        subst (Silent (rest read field) text) first.behind o e (behind e h next) w ∙ on e h

    still-says : (b : Band) (next : ℕ) → Says (rest read field) text n b next → Says read text at b next
    still-says b next s =
        let s' = subst (λ k. Says (rest read field) text k b next) first.behind s in
        record { end = s'.end; found = before s'.end s'.found; within = s'.within; says = s'.says ∙ on s'.end (omega (arith, s'.found.behind)); behind = s'.behind }

-- a line without a number for its class, its start, its end or its rate, and one with all four
pub band-class : (text : List ℕ) (at : ℕ) → NoneTo number text comma at → NoneTo band_line text line_feed at
unfolding band_line
band-class text at o = no_number band_fields further-class text at o

module _ (text : List ℕ) (at c a : ℕ) (first : ReadTo number text comma at c a) where
  abbrev class : List ℕ
  class = part at first.end text

  pub band-from : NoneTo number text comma a → NoneTo band_line text line_feed at
  unfolding band_line
  band-from o = still-silent text at c a first band_fields (no_number (rest band_fields class) (further-from class) text a o)

  module _ (f b : ℕ) (second : ReadTo number text comma a f b) where
    abbrev from : List ℕ
    from = part a second.end text

    abbrev left : Reader
    left = rest (rest band_fields class) from

    left-silent : Silent left text b → NoneTo band_line text line_feed at
    unfolding band_line
    left-silent o = still-silent text at c a first band_fields (still-silent text a f b second (rest band_fields class) o)

    pub band-to : NoneTo number text comma b → NoneTo band_line text line_feed at
    band-to o = left-silent (no_number left (further-to class from) text b o)

    module _ (t d : ℕ) (third : ReadTo number text comma b t d) where
      abbrev to : List ℕ
      to = part b third.end text

      pub band-rate : NoneTo number text line_feed d → NoneTo band_line text line_feed at
      band-rate o =
          left-silent
          (still-silent text b t d third left
          (λ e next w. rw (fields-last class from to (part d e text), ← o e next w, none-rate (number class) (number from) (number to))))

      pub band-read : (r next : ℕ) → ReadTo number text line_feed d r next → ReadTo band_line text line_feed at (record { class = c; from = f; to = t; rate = r }) next
      unfolding band_line bind
      band-read r next s =
          let band : Band = record { class = c; from = f; to = t; rate = r } in
          let is : some band ≡ left (to ∷ fields (part d s.end text)) = rw (fields-last class from to (part d s.end text), ← first.says, ← second.says, ← third.says, ← s.says) in
          still-says text at c a first band_fields band next
          (still-says text a f b second (rest band_fields class) band next
          (still-says text b t d third left band next record { end = s.end; found = s.found; within = s.within; says = is; behind = s.behind }))
