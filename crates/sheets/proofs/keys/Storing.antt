-- A line stored behind others. Assumes nothing.
use mathlib.Core.Path.{◌≡◌, refl, ap, ◌∙◌}
use mathlib.Core.List.{List, [], ◌∷◌, ◌++◌, map, map-append}
use Prim.Native.Nat.{ℕ, suc, ◌+◌, ◌*◌, ◌≤◌, ◌<◌}
use native.Mathlib.Omega.{arith}
use native.Mathlib.Numerals.{add-one}
use native.Mathlib.Decide.{ℕ_discrete}
use lib.ListN.{length, get_or, take, set, length-append, length-set, get_or-append}
use lib.Seq.{length-take-le, take-suc-set, get_or-take, get_or_at, get_or-set_same, get_or-set_other}
use Rattle.base.specs.Limits.{most_entries}
use Rattle.base.specs.Amounts.{most_lines, most_sum, most_rate}
use Rattle.bands.specs.Bands.{Band}
use Rattle.sheets.specs.Keys.{key_class, key_from, key_line, word_to, word_rate, band_at, key_bands, Legal, Stored}

map_same {ℓ} : {B : Type ℓ} (f g : ℕ → B) (l : List ℕ) → ((i : ℕ) → i < length l → f (get_or l i 0) ≡ g (get_or l i 0)) → map f l ≡ map g l
map_same f g [] h = refl
map_same f g (x ∷ l) h = rw (h 0 (omega arith), map_same f g l (λ i b. h (suc i) (omega arith)))

pub stored-none : (words keys : List ℕ) → Stored words keys 0 []
unfolding key_bands
stored-none words keys = record {
  legal = record { known = λ i h. absurd (omega arith); lined = λ i h. absurd (omega arith); ordered = λ i h. absurd (omega arith); within = λ i h. absurd (omega arith); limit = λ i h. absurd (omega arith) };
  lines = λ i h. absurd (omega arith);
  bands = refl;
}

module _ (words keys : List ℕ) (at class from to rate : ℕ) (few : at < most_lines) (in-keys : at < length keys) (in_words_lem : at < length words)
    (entry : class < most_entries) (ordered : from ≤ to) (most : to ≤ most_sum) (fair : rate ≤ most_rate) where
  abbrev key : ℕ
  key = class * 8796093022208 + from * 4096 + at

  abbrev word : ℕ
  word = to * 1048576 + rate

  abbrev words' : List ℕ
  words' = set words at word

  abbrev old : List ℕ
  old = take at keys

  new_is : take (at + 1) (set keys at key) ≡ old ++ (key ∷ [])
  new_is = rw (add-one, take-suc-set keys at key in-keys)

  old-size : length old ≡ at
  old-size = length-take-le at keys (omega arith)

  class-is : key_class key ≡ class
  class-is = omega arith

  from_is : key_from key ≡ from
  from_is = omega arith

  line-is : key_line key ≡ at
  line-is = omega arith

  word-is : get_or words' (key_line key) 0 ≡ word
  word-is = ap (λ n. get_or words' n 0) line-is ∙ get_or-set_same words at word 0 in_words_lem

  to_is : word_to (get_or words' (key_line key) 0) ≡ to
  to_is = ap word_to word-is ∙ (let e : word_to word ≡ to = omega arith in e)

  rate-is : word_rate (get_or words' (key_line key) 0) ≡ rate
  rate-is = ap word_rate word-is ∙ (let e : word_rate word ≡ rate = omega arith in e)

  -- what holds of the new key and of those before holds of each
  each : (P : ℕ → Type 0) → P key → ((i : ℕ) → i < at → P (get_or old i 0)) → (i : ℕ) → i < length (old ++ (key ∷ [])) → P (get_or (old ++ (key ∷ [])) i 0)
  each P p q i h = go (ℕ_discrete i at)
    where
      go : Dec (i ≡ at) → P (get_or (old ++ (key ∷ [])) i 0)
      go (yes e) = rw (e, get_or_at old key [] 0 at old-size) p
      go (no e) = rw (get_or-append old (key ∷ []) 0 i (omega (arith, length-append old (key ∷ []), old-size))) (q i (omega (arith, length-append old (key ∷ []), old-size)))

  module _ (bs : List Band) (s : Stored words keys at bs) where
    -- the words of the lines before stay
    stays : (i : ℕ) → i < at → get_or words' (key_line (get_or old i 0)) 0 ≡ get_or words (key_line (get_or old i 0)) 0
    stays i h = get_or-set_other words at (key_line (get_or old i 0)) word 0 (λ e. omega (arith, s.lines i h, get_or-take at keys i 0 h))

    long : (i : ℕ) → i < at → i < length old
    long i h = omega (arith, old-size)

    more-legal : Legal words' (old ++ (key ∷ []))
    more-legal = record {
      known = each (λ k. key_class k < most_entries) (rw class-is entry) (λ i h. s.legal.known i (long i h));
      lined = each (λ k. key_line k < length words') (omega (arith, length-set words at word)) (λ i h. omega (arith, s.legal.lined i (long i h), length-set words at word));
      ordered = each (λ k. key_from k ≤ word_to (get_or words' (key_line k) 0)) (omega (arith, from_is, to_is)) (λ i h. rw (stays i h) (s.legal.ordered i (long i h)));
      within = each (λ k. word_to (get_or words' (key_line k) 0) ≤ most_sum) (omega (arith, to_is)) (λ i h. rw (stays i h) (s.legal.within i (long i h)));
      limit = each (λ k. word_rate (get_or words' (key_line k) 0) ≤ most_rate) (omega (arith, rate-is)) (λ i h. rw (stays i h) (s.legal.limit i (long i h)));
    }

    abbrev made : ℕ → ℕ → ℕ → ℕ → Band
    made c f t r = record { class = c; from = f; to = t; rate = r }

    band-is : band_at words' key ≡ made class from to rate
    unfolding band_at
    band-is =
        ap (λ v. made v (key_from key) (word_to (get_or words' (key_line key) 0)) (word_rate (get_or words' (key_line key) 0))) class-is
        ∙ ap (λ v. made class v (word_to (get_or words' (key_line key) 0)) (word_rate (get_or words' (key_line key) 0))) from_is
        ∙ ap (λ v. made class from v (word_rate (get_or words' (key_line key) 0))) to_is
        ∙ ap (made class from to) rate-is

    same-bands : map (band_at words') old ≡ map (band_at words) old
    unfolding band_at
    same-bands = map_same (band_at words') (band_at words) old (λ i h. ap (λ w. made (key_class (get_or old i 0)) (key_from (get_or old i 0)) (word_to w) (word_rate w)) (stays i (omega (arith, old-size))))

    pub stored_more : Stored words' (set keys at key) (at + 1) (bs ++ (made class from to rate ∷ []))
    unfolding key_bands
    stored_more = record {
      legal = rw new_is more-legal;
      lines = λ i h. go i h (ℕ_discrete i at);
      bands =
          ap (map (band_at words')) new_is
          ∙ map-append (band_at words') old (key ∷ [])
          ∙ ap (λ l. l ++ (band_at words' key ∷ [])) (same-bands ∙ s.bands)
          ∙ ap (λ b. bs ++ (b ∷ [])) band-is;
    }
      where
        go : (i : ℕ) → i < at + 1 → Dec (i ≡ at) → key_line (get_or (set keys at key) i 0) ≡ i
        go i h (yes e) = rw (e, get_or-set_same keys at key 0 in-keys) line-is
        go i h (no e) = rw (get_or-set_other keys at i key 0 e) (s.lines i (omega arith))
