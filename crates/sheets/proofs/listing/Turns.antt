-- The lines of a text, one by one. Assumes nothing.
use mathlib.Core.Path.{◌≡◌, refl, sym, ap, ◌∙◌}
use mathlib.Core.List.{List, [], ◌∷◌, ◌++◌}
use mathlib.Core.Bool.{Bool, true, false, not, cond}
use mathlib.Core.Option.{Option, none, some, Option-elim, bind, none-ne-some}
use Prim.Native.Nat.{ℕ, suc, ◌+◌, ◌≤◌, ◌<◌}
use native.Mathlib.Omega.{arith}
use native.Mathlib.Decide.{dec_lt}
use lib.ListN.{length, drop, length-append, length-drop}
use borrow.Author.Tests.{le-leb, lt-leb, not-true, not-false}
use Rattle.base.specs.Amounts.{most_lines}
use Rattle.bands.specs.Bands.{Band, is_band}
use Rattle.lines.specs.Text.{line_feed}
use Rattle.lines.specs.Fields.{parted}
use Rattle.lines.specs.Results.{NextByte, part, ReadTo, NoneTo}
use Rattle.lines.specs.Bands.{band_line}
use Rattle.lines.proofs.Parts.{parted-some}
use Rattle.lines.proofs.Searches.{next-same, next_place}
use Rattle.lines.proofs.WholeLines.{rest-line, rest-cut, rest-none}
use Rattle.sheets.proofs.Readings.{reading-line}
use Rattle.sheets.specs.Texts.{bad, whole, line_band, reading, sheet_of}
use Rattle.sheets.specs.Keys.{Stored}
use Rattle.sheets.proofs.keys.Storing.{stored-none}

-- a line's band, test by test
module _ (depths : List ℕ) (d k : ℕ) (line : List ℕ) where
  line-past : most_lines < k → none ≡ line_band depths d k line
  unfolding line_band
  line-past h = rw (lt-leb k most_lines h)

  module _ (few : k ≤ most_lines) where
    stated : (o : Option Band) → o ≡ band_line line → bind o (λ b. cond (is_band depths d b) (some b) none) ≡ line_band depths d k line
    unfolding line_band
    stated o e = rw (e, le-leb k most_lines few)

    line_other : none ≡ band_line line → none ≡ line_band depths d k line
    unfolding bind
    line_other e = stated none e

    line-fair : (b : Band) (t : Bool) → some b ≡ band_line line → is_band depths d b ≡ t → cond t (some b) none ≡ line_band depths d k line
    unfolding bind
    line-fair b t e f = ap (λ u. cond u (some b) none) (sym f) ∙ stated (some b) e

-- the line from a place on: past the last, of another form, no band of a class that the sheet is to cover, and one
module _ (depths : List ℕ) (d k : ℕ) (text : List ℕ) (at : ℕ) where
  pub read_past : most_lines < k → NoneTo (line_band depths d k) text line_feed at
  read_past h e next w = line-past depths d k (part at e text) h

  module _ (few : k ≤ most_lines) where
    pub read-other : NoneTo band_line text line_feed at → NoneTo (line_band depths d k) text line_feed at
    read-other o e next w = line_other depths d k (part at e text) few (o e next w)

    module _ (b : Band) (n : ℕ) (s : ReadTo band_line text line_feed at b n) where
      fair : (t : Bool) → is_band depths d b ≡ t → cond t (some b) none ≡ line_band depths d k (part at s.end text)
      fair t f = line-fair depths d k (part at s.end text) few b t s.says f

      pub read-bad : (t : Bool) → t ≡ is_band depths d b → not t ≡ true → NoneTo (line_band depths d k) text line_feed at
      read-bad t f u e next w = rw (next-same text line_feed at e s.end next w s.found s.within) (fair false (sym f ∙ not-true t u))

      pub read-good : (t : Bool) → t ≡ is_band depths d b → not t ≡ false → ReadTo (line_band depths d k) text line_feed at b n
      read-good t f u = record { end = s.end; found = s.found; within = s.within; says = fair true (sym f ∙ not-false t u); behind = s.behind }

-- what the lines left say
module _ (depths : List ℕ) (d : ℕ) (bs : List Band) where
  module _ (l rest : List ℕ) where
    abbrev behind : List (List ℕ)
    behind = parted line_feed rest

    split : reading depths d bs (l ∷ behind) ≡ Option-elim (line_band depths d (suc (length bs)) l) (bad (suc (length bs))) (λ b. reading depths d (bs ++ (b ∷ [])) behind)
    split =
        let (m, ls, e) = parted-some line_feed rest in
        rw e (reading-line depths d bs l m ls)

    reading-bad : none ≡ line_band depths d (suc (length bs)) l → reading depths d bs (l ∷ behind) ≡ bad (suc (length bs))
    unfolding Option-elim
    reading-bad e = split ∙ rw (sym e)

    reading-more : (b : Band) → some b ≡ line_band depths d (suc (length bs)) l → reading depths d bs (l ∷ behind) ≡ reading depths d (bs ++ (b ∷ [])) behind
    unfolding Option-elim
    reading-more b e = split ∙ rw (sym e)

  reading-cut : (l : List ℕ) → 0 < length l → reading depths d bs (l ∷ []) ≡ bad (suc (length bs))
  unfolding reading
  reading-cut [] h = absurd (omega arith)
  reading-cut (x ∷ l) h = refl

  reading-end : reading depths d bs ([] ∷ []) ≡ whole bs
  unfolding reading
  reading-end = refl

module _ (depths : List ℕ) (d : ℕ) (text : List ℕ) where
  -- k lines were read, and the next begins at a place
  pub record Turned (words keys : List ℕ) (at k : ℕ) : Type 0 where
    pub bands : List Band
    pub many : length bands ≡ k
    pub few : k ≤ most_lines
    pub within : at ≤ length text
    pub stored : Stored words keys k bands
    pub says : sheet_of depths d text ≡ reading depths d bands (parted line_feed (drop at text))

  pub turn-none : (words keys : List ℕ) → Turned words keys 0 0
  unfolding sheet_of
  turn-none words keys = record { bands = []; many = refl; few = omega arith; within = omega arith; stored = stored-none words keys; says = refl }

  module _ (words keys : List ℕ) (at k : ℕ) (s : Turned words keys at k) where
    numbered : suc (length s.bands) ≡ k + 1
    numbered = omega (arith, s.many)

    pub turn_end : length text ≤ at → sheet_of depths d text ≡ whole s.bands
    turn_end h = s.says ∙ ap (reading depths d s.bands) (rest-none text at h) ∙ reading-end depths d s.bands

    -- what is left has a line up to the next line feed, or is cut short
    cut : at < length text → (end : ℕ) → NextByte text line_feed at end → length text ≤ end → sheet_of depths d text ≡ bad (k + 1)
    cut h end next c =
        s.says ∙ ap (reading depths d s.bands) (rest-cut text at end next c)
        ∙ reading-cut depths d s.bands (drop at text) (omega (arith, length-drop at text))
        ∙ ap bad numbered

    module _ (end : ℕ) (next : NextByte text line_feed at end) (h : end < length text) where
      abbrev line : List ℕ
      line = part at end text

      abbrev later : List ℕ
      later = drop (end + 1) text

      here : sheet_of depths d text ≡ reading depths d s.bands (line ∷ parted line_feed later)
      here = s.says ∙ ap (reading depths d s.bands) (rest-line text at end next h)

      line-is : (o : Option Band) → o ≡ line_band depths d (suc k) line → o ≡ line_band depths d (suc (length s.bands)) line
      line-is o e = e ∙ ap (λ n. line_band depths d (suc n) line) (sym s.many)

      line-none : none ≡ line_band depths d (suc k) line → sheet_of depths d text ≡ bad (k + 1)
      line-none e = here ∙ reading-bad depths d s.bands line later (line-is none e) ∙ ap bad numbered

      line-some : (b : Band) → some b ≡ line_band depths d (suc k) line → sheet_of depths d text ≡ reading depths d (s.bands ++ (b ∷ [])) (parted line_feed later)
      line-some b e = here ∙ reading-more depths d s.bands line later b (line-is (some b) e)

    pub turn-bad : at < length text → NoneTo (line_band depths d (suc k)) text line_feed at → sheet_of depths d text ≡ bad (k + 1)
    turn-bad h o = go (next_place text line_feed at).0 (next_place text line_feed at).1 (dec_lt (next_place text line_feed at).0 (length text))
      where
        go : (end : ℕ) → NextByte text line_feed at end → Dec (end < length text) → sheet_of depths d text ≡ bad (k + 1)
        go end next (yes w) = line-none end next w (o end next w)
        go end next (no w) = cut h end next (omega arith)

    module _ (b : Band) (n : ℕ) (r : ReadTo (line_band depths d (suc k)) text line_feed at b n) (words' keys' : List ℕ) where
      few-more : Dec (most_lines < suc k) → k + 1 ≤ most_lines
      few-more (yes h) = absurd (none-ne-some b (line-past depths d (suc k) (part at r.end text) h ∙ sym r.says))
      few-more (no h) = omega arith

      pub turn_more : ((bs : List Band) → Stored words keys k bs → Stored words' keys' (k + 1) (bs ++ (b ∷ []))) → Turned words' keys' n (k + 1)
      turn_more laid =
          record {
            bands = s.bands ++ (b ∷ []);
            many = omega (arith, s.many, length-append s.bands (b ∷ []));
            few = few-more (dec_lt most_lines (suc k));
            within = omega (arith, r.within, r.behind);
            stored = laid s.bands s.stored;
            says = rw r.behind (line-some r.end r.found r.within b r.says);
          }
